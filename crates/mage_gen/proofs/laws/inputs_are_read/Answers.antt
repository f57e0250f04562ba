use Rattle.mage_gen.proofs.OrderTexts.{garbler_is_read, evaluator_is_read}
use Rattle.mage_gen.proofs.laws.inputs_are_read.Goals as goal

pub returns-clause-garbler : goal.returns-clause-garbler
returns-clause-garbler c = garbler_is_read

pub returns-clause-evaluator : goal.returns-clause-evaluator
returns-clause-evaluator c = evaluator_is_read
