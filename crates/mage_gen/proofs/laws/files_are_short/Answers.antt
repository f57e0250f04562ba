use Rattle.mage_gen.proofs.OrderTexts.{source_is_short, garbler_is_short, evaluator_is_short}
use Rattle.mage_gen.proofs.laws.files_are_short.Goals as goal

pub returns-clause-source : goal.returns-clause-source
returns-clause-source c = source_is_short

pub returns-clause-garbler : goal.returns-clause-garbler
returns-clause-garbler c = garbler_is_short

pub returns-clause-evaluator : goal.returns-clause-evaluator
returns-clause-evaluator c = evaluator_is_short
