use Rattle.mage_eval.proofs.PuttingOut.{puts_out_the_decoded}
use Rattle.mage_eval.proofs.laws.law_of_outputs.Goals as goal

pub returns : goal.returns
returns c = puts_out_the_decoded
