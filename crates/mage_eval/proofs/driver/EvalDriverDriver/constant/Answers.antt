use Rattle.std.proofs.Common.{refl}
use Rattle.mage_label.specs.Labels.{blank}
use Rattle.mage_eval.proofs.driver.EvalDriverDriver.constant.Goals as goal

pub returns : goal.returns
unfolding blank
returns g c = refl
