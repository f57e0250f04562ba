use Rattle.mage_place.proofs.StepsComputed.{AreSteps-computed}
use Rattle.mage_place.proofs.laws.steps_are_computed.Goals as goal

pub returns : goal.returns
returns c = AreSteps-computed
