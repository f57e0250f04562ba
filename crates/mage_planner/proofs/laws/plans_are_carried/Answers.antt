use Rattle.mage_planner.proofs.CarriedLemmas.{plans_are_carried}
use Rattle.mage_planner.proofs.laws.plans_are_carried.Goals as goal

pub returns : goal.returns
returns c = plans_are_carried
