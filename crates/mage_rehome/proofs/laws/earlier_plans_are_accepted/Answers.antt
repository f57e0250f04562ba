use Rattle.mage_rehome.proofs.Passed.{earlier_plans_are_accepted}
use Rattle.mage_rehome.proofs.laws.earlier_plans_are_accepted.Goals as goal

pub returns : goal.returns
returns c = earlier_plans_are_accepted
