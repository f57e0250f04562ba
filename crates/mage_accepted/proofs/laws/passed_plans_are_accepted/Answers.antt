use Rattle.mage_accepted.proofs.Ranges.{passed_plans_are_accepted}
use Rattle.mage_accepted.proofs.laws.passed_plans_are_accepted.Goals as goal

pub returns : goal.returns
returns c = passed_plans_are_accepted
