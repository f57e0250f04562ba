use Rattle.mage_accepted.proofs.Short.{passed_plans_are_short}
use Rattle.mage_accepted.proofs.laws.passed_plans_are_short.Goals as goal

pub returns : goal.returns
returns c = passed_plans_are_short
