use Rattle.mage_written.proofs.Files.{plans_are_plans}
use Rattle.mage_written.proofs.laws.plans_are_plans.Goals as goal

pub returns : goal.returns
returns c = plans_are_plans
