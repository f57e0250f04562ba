use Rattle.mage_schedulable.proofs.PlansOf.{passes_plan}
use Rattle.mage_schedulable.proofs.laws.passes_plan.Goals as goal

pub returns : goal.returns
returns c = passes_plan
