use Rattle.mage_pipe.proofs.Alike.{plans_fail_as_costs}
use Rattle.mage_pipe.proofs.laws.plans_fail_as_costs.Goals as goal

pub returns : goal.returns
returns c = plans_fail_as_costs
