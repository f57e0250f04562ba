use Rattle.mage_source_runs.proofs.Counting.{plans_move_as_counted}
use Rattle.mage_source_runs.proofs.laws.plans_move_as_counted.Goals as goal

pub returns : goal.returns
returns c = plans_move_as_counted
