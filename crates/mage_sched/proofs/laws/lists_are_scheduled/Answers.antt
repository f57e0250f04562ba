use Rattle.mage_sched.proofs.Planned.{lists_are_scheduled}
use Rattle.mage_sched.proofs.laws.lists_are_scheduled.Goals as goal

pub returns : goal.returns
returns c = lists_are_scheduled
