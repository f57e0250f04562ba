use Rattle.mage_sched.proofs.Own.{schedules_are_plain}
use Rattle.mage_sched.proofs.laws.schedules_are_plain.Goals as goal

pub returns : goal.returns
returns c = schedules_are_plain
