use Rattle.mage_schedulable.proofs.Planning.{schedules_carry}
use Rattle.mage_schedulable.proofs.laws.schedules_carry.Goals as goal

pub returns : goal.returns
returns c = schedules_carry
