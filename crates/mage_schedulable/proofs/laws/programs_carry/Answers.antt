use Rattle.mage_schedulable.proofs.Planning.{programs_carry}
use Rattle.mage_schedulable.proofs.laws.programs_carry.Goals as goal

pub returns : goal.returns
returns c = programs_carry
