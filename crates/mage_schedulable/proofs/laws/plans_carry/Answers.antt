use Rattle.mage_schedulable.proofs.Planning.{plans_carry}
use Rattle.mage_schedulable.proofs.laws.plans_carry.Goals as goal

pub returns : goal.returns
returns c = plans_carry
