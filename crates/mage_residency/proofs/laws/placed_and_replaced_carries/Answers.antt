use Rattle.mage_residency.proofs.Carrying.{rule_carries}
use Rattle.mage_residency.proofs.laws.placed_and_replaced_carries.Goals as goal

pub returns : goal.returns
returns c = rule_carries
