use Rattle.mage_residency.proofs.Joining.{transfers_at_once_carry}
use Rattle.mage_residency.proofs.laws.transfers_at_once_carry.Goals as goal

pub returns : goal.returns
returns c = transfers_at_once_carry
