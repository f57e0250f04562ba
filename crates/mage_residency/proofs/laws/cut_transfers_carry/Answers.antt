use Rattle.mage_residency.proofs.Cutting.{cut_transfers_carry}
use Rattle.mage_residency.proofs.laws.cut_transfers_carry.Goals as goal

pub returns : goal.returns
returns c = cut_transfers_carry
