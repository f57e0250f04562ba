use Rattle.mage_file.proofs.LengthLaws.{so_long}
use Rattle.mage_file.proofs.laws.spells_so_long.Goals as goal

pub returns : goal.returns
returns c = so_long
