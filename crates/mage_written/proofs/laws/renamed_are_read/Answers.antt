use Rattle.mage_written.proofs.Renamed.{renamed_are_read}
use Rattle.mage_written.proofs.laws.renamed_are_read.Goals as goal

pub returns : goal.returns
returns c = renamed_are_read
