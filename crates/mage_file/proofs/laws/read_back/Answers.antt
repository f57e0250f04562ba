use Rattle.mage_file.proofs.FileLaws.{reads_back}
use Rattle.mage_file.proofs.laws.read_back.Goals as goal

pub returns : goal.returns
returns c = reads_back
