use Rattle.mage_file.proofs.FileLaws.{reads_first_back}
use Rattle.mage_file.proofs.laws.read_first_back.Goals as goal

pub returns : goal.returns
returns c = reads_first_back
