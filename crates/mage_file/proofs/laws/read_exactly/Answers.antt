use Rattle.mage_file.proofs.FileLaws.{reads_exactly}
use Rattle.mage_file.proofs.laws.read_exactly.Goals as goal

pub returns : goal.returns
returns c = reads_exactly
