use Rattle.mage_file.proofs.FileLaws.{reads_first_exactly}
use Rattle.mage_file.proofs.laws.read_first_exactly.Goals as goal

pub returns : goal.returns
returns c = reads_first_exactly
