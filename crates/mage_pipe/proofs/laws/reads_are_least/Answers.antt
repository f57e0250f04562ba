use Rattle.mage_pipe.proofs.LeastReads.{reads_are_least}
use Rattle.mage_pipe.proofs.laws.reads_are_least.Goals as goal

pub returns : goal.returns
returns c = reads_are_least
