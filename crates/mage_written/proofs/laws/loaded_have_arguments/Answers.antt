use Rattle.mage_written.proofs.Files.{loaded_have_arguments}
use Rattle.mage_written.proofs.laws.loaded_have_arguments.Goals as goal

pub returns : goal.returns
returns c = loaded_have_arguments
