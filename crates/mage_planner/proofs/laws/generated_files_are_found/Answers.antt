use Rattle.mage_planner.proofs.GeneratedFiles.{generated_files_are_found}
use Rattle.mage_planner.proofs.laws.generated_files_are_found.Goals as goal

pub returns : goal.returns
returns c = generated_files_are_found
