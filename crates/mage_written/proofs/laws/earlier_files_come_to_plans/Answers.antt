use Rattle.mage_written.proofs.Files.{earlier_files_come_to_plans}
use Rattle.mage_written.proofs.laws.earlier_files_come_to_plans.Goals as goal

pub returns : goal.returns
returns c = earlier_files_come_to_plans
