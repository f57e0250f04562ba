use Rattle.mage_planner.proofs.UpgradeLemmas.{earlier_files_come_to_todays}
use Rattle.mage_planner.proofs.laws.earlier_files_come_to_todays.Goals as goal

pub returns : goal.returns
returns c = earlier_files_come_to_todays
