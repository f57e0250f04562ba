use Rattle.mage_planner.proofs.UpgradeLemmas.{upgrades_keep_carried}
use Rattle.mage_planner.proofs.laws.upgrades_keep_carried.Goals as goal

pub returns : goal.returns
returns c = upgrades_keep_carried
