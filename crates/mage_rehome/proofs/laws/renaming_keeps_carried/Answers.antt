use Rattle.mage_rehome.proofs.Renaming.{renaming_keeps_carried}
use Rattle.mage_rehome.proofs.laws.renaming_keeps_carried.Goals as goal

pub returns : goal.returns
returns c = renaming_keeps_carried
