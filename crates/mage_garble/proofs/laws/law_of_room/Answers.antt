use Rattle.mage_garble.proofs.Fitting.{none_stops}
use Rattle.mage_garble.proofs.laws.law_of_room.Goals as goal

pub returns : goal.returns
returns c = none_stops
