use Rattle.mage_place.proofs.PlacesComputed.{ArePlaces-computed}
use Rattle.mage_place.proofs.laws.places_are_computed.Goals as goal

pub returns : goal.returns
returns c = ArePlaces-computed
