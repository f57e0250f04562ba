use Rattle.mage_place.proofs.Determined.{one_list_of_places}
use Rattle.mage_place.proofs.laws.places_are_determined.Goals as goal

pub returns : goal.returns
returns c = one_list_of_places
