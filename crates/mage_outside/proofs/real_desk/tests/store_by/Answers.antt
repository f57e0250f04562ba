use Rattle.std.proofs.lemmas.List.Elements.{Contains-push}
use Rattle.mage_outside.proofs.real_desk.tests.store_by.Goals as goal

pub give_store-requires : goal.give_store-requires
give_store-requires g c = rw c.in-Ok.ensures.rest (Contains-push _ _)
