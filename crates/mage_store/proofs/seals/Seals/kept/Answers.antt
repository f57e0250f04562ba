use Rattle.std.proofs.Common.{refl}
use Rattle.mage_store.proofs.seals.Seals.kept.Goals as goal

pub returns-in-Some : goal.returns-in-Some
returns-in-Some c = rw (← c.self.view_is, ← c.in-Some.ensures.value) refl

pub returns-in-None : goal.returns-in-None
returns-in-None c = rw (← c.self.view_is, ← c.in-None.ensures.value) tt
