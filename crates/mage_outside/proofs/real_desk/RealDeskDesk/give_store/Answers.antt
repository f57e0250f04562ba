use Rattle.std.proofs.Common.{refl}
use Rattle.mage_outside.proofs.real_desk.RealDeskDesk.give_store.Goals as goal

pub returns : goal.returns
returns g c = rw (c.give.ensures.lent, c.give.ensures.returned, c.counts.ensures) refl
