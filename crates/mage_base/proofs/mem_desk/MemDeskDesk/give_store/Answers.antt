use Rattle.std.proofs.Common.{refl}
use Rattle.mage_base.proofs.mem_desk.MemDeskDesk.give_store.Goals as goal

pub returns-clause-told : goal.returns-clause-told
returns-clause-told c = rw (← c.self.view_is, c.give.ensures.lent, c.give.ensures.returned, c.counts.ensures) refl
