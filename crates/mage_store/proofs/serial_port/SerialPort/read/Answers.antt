use Rattle.std.proofs.Common.{ap, refl}
use Rattle.mage_base.specs.Store.{StoreTold}
use Rattle.mage_port.specs.Port.{AskedRead}
use Rattle.mage_store.specs.SerialPort.{has_failed}
use Rattle.mage_store.proofs.SlotLemmas.{within_active}
use Rattle.mage_store.proofs.SerialLemmas.{came_read, came_failed}
use Rattle.mage_store.proofs.serial_port.SerialPort.read.Goals as goal

pub invariant_of-self : goal.invariant_of-self
invariant_of-self g c =
    let inside = c.self.inside in
    let asked = rw (← c.self.view_is) at c.requires.asked in
    rw (c.in-Ok.ensures.reads.2, c.rest.ensures, c.note_read.ensures) (came_read (g.S.Store.tells inside.first.value) (g.S.Store.tells inside.store) inside.slots inside.history.transfers c.args.slot c.args.page c.read.new.into c.self.invariant (ap has_failed asked))

pub invariant_of-self-in-Err : goal.invariant_of-self-in-Err
invariant_of-self-in-Err g c =
    let inside = c.self.inside in
    let asked = rw (← c.self.view_is) at c.requires.asked in
    let within = within_active inside.slots.states c.args.slot (AskedRead c.args.page) asked refl in
    let left = c.in-Err.ensures.reads in
    rw c.fail.ensures (came_failed (g.S.Store.tells inside.first.value) (g.S.Store.tells inside.store) (g.S.Store.tells c.read.new.self) inside.slots inside.history.transfers c.args.slot c.args.page c.self.invariant within
    (ap (λ (t : StoreTold). t.page_bytes) left) (ap (λ (t : StoreTold). t.log) left) (ap (λ (t : StoreTold). t.steady) left) (ap (λ (t : StoreTold). t.page_count) left) c.in-Err.ensures.cause.0 c.in-Err.ensures.cause.1)
