use Rattle.std.proofs.Common.{ap, refl}
use Rattle.mage_base.specs.Store.{StoreTold}
use Rattle.mage_port.specs.Port.{AskedWrite}
use Rattle.mage_store.specs.SerialPort.{has_failed}
use Rattle.mage_store.specs.Slots.{state_at, bytes_to_write}
use Rattle.mage_store.proofs.SlotLemmas.{within_active}
use Rattle.mage_store.proofs.SerialLemmas.{came_write, came_failed}
use Rattle.mage_store.proofs.serial_port.SerialPort.write.Goals as goal

pub invariant_of-self : goal.invariant_of-self
invariant_of-self g c =
    let inside = c.self.inside in
    let asked = rw (← c.self.view_is) at c.requires in
    rw (c.in-Ok.ensures.writes.1, c.rest.ensures, c.note_write.ensures) (came_write (g.S.Store.tells inside.first.value) (g.S.Store.tells inside.store) inside.slots inside.history.transfers c.args.slot c.args.page c.buffer-bytes.result.now c.self.invariant (ap has_failed asked))

pub invariant_of-self-in-Err : goal.invariant_of-self-in-Err
invariant_of-self-in-Err g c =
    let inside = c.self.inside in
    let asked = rw (← c.self.view_is) at c.requires in
    let within = within_active inside.slots.states c.args.slot (AskedWrite c.args.page (bytes_to_write (state_at inside.slots c.args.slot))) asked refl in
    let left = c.in-Err.ensures.writes.1 in
    rw c.fail.ensures (came_failed (g.S.Store.tells inside.first.value) (g.S.Store.tells inside.store) (g.S.Store.tells c.write.new.self) inside.slots inside.history.transfers c.args.slot c.args.page c.self.invariant within
    (ap (λ (t : StoreTold). t.page_bytes) left) (ap (λ (t : StoreTold). t.log) left) (ap (λ (t : StoreTold). t.steady) left) (ap (λ (t : StoreTold). t.page_count) left) c.in-Err.ensures.cause.0 c.in-Err.ensures.cause.1)
