use Rattle.std.proofs.Common.{ap, refl}
use Rattle.mage_port.specs.Port.{AskedWrite}
use Rattle.mage_store.specs.SerialPort.{has_failed}
use Rattle.mage_store.proofs.SerialLemmas.{came_asked}
use Rattle.mage_store.proofs.serial_port.SerialPortSwapPort.ask_write.Goals as goal

pub invariant_of-self : goal.invariant_of-self
invariant_of-self g c =
    let inside = c.self.inside in
    let idle = rw (← c.self.view_is) at c.requires.can_ask.idle in
    rw c.ask_write.ensures (came_asked (g.S.Store.tells inside.first.value) (g.S.Store.tells inside.store) inside.slots inside.history.transfers c.args.slot (AskedWrite c.args.page c.args.from.now) c.self.invariant (ap has_failed idle) refl)
