use Rattle.mage_store.proofs.SerialLemmas.{came_new}
use Rattle.mage_store.proofs.serial_port.SerialPort.make.Goals as goal

pub invariant_of-result : goal.invariant_of-result
invariant_of-result g c =
    rw (c.of.ensures, c.in-Ok.ensures, c.new.ensures) (came_new (g.S.Store.tells c.args.store) c.args.buffer c.args.page_bytes c.requires)
