use Rattle.std.proofs.Common.{refl}
use Rattle.mage_store.specs.SerialPort as serial
use Rattle.mage_store.specs.SealedPort as sealed
use Rattle.mage_store_tests.proofs.ReadyLemmas.{serial_unused, three_taken}
use Rattle.mage_store_tests.proofs.ports.sealed_over.Goals as goal

pub make-requires-clause-unused : goal.make-requires-clause-unused
make-requires-clause-unused g c = rw c.in_ok-port.ensures.port (serial_unused g.S.Store.tells c.args.store c.args.page_bytes)

pub make-requires-clause-taken : goal.make-requires-clause-taken
make-requires-clause-taken g c = λ k d within. refl

pub returns-in-Ok : goal.returns-in-Ok
returns-in-Ok g c =
    three_taken (serial.port_told g.S.Store.tells c.in_ok-port.port) (sealed.port_told (serial.port_told g.S.Store.tells) c.in-Ok.sealed) c.args.page_bytes c.in-Ok.ensures.port c.in_ok-port.ensures.ready
