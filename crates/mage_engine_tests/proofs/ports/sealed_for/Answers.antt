use Rattle.std.proofs.Common.{◌≤◌, arith}
use Rattle.mage_log_store.specs.LogStore.{log_told}
use Rattle.mage_store.specs.SealedPort as sealed
use Rattle.mage_store.specs.SerialPort as serial
use Rattle.mage_engine_tests.proofs.Serving.{sealed_serves}
use Rattle.mage_engine_tests.proofs.ports.sealed_for.Goals as goal

pub returns-in-Ok : goal.returns-in-Ok
returns-in-Ok c =
    let above = c.if-store_pages-gt1.false in
    let pages = c.store_pages.ensures in
    let few : c.args.part.now.pages ≤ 1 = omega (arith, above, pages) in
    sealed_serves (serial.port_told log_told c.in_ok-port.port) (sealed.port_told (serial.port_told log_told) c.in-Ok.sealed) 1 c.args.part.now c.directives-directives.ensures.runs c.in_ok-port.ensures c.in-Ok.ensures.port few
