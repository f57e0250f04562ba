use Rattle.mage_store_tests.proofs.ReadyLemmas.{serial_ready}
use Rattle.mage_store_tests.proofs.ports.serial_over.Goals as goal

pub returns-in-Ok-clause-ready : goal.returns-in-Ok-clause-ready
returns-in-Ok-clause-ready g c = rw c.in-Ok.ensures.port (serial_ready g.S.Store.tells c.args.store c.args.page_bytes)
