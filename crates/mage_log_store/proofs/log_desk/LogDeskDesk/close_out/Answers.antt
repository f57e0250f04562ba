use Rattle.mage_log_store.specs.LogDesk.{LogDeskState, logs_of}
use Rattle.mage_log_store.proofs.LogDeskLemmas.{closes_out}
use Rattle.mage_log_store.proofs.log_desk.LogDeskDesk.close_out.Goals as goal

pub returns-clause-closed : goal.returns-clause-closed
returns-clause-closed c =
    let inside = c.self.inside in
    let desk : LogDeskState = record { inner = inside.inner; calls = inside.calls; lies = inside.lies; ledger = inside.ledger; logs = logs_of inside.logs.items } in
    let e = c.close_out.ensures in
    rw (← c.self.view_is) (closes_out desk c.close_out.new.self c.args.name.now c.args.sink c.close_out.result e.failed e.file e.after)
