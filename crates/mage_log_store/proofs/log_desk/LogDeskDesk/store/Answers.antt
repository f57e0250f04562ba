use Rattle.std.proofs.Common.{sym, subst}
use Rattle.mage_base.specs.Desk.{StoreId, Lends}
use Rattle.mage_base.specs.declared.failure.DeskError.TheVariants as errors
use Rattle.mage_log_store.specs.LogStore.{LogState}
use Rattle.mage_log_store.specs.LogDesk.{LogDeskState, log_desk_told, logs_of}
use Rattle.mage_log_store.proofs.LogDeskLemmas.{lends_ok, lends_err}
use Rattle.mage_log_store.proofs.log_desk.LogDeskDesk.store.Goals as goal
use Rattle.mage_log_store.proofs.log_desk.LogDeskDesk.store.Goals.{in-Ok-lend, in-Err-lend}

pub returns-clause-rest : goal.returns-clause-rest
returns-clause-rest c =
    let inside = c.self.inside in
    let id : StoreId = record { worker = c.args.worker; shard = c.args.shard } in
    let desk : LogDeskState = record { inner = inside.inner; calls = inside.calls; lies = inside.lies; ledger = inside.ledger; logs = logs_of inside.logs.items } in
    let logs = logs_of c.lend.new.logs.items in
    let after : LogDeskState = record desk { inner = c.begin.new.inner; ledger = c.lend.new.ledger; logs = logs } in
    rw (← c.self.view_is) (elim c.match-lend.branch [
      | in-Ok-lend w ↦ subst (λ answer. Lends (log_desk_told desk) (log_desk_told after) id answer) (sym w.result-is)
          (lends_ok desk c.begin.new.inner c.lend.new.ledger logs id c.in-Ok.store c.begin.ensures.after c.lend.ensures.returned c.lend.ensures.same c.in_default.ensures.cause w.in-Ok-lend.ensures.ok)
      | in-Err-lend w ↦ subst (λ answer. Lends (log_desk_told desk) (log_desk_told after) id answer) (sym w.result-is)
          (lends_err LogState desk c.begin.new.inner c.lend.new.ledger logs id errors.Memory c.begin.ensures.after c.lend.ensures.returned c.lend.ensures.same w.in-Err-lend.ensures.err)
    ])
