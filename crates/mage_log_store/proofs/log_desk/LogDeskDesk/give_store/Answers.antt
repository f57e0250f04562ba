use Rattle.std.proofs.Common.{◌++◌}
use Rattle.mage_base.specs.Desk.{StoreId}
use Rattle.mage_log_store.specs.LogDesk.{LogDeskState, log_at, logs_of}
use Rattle.mage_log_store.proofs.LogDeskLemmas.{covered, covers_given, given_told}
use Rattle.mage_log_store.proofs.log_desk.LogDeskDesk.give_store.Goals as goal

pub invariant_of-self : goal.invariant_of-self
invariant_of-self c =
    let inside = c.self.inside in
    let id : StoreId = record { worker = c.args.worker; shard = c.args.shard } in
    covers_given (logs_of inside.logs.items) (logs_of c.give-2.new.logs.items) inside.ledger.lent c.give.new.self.lent id (log_at (logs_of inside.logs.items) c.args.worker ++ c.log.result.now.transfers) c.self.invariant c.give-2.ensures.logs c.give.ensures.lent

pub returns : goal.returns
returns c =
    let inside = c.self.inside in
    let id : StoreId = record { worker = c.args.worker; shard = c.args.shard } in
    let desk : LogDeskState = record { inner = inside.inner; calls = inside.calls; lies = inside.lies; ledger = inside.ledger; logs = logs_of inside.logs.items } in
    let within = covered desk.logs desk.ledger.lent id c.self.invariant (rw (← c.self.view_is) at c.requires) in
    let totals = rw c.counts.ensures at c.give.ensures.returned in
    let grown = rw c.log.ensures at c.give-2.ensures.logs in
    rw (← c.self.view_is) (given_told desk c.give.new.self (logs_of c.give-2.new.logs.items) id c.args.store within c.give.ensures.lent totals grown)
