-- The desk whose stores keep logs and may lie: what it holds and tells.
use Rattle.std.specs.Prelude.{ℕ, ◌<◌, List, [], map, length, get_or, true, false, Some}
use Rattle.std.specs.List.{All}
use Rattle.mage_base.specs.Store.{Transfer}
use Rattle.mage_base.specs.Desk.{DeskTold, StoreId, Returned}
use Rattle.mage_base.specs.Ledger.{LedgerState, empty_ledger, returned_in}
use Rattle.mage_base.specs.MemDesk.{DeskState, desk_told}
use Rattle.mage_history.specs.declared.page_history.PageHistory.{PageHistory}
use Rattle.mage_log_store.specs.declared.lie.Lie.{Lie}

-- the desk in memory, how many calls of each store may succeed, the lies, the stores that were handed out and given back,
-- and by worker the logs of those given back
pub record LogDeskState : Type 0 where
  pub inner : DeskState
  pub calls : ℕ
  pub lies : List Lie
  pub ledger : LedgerState
  pub logs : List (List Transfer)

-- a desk of which no store was asked yet
abbrev pub new_log_desk : DeskState → (calls : ℕ) → List Lie → LogDeskState
new_log_desk inner calls lies =
    record { inner = inner; calls = calls; lies = lies; ledger = empty_ledger; logs = [] }

abbrev pub logs_of : List PageHistory → List (List Transfer)
logs_of histories = map (λ history. history.transfers) histories

-- the log of a worker's stores
abbrev pub log_at : List (List Transfer) → (worker : ℕ) → List Transfer
log_at logs worker = get_or logs worker []

-- what a worker's stores come to that were given back
abbrev pub returned_with : LedgerState → List (List Transfer) → (worker : ℕ) → Returned
returned_with ledger logs worker = record (returned_in ledger.totals worker) { log = Some (log_at logs worker) }

-- It tells what the desk in memory tells, but for its stores, of which it tells the logs and not the pages. It isn't
-- steady.
abbrev pub log_desk_told : LogDeskState → DeskTold
log_desk_told desk =
    record (desk_told desk.inner) {
      steady = false;
      stores_tell_pages = false;
      stores_tell_logs = true;
      lent = desk.ledger.lent;
      returned = returned_with desk.ledger desk.logs;
    }

-- the worker of each store that is handed out has its log
abbrev pub Covers : List (List Transfer) → List StoreId → Type 0
Covers logs lent = All (λ id. id.worker < length logs) lent
