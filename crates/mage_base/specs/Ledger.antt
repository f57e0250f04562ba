-- What a desk keeps of the stores that it hands out and gets back.
use Rattle.std.specs.Prelude.{ℕ, ◌<◌, List, [], length, get_or, None}
use Rattle.std.specs.List.{All}
use Rattle.mage_base.specs.declared.ledger.LentStore.{LentStore}
use Rattle.mage_base.specs.declared.ledger.StoreCounts.{StoreCounts}
use Rattle.mage_base.specs.Desk.{StoreId, Returned}
use Rattle.mage_base.specs.Faults.{count_after}

-- the stores that are handed out, and by worker the sums of the counts of those given back
pub record LedgerState : Type 0 where
  pub lent : List StoreId
  pub totals : List StoreCounts

abbrev pub empty_ledger : LedgerState
empty_ledger = record { lent = []; totals = [] }

abbrev pub id_of : LentStore → StoreId
id_of store = record { worker = store.worker; shard = store.shard }

abbrev pub no_counts : StoreCounts
no_counts = record { reads = 0; writes = 0; faults = 0 }

-- the sums of a worker's stores
abbrev pub counts_in : List StoreCounts → (worker : ℕ) → StoreCounts
counts_in totals worker = get_or totals worker no_counts

-- what sums come to that tell no log
abbrev pub returned_of : StoreCounts → Returned
returned_of counts = record { reads = counts.reads; writes = counts.writes; faults = counts.faults; log = None }

abbrev pub returned_in : List StoreCounts → ℕ → Returned
returned_in totals worker = returned_of (counts_in totals worker)

-- what was given back, and a store with these counts and no log too
abbrev pub with_counts : Returned → StoreCounts → Returned
with_counts returned counts =
    record {
      reads = count_after returned.reads counts.reads;
      writes = count_after returned.writes counts.writes;
      faults = count_after returned.faults counts.faults;
      log = None;
    }

-- the worker of each store that is handed out has its sums
abbrev pub Covers : List StoreCounts → List LentStore → Type 0
Covers totals lent = All (λ store. store.worker < length totals) lent
