-- The store in memory: what it tells, and what a call leaves.
use Rattle.std.specs.Prelude.{ℕ, ◌==◌, nat_le, List, length, get_or, set, replicate, Bool, ◌||◌, Some, None, if◌then◌else◌}
use Rattle.mage_base.specs.declared.calls.Calls.{Calls}
use Rattle.mage_base.specs.Calls.{no_call_yet, is_listed, after_call, is_empty}
use Rattle.mage_base.specs.Faults.{top, next_count}
use Rattle.mage_base.specs.Store.{StoreTold, Pages, zero_page}

pub record StoreState : Type 0 where
  pub page_bytes : ℕ
  pub pages : List (List ℕ)
  pub reads : ℕ
  pub writes : ℕ
  pub faults : ℕ
  pub calls : Calls

-- a store of so many pages of zeros, of which these calls are to fail
abbrev pub new_state : (pages page_bytes : ℕ) → (failing : List ℕ) → StoreState
new_state pages page_bytes failing =
    record {
      page_bytes = page_bytes;
      pages = replicate pages (zero_page page_bytes);
      reads = 0;
      writes = 0;
      faults = 0;
      calls = no_call_yet failing;
    }

-- what each page holds; one that the store doesn't have was never written
abbrev pub pages_in : (page_bytes : ℕ) → List (List ℕ) → Pages
pages_in page_bytes pages page = get_or pages page (zero_page page_bytes)

-- what it tells, which is all but a log: it is steady where no call is to fail
abbrev pub store_told : StoreState → StoreTold
store_told store =
    record {
      page_bytes = store.page_bytes;
      pages = Some (pages_in store.page_bytes store.pages);
      reads = store.reads;
      writes = store.writes;
      faults = store.faults;
      log = None;
      steady = is_empty store.calls.failing;
      page_count = length store.pages;
    }

-- whether a transfer fails: the call is to fail, the store doesn't have the page, or the count of such transfers stands
-- at its greatest value
abbrev pub cannot_move : StoreState → (page count : ℕ) → Bool
cannot_move store page count = is_listed store.calls || nat_le (length store.pages) page || count == top

-- the store after a call that failed
abbrev pub after_failed : StoreState → StoreState
after_failed store = record store { faults = next_count store.faults; calls = after_call store.calls }

-- the store after a read of this page
abbrev pub after_read_of : StoreState → (page : ℕ) → StoreState
after_read_of store page =
    if cannot_move store page store.reads then after_failed store
    else record store { reads = next_count store.reads; calls = after_call store.calls }

-- the store after a write of this page
abbrev pub after_write_of : StoreState → (page : ℕ) → (bytes : List ℕ) → StoreState
after_write_of store page bytes =
    if cannot_move store page store.writes then after_failed store
    else record store { pages = set store.pages page bytes; writes = next_count store.writes; calls = after_call store.calls }
