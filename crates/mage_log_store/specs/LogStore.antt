-- The store that tells its log and may lie: what it tells, and what a call leaves.
use Rattle.std.specs.Prelude.{ℕ, ◌-◌, ◌==◌, nat_le, nat_lt, List, [], ◌∷◌, ◌++◌, length, get_or, set, replicate, slice_index, bit_xor, Bool, false, ◌||◌, Some, None, if◌then◌else◌}
use Rattle.mage_base.specs.Faults.{top, next_count}
use Rattle.mage_base.specs.Store.{StoreTold, Transfer, Wrote, Answered, zero_page}
use Rattle.mage_log_store.specs.declared.lie.Lie.{Lie}

pub record LogState : Type 0 where
  pub page_bytes : ℕ
  pub pages : List (List ℕ)
  pub reads : ℕ
  pub writes : ℕ
  pub faults : ℕ
  -- how many calls there may still be before all fail
  pub left : ℕ
  pub lies : List Lie
  pub log : List Transfer

-- a store of so many pages of zeros, with these lies and so many calls
abbrev pub new_state : (pages page_bytes calls : ℕ) → List Lie → LogState
new_state pages page_bytes calls lies =
    record {
      page_bytes = page_bytes;
      pages = replicate pages (zero_page page_bytes);
      reads = 0;
      writes = 0;
      faults = 0;
      left = calls;
      lies = lies;
      log = [];
    }

-- what it tells: its log and not its pages; it isn't steady
abbrev pub log_told : LogState → StoreTold
log_told store =
    record {
      page_bytes = store.page_bytes;
      pages = None;
      reads = store.reads;
      writes = store.writes;
      faults = store.faults;
      log = Some store.log;
      steady = false;
      page_count = length store.pages;
    }

-- bytes of which one is xored with a mask; one past the last changes nothing
abbrev pub flipped : List ℕ → (byte mask : ℕ) → List ℕ
flipped bytes byte mask =
    if nat_lt byte (length bytes) then set bytes byte (bit_xor (slice_index bytes byte) mask) else bytes

-- the bytes that are answered for these at the read of this number: all lies on it are told, in order
abbrev pub lied : List Lie → (read : ℕ) → List ℕ → List ℕ
lied [] read bytes = bytes
lied (lie ∷ lies) read bytes = lied lies read (if lie.read == read then flipped bytes lie.byte lie.mask else bytes)

-- whether a transfer fails: no call is left, the store doesn't have the page, or the count of such transfers stands at
-- its greatest value
abbrev pub cannot_move : LogState → (page count : ℕ) → Bool
cannot_move store page count = store.left == 0 || nat_le (length store.pages) page || count == top

-- the store after a call that failed
abbrev pub after_failed : LogState → LogState
after_failed store = record store { faults = next_count store.faults; left = store.left - 1 }

-- what a read of this page is answered
abbrev pub answer_of : LogState → (page : ℕ) → List ℕ
answer_of store page = lied store.lies store.reads (get_or store.pages page (zero_page store.page_bytes))

-- the store after a read of this page
abbrev pub after_read_of : LogState → (page : ℕ) → LogState
after_read_of store page =
    if cannot_move store page store.reads then after_failed store
    else record store { reads = next_count store.reads; left = store.left - 1; log = store.log ++ Answered page (answer_of store page) ∷ [] }

-- the store after a write of this page
abbrev pub after_write_of : LogState → (page : ℕ) → (bytes : List ℕ) → LogState
after_write_of store page bytes =
    if cannot_move store page store.writes then after_failed store
    else record store { pages = set store.pages page bytes; writes = next_count store.writes; left = store.left - 1; log = store.log ++ Wrote page bytes ∷ [] }
