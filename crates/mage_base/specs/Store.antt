-- What a store of pages tells, and what reading and writing a page leaves.
use Rattle.std.specs.Prelude.{◌≡◌, ◌<◌, ◌+◌, ◌++◌, ◌∷◌, ◌==◌, ℕ, List, [], replicate, Bool, Option, Some, None, IfSome, Result, Ok, Err, if◌then◌else◌}
use Rattle.std.specs.Option.{option_map}
use Rattle.mage_base.specs.Faults.{top}

-- the bytes of each page
abbrev pub Pages : Type 0
Pages = ℕ → List ℕ

-- one transfer that was made
pub data Transfer : Type 0 where
  Wrote : (page : ℕ) (bytes : List ℕ) → Transfer
  Answered : (page : ℕ) (bytes : List ℕ) → Transfer

pub record StoreTold : Type 0 where
  -- the bytes of a page, which no call changes
  pub page_bytes : ℕ
  -- what each page holds, where the store tells it
  pub pages : Option Pages
  -- how many pages were read and written, and how often a call failed
  pub reads : ℕ
  pub writes : ℕ
  pub faults : ℕ
  -- the transfers that were made, where the store tells them
  pub log : Option (List Transfer)
  -- whether it fails only on a page that it doesn't have, or at a count that stands at its greatest value
  pub steady : Bool
  -- how many pages a steady store has
  pub page_count : ℕ

-- a page of zeros
abbrev pub zero_page : ℕ → List ℕ
zero_page page_bytes = replicate page_bytes 0

-- the pages, of which one holds these bytes
abbrev pub with_page : Pages → ℕ → List ℕ → Pages
with_page pages page bytes other = if other == page then bytes else pages other

-- a log with one more transfer, where it is told
abbrev pub logged : Option (List Transfer) → Transfer → Option (List Transfer)
logged log transfer = option_map (λ entries. entries ++ transfer ∷ []) log

-- the store after a call that failed: all but its count of faults stays
abbrev pub after_failure : StoreTold → (faults : ℕ) → StoreTold
after_failure told faults = record told { faults = faults }

-- what the store tells after a page was read
abbrev pub after_read : StoreTold → (page : ℕ) → (bytes : List ℕ) → StoreTold
after_read told page bytes = record told { reads = told.reads + 1; log = logged told.log (Answered page bytes) }

-- what the store tells after a page was written
abbrev pub after_write : StoreTold → (page : ℕ) → (bytes : List ℕ) → StoreTold
after_write told page bytes =
    record told {
      pages = option_map (λ pages. with_page pages page bytes) told.pages;
      writes = told.writes + 1;
      log = logged told.log (Wrote page bytes);
    }

-- A page is read: where the pages are told, as it was last written, or zeros. After a fault nothing changed but the count
-- of faults.
abbrev pub Reads : {T E : Type 0} → (before after : StoreTold) → (page : ℕ) → (bytes : List ℕ) → Result T E → Type 0
Reads before after page bytes (Ok _) =
    (before.reads < top) × IfSome before.pages (λ pages. bytes ≡ pages page) × (after ≡ after_read before page bytes)
Reads before after page bytes (Err _) = after ≡ after_failure before after.faults

-- A page is written. After a fault nothing is said of this page, and nothing else changed but the count of faults.
abbrev pub Writes : {T E : Type 0} → (before after : StoreTold) → (page : ℕ) → (bytes : List ℕ) → Result T E → Type 0
Writes before after page bytes (Ok _) = (before.writes < top) × (after ≡ after_write before page bytes)
Writes before after page bytes (Err _) =
    (left : List ℕ) × (after ≡ record (after_failure before after.faults) { pages = option_map (λ pages. with_page pages page left) before.pages })

-- what a store tells to which nothing was written yet
abbrev pub new_store : (tells_pages tells_log steady : Bool) → (page_count page_bytes : ℕ) → StoreTold
new_store tells_pages tells_log steady page_count page_bytes =
    record {
      page_bytes = page_bytes;
      pages = if tells_pages then Some (λ page. zero_page page_bytes) else None;
      reads = 0;
      writes = 0;
      faults = 0;
      log = if tells_log then Some [] else None;
      steady = steady;
      page_count = page_count;
    }
