-- The pages of a store in memory, of which one is written.
use Rattle.std.proofs.Common.{◌≡◌, ◌<◌, ◌+◌, ℕ, List, length, get_or, set, replicate, zero, suc, true, false, IsTrue, [], refl, arith}
use Rattle.std.specs.Option.{option_map}
use Rattle.std.proofs.lemmas.List.{get_or-set_same, get_or-set_other, length-set, length-replicate}
use mathlib.Core.Path.{fun_ext}
use Rattle.mage_base.specs.declared.calls.Calls.{Calls}
use Rattle.mage_base.specs.Store.{Pages, zero_page, with_page, after_write, after_failure}
use Rattle.mage_base.specs.MemStore.{StoreState, new_state, pages_in, store_told}
use Rattle.mage_base.specs.Desk.{DeskTold, HandsStore}

at_same : (pages : Pages) (page other : ℕ) → with_page pages page (pages page) other ≡ pages other
at_same pages page other = grind arith

-- a page that holds what it held changes nothing
pub with_same_page : (pages : Pages) (page : ℕ) → with_page pages page (pages page) ≡ pages
with_same_page pages page = fun_ext (λ other. at_same pages page other)

at_written : (page_bytes : ℕ) (pages : List (List ℕ)) (page : ℕ) (bytes : List ℕ) (other : ℕ) → page < length pages → with_page (pages_in page_bytes pages) page bytes other ≡ pages_in page_bytes (set pages page bytes) other
at_written page_bytes pages page bytes other within = grind (arith, get_or-set_same, get_or-set_other)

-- a page that is written among those of the store
pub with_written_page : (page_bytes : ℕ) (pages : List (List ℕ)) (page : ℕ) (bytes : List ℕ) → page < length pages → with_page (pages_in page_bytes pages) page bytes ≡ pages_in page_bytes (set pages page bytes)
with_written_page page_bytes pages page bytes within = fun_ext (λ other. at_written page_bytes pages page bytes other within)

-- what a store tells after a page was written
pub told_written : (store : StoreState) (page : ℕ) (bytes : List ℕ) (calls : Calls) → page < length store.pages → calls.failing ≡ store.calls.failing → store_told (record store { pages = set store.pages page bytes; writes = store.writes + 1; calls = calls }) ≡ after_write (store_told store) page bytes
told_written store page bytes calls within same = rw (same, length-set, with_written_page store.page_bytes store.pages page bytes within) refl

-- what a store tells after a write that failed: the page holds what it held
pub told_failed : (store : StoreState) (page : ℕ) (faults : ℕ) (calls : Calls) → calls.failing ≡ store.calls.failing → store_told (record store { faults = faults; calls = calls }) ≡ record (after_failure (store_told store) faults) { pages = option_map (λ pages. with_page pages page (pages_in store.page_bytes store.pages page)) (store_told store).pages }
told_failed store page faults calls same = rw (same, with_same_page (pages_in store.page_bytes store.pages) page) refl

at_fresh : (count page : ℕ) (zeros : List ℕ) → get_or (replicate count zeros) page zeros ≡ zeros
at_fresh zero page zeros = refl
at_fresh (suc count) zero zeros = refl
at_fresh (suc count) (suc page) zeros = at_fresh count page zeros

-- a new store holds zeros everywhere
pub fresh_pages : (count page_bytes : ℕ) → pages_in page_bytes (replicate count (zero_page page_bytes)) ≡ (λ page. zero_page page_bytes)
fresh_pages count page_bytes = fun_ext (λ page. at_fresh count page (zero_page page_bytes))

-- a desk that tells the pages of its stores and not their logs hands out a new store
pub hands_new : (desk : DeskTold) (pages page_bytes : ℕ) (failing : List ℕ) → desk.stores_tell_pages ≡ true → desk.stores_tell_logs ≡ false → (IsTrue desk.steady → failing ≡ []) → HandsStore desk pages page_bytes (store_told (new_state pages page_bytes failing))
hands_new desk pages page_bytes failing tells_pages tells_no_log none =
    record {
      fresh = rw (tells_pages, tells_no_log, fresh_pages pages page_bytes) refl;
      steady = λ steady. (rw (none steady) refl, length-replicate pages (zero_page page_bytes));
    }
