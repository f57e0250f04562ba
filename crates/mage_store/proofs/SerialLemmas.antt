-- What a serial port tells after a transfer, and what became of its store.
use Rattle.std.proofs.Common.{◌≡◌, ◌≤◌, ◌<◌, ◌∙◌, sym, zero, suc, replicate, ℕ, List, [], ◌∷◌, ◌++◌, length, Bool, true, false, Option, Some, None, refl, ap, append_assoc, append-nil, arith}
use Rattle.std.specs.Prelude.{◌==◌, if◌then◌else◌}
use Rattle.std.specs.List.{filter, list_any}
use Rattle.std.specs.Option.{option_map}
use Rattle.std.proofs.lemmas.List.Elements.{filter-append}
use mathlib.Core.Path.{fun_ext}
use Rattle.mage_base.specs.Faults.{Rose}
use Rattle.mage_base.specs.Store as store_side
use Rattle.mage_base.specs.Store.{StoreTold, Transfer, Wrote, Answered, logged, with_page}
use Rattle.mage_port.specs.Port.{SlotState, Idle, HasFailed, with_transfer, after_read, after_write}
use Rattle.mage_store.specs.Slots.{SlotsState, idle_slots, state_at, with_state_at}
use Rattle.mage_store.specs.SerialPort.{is_of, transfers_of, serial_told, has_failed, CameFrom}
use Rattle.mage_store.proofs.SlotLemmas.{any-set_other, any-set_this}

one_more : (here : Bool) (made : List Transfer) (transfer : Transfer) → made ++ (if here then transfer ∷ [] else []) ≡ (if here then made ++ transfer ∷ [] else made)
one_more true made transfer = refl
one_more false made transfer = append-nil made

at_more : (made : List Transfer) (page other : ℕ) (transfer : Transfer) → is_of other transfer ≡ (other == page) → filter (is_of other) (made ++ transfer ∷ []) ≡ with_transfer (transfers_of made) page transfer other
at_more made page other transfer same =
    filter-append (is_of other) made (transfer ∷ [])
    ∙ (ap (λ here. filter (is_of other) made ++ (if here then transfer ∷ [] else [])) same ∙ one_more (other == page) (filter (is_of other) made) transfer)

-- one transfer more of a page
pub transfers_of-more : (made : List Transfer) (page : ℕ) (transfer : Transfer) → ((other : ℕ) → is_of other transfer ≡ (other == page)) → transfers_of (made ++ transfer ∷ []) ≡ with_transfer (transfers_of made) page transfer
transfers_of-more made page transfer same = fun_ext (λ other. at_more made page other transfer (same other))

-- a read that was made
pub told_read : (store first : StoreTold) (slots : SlotsState) (made : List Transfer) (slot page : ℕ) (bytes : List ℕ) → serial_told (store_side.after_read store page bytes) first (with_state_at slots slot Idle) (made ++ Answered page bytes ∷ []) ≡ after_read (serial_told store first slots made) slot page bytes
told_read store first slots made slot page bytes = rw (transfers_of-more made page (Answered page bytes) (λ other. refl)) refl

-- a write that was made
pub told_write : (store first : StoreTold) (slots : SlotsState) (made : List Transfer) (slot page : ℕ) (bytes : List ℕ) → serial_told (store_side.after_write store page bytes) first (with_state_at slots slot Idle) (made ++ Wrote page bytes ∷ []) ≡ after_write (serial_told store first slots made) slot page bytes
told_write store first slots made slot page bytes = rw (transfers_of-more made page (Wrote page bytes) (λ other. refl)) refl

log_more : (first log : Option (List Transfer)) (made : List Transfer) (transfer : Transfer) → log ≡ option_map (λ earlier. earlier ++ made) first → logged log transfer ≡ option_map (λ earlier. earlier ++ (made ++ transfer ∷ [])) first
log_more None log made transfer is = ap (λ told. logged told transfer) is
log_more (Some earlier) log made transfer is = ap (λ told. logged told transfer) is ∙ ap Some (append_assoc earlier made (transfer ∷ []))

-- the store after a read that was made
pub came_read : (first store : StoreTold) (slots : SlotsState) (made : List Transfer) (slot page : ℕ) (bytes : List ℕ) → CameFrom first store slots made → has_failed (state_at slots slot) ≡ false → CameFrom first (store_side.after_read store page bytes) (with_state_at slots slot Idle) (made ++ Answered page bytes ∷ [])
came_read first store slots made slot page bytes came whole =
    let same = any-set_other has_failed slots.states slot Idle whole refl in
    record {
      page_bytes = came.page_bytes;
      log = log_more first.log store.log made (Answered page bytes) came.log;
      steady = came.steady;
      page_count = came.page_count;
      grown = came.grown;
      sound = λ none. came.sound (sym same ∙ none);
      broken = λ some. came.broken (sym same ∙ some);
    }

-- the store after a write that was made
pub came_write : (first store : StoreTold) (slots : SlotsState) (made : List Transfer) (slot page : ℕ) (bytes : List ℕ) → CameFrom first store slots made → has_failed (state_at slots slot) ≡ false → CameFrom first (store_side.after_write store page bytes) (with_state_at slots slot Idle) (made ++ Wrote page bytes ∷ [])
came_write first store slots made slot page bytes came whole =
    let same = any-set_other has_failed slots.states slot Idle whole refl in
    record {
      page_bytes = came.page_bytes;
      log = log_more first.log store.log made (Wrote page bytes) came.log;
      steady = came.steady;
      page_count = came.page_count;
      grown = came.grown;
      sound = λ none. came.sound (sym same ∙ none);
      broken = λ some. came.broken (sym same ∙ some);
    }

-- slots of which one changes that hasn't failed, before and after
pub came_asked : (first store : StoreTold) (slots : SlotsState) (made : List Transfer) (slot : ℕ) (state : SlotState) → CameFrom first store slots made → has_failed (state_at slots slot) ≡ false → has_failed state ≡ false → CameFrom first store (with_state_at slots slot state) made
came_asked first store slots made slot state came whole asked =
    let same = any-set_other has_failed slots.states slot state whole asked in
    record {
      page_bytes = came.page_bytes;
      log = came.log;
      steady = came.steady;
      page_count = came.page_count;
      grown = came.grown;
      sound = λ none. came.sound (sym same ∙ none);
      broken = λ some. came.broken (sym same ∙ some);
    }

-- the store after a transfer that failed
pub came_failed : (first store store' : StoreTold) (slots : SlotsState) (made : List Transfer) (slot page : ℕ) → CameFrom first store slots made → slot < length slots.states → store'.page_bytes ≡ store.page_bytes → store'.log ≡ store.log → store'.steady ≡ store.steady → store'.page_count ≡ store.page_count → store.faults ≤ store'.faults → Rose store.faults store'.faults → CameFrom first store' (with_state_at slots slot (HasFailed page)) made
came_failed first store store' slots made slot page came within bytes log steady count grown rose =
    record {
      page_bytes = came.page_bytes ∙ sym bytes;
      log = log ∙ came.log;
      steady = steady ∙ came.steady;
      page_count = count ∙ came.page_count;
      grown = omega (arith, came.grown);
      sound = λ none. absurd (cc (any-set_this has_failed slots.states slot (HasFailed page) within refl, none));
      broken = λ some. omega (arith, came.grown);
    }

any_idle : (count : ℕ) → list_any has_failed (replicate count Idle) ≡ false
any_idle zero = refl
any_idle (suc count) = any_idle count

log_same : (log : Option (List Transfer)) → log ≡ option_map (λ earlier. earlier ++ []) log
log_same None = refl
log_same (Some earlier) = ap Some (sym (append-nil earlier))

-- a store that was just handed in
pub came_new : (first : StoreTold) (count page_bytes : ℕ) → page_bytes ≡ first.page_bytes → CameFrom first first (idle_slots count page_bytes) []
came_new first count page_bytes same =
    record {
      page_bytes = same;
      log = log_same first.log;
      steady = refl;
      page_count = refl;
      grown = omega arith;
      sound = λ none. refl;
      broken = λ some. absurd (cc (any_idle count, some));
    }
