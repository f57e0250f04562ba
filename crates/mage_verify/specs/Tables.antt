-- The state that the tables of the check stand for.
use Rattle.std.specs.Prelude.{◌≡◌, ◌+◌, ◌&&◌, ◌||◌, ℕ, Bool, true, not, nat_eq, if◌then◌else◌, List, [], ◌∷◌, length, slice_index_or, slice_set}
use Rattle.std.specs.HashSet.{contains}
use Rattle.mage_instr.specs.declared.directive.Directive.{Directive}
use Rattle.mage_instr.specs.declared.replaced.Limits.{Limits}
use Rattle.mage_verify.specs.declared.slot.Slot.{Slot}
use Rattle.mage_verify.specs.declared.slot.Slot.TheVariants as does
use Rattle.mage_verify.specs.declared.swaps.Swaps.{Swaps}
use Rattle.mage_verify.specs.Faults.{slot_is_right, page_is_right}
use Rattle.mage_verify.specs.Range.{is_in_range}
use Rattle.mage_verify.specs.State.{State, names, writes}

-- what a slot does
abbrev pub slot_in : Swaps → (s : ℕ) → Slot
slot_in swaps s = slice_index_or swaps.slots.items s does.Idle

-- the state of the tables
abbrev pub state_in : Swaps → State
state_in swaps = record { slot = slot_in swaps; stored = contains nat_eq swaps.stored }

-- how many slots pass a test
abbrev pub how_many : (Slot → Bool) → List Slot → ℕ
how_many test [] = 0
how_many test (slot ∷ slots) = (if test slot then 1 else 0) + how_many test slots

-- there is an entry for each slot of the buffer, and a page is in flight where one of them names it, which no other names
pub record AreKept (buffer : ℕ) (swaps : Swaps) : Type 0 where
  pub slots : length swaps.slots.items ≡ buffer
  pub in_flight : (page : ℕ) → how_many (names page) swaps.slots.items ≡ (if contains nat_eq swaps.in_flight page then 1 else 0)

-- a directive passes each test
pub record IsFine (limits : Limits) (state : State) (directive : Directive) : Type 0 where
  pub range : is_in_range limits directive ≡ true
  pub slot : slot_is_right state directive ≡ true
  pub page : page_is_right limits.buffer state directive ≡ true

-- a slot does something else, and its page is in flight
pub record IsStarted (old new : Swaps) (s page : ℕ) (now : Slot) : Type 0 where
  pub slots : new.slots.items ≡ slice_set old.slots.items s now
  pub in_flight : (p : ℕ) → contains nat_eq new.in_flight p ≡ (nat_eq p page || contains nat_eq old.in_flight p)
  pub stored : (p : ℕ) → contains nat_eq new.stored p ≡ contains nat_eq old.stored p

-- a slot is idle, the page that it named is not in flight, and one that it wrote is stored
pub record IsFinished (old new : Swaps) (s : ℕ) : Type 0 where
  pub slots : new.slots.items ≡ slice_set old.slots.items s does.Idle
  pub in_flight : (p : ℕ) → contains nat_eq new.in_flight p ≡ (not (names p (slot_in old s)) && contains nat_eq old.in_flight p)
  pub stored : (p : ℕ) → contains nat_eq new.stored p ≡ (writes p (slot_in old s) || contains nat_eq old.stored p)
