-- What the slots of a worker's buffer do, and which of its pages are stored.
use Rattle.std.specs.Prelude.{ℕ, Bool, true, false, ◌||◌, nat_eq, if◌then◌else◌, List, [], ◌∷◌, take}
use Rattle.std.proofs.Common.{zero, suc}
use Rattle.mage_instr.specs.declared.directive.Directive.{Directive}
use Rattle.mage_instr.specs.declared.directive.Directive.TheVariants as entry
use Rattle.mage_verify.specs.declared.slot.Slot.{Slot}
use Rattle.mage_verify.specs.declared.slot.Slot.TheVariants as does

-- what each slot does, and whether a page's write was finished
pub record State : Type 0 where
  pub slot : ℕ → Slot
  pub stored : ℕ → Bool

-- before the first directive each slot is idle, and no page is stored
abbrev pub opening : State
opening = record { slot = λ s. does.Idle; stored = λ page. false }

-- a slot that reads or writes a page is in flight
abbrev pub is_in_flight : Slot → Bool
is_in_flight does.Idle = false
is_in_flight (does.Reading page) = true
is_in_flight (does.Writing page) = true

-- whether a slot reads a page
abbrev pub is_reading : Slot → Bool
is_reading does.Idle = false
is_reading (does.Reading page) = true
is_reading (does.Writing page) = false

-- whether a slot writes a page
abbrev pub is_writing : Slot → Bool
is_writing does.Idle = false
is_writing (does.Reading page) = false
is_writing (does.Writing page) = true

-- whether a slot reads or writes this page
abbrev pub names : (page : ℕ) → Slot → Bool
names page does.Idle = false
names page (does.Reading p) = nat_eq page p
names page (does.Writing p) = nat_eq page p

-- whether a slot writes this page
abbrev pub writes : (page : ℕ) → Slot → Bool
writes page does.Idle = false
writes page (does.Reading p) = false
writes page (does.Writing p) = nat_eq page p

-- whether a number below n passes a test
abbrev pub some_below : (n : ℕ) → (ℕ → Bool) → Bool
some_below zero test = false
some_below (suc n) test = test 0 || some_below n (λ k. test (suc k))

-- whether a slot of the buffer is in flight
abbrev pub is_busy : (buffer : ℕ) → State → Bool
is_busy buffer state = some_below buffer (λ s. is_in_flight (state.slot s))

-- whether a slot in flight names a page
abbrev pub is_moving : (buffer : ℕ) → State → (page : ℕ) → Bool
is_moving buffer state page = some_below buffer (λ s. names page (state.slot s))

-- from now on a slot does this
abbrev pub with_slot : (s : ℕ) → Slot → (ℕ → Slot) → ℕ → Slot
with_slot s now slot other = if nat_eq other s then now else slot other

-- the state once a directive is done: only the end of a write stores a page
abbrev pub after : State → Directive → State
after state (entry.Fresh frame page) = state
after state (entry.IssueIn slot page) = record { slot = with_slot slot (does.Reading page) state.slot; stored = state.stored }
after state (entry.FinishIn slot frame) = record { slot = with_slot slot does.Idle state.slot; stored = state.stored }
after state (entry.IssueOut slot frame page) = record { slot = with_slot slot (does.Writing page) state.slot; stored = state.stored }
after state (entry.FinishOut slot) =
    record { slot = with_slot slot does.Idle state.slot; stored = λ page. writes page (state.slot slot) || state.stored page }
after state (entry.Do job) = state

-- the state once some directives are done
abbrev pub after_all : State → List Directive → State
after_all state [] = state
after_all state (directive ∷ directives) = after_all (after state directive) directives

-- the state in which a worker comes to directive d
abbrev pub state_before : List Directive → (d : ℕ) → State
state_before directives d = after_all opening (take d directives)
