-- That a slot has one transfer at a time, a page too, and that none is in flight at the end.
use Rattle.std.specs.Prelude.{◌≡◌, ◌<◌, ℕ, List, [], ◌∷◌, Bool, true, false, nat_eq}
use Rattle.mage_instr.specs.declared.directive.Directive.{Directive}
use Rattle.mage_instr.specs.declared.directive.Directive.TheVariants as directive
use Rattle.mage_sched.specs.declared.slot.Slot.{Slot}
use Rattle.mage_sched.specs.declared.slot.Slot.TheVariants as state
use Rattle.mage_sched.specs.Issues.{put}

-- the transfers of some directives, as far as they went
pub record Flight : Type 0 where
  -- what each slot does
  pub does : ℕ → Slot
  -- whether a page was written: a write of it was finished
  pub stored : ℕ → Bool

-- every slot is idle, and nothing was written
abbrev pub at_rest : Flight
at_rest = record { does = λ slot. state.Idle; stored = λ page. false }

-- whether a slot reads or writes a page
abbrev pub is_for : Slot → (page : ℕ) → Bool
is_for state.Idle page = false
is_for (state.Reads other) page = nat_eq other page
is_for (state.Writes other) page = nat_eq other page

-- the pages that were written, once a slot has finished what it does
abbrev pub stored_by : Slot → (stored : ℕ → Bool) → ℕ → Bool
stored_by state.Idle stored = stored
stored_by (state.Reads page) stored = stored
stored_by (state.Writes page) stored = put page true stored

-- what a directive starts or finishes
abbrev pub flight_after : Directive → Flight → Flight
flight_after (directive.Fresh frame page) flight = flight
flight_after (directive.IssueIn slot page) flight = record flight { does = put slot (state.Reads page) flight.does }
flight_after (directive.FinishIn slot frame) flight = record flight { does = put slot state.Idle flight.does }
flight_after (directive.IssueOut slot frame page) flight = record flight { does = put slot (state.Writes page) flight.does }
flight_after (directive.FinishOut slot) flight = record { does = put slot state.Idle flight.does; stored = stored_by (flight.does slot) flight.stored }
flight_after (directive.Do job) flight = flight

-- a slot of the buffer is idle, and no slot reads or writes a page
pub record IsFree (buffer : ℕ) (flight : Flight) (slot page : ℕ) : Type 0 where
  pub within : slot < buffer
  pub idle : flight.does slot ≡ state.Idle
  pub alone : (other : ℕ) → is_for (flight.does other) page ≡ false

-- A slot is issued only when it is idle, and finished only by the finish of its kind. A page is read only once it was written.
abbrev pub IsInTurn : (buffer : ℕ) → Flight → Directive → Type 0
IsInTurn buffer flight (directive.Fresh frame page) = Unit {0}
IsInTurn buffer flight (directive.IssueIn slot page) = IsFree buffer flight slot page × (flight.stored page ≡ true)
IsInTurn buffer flight (directive.FinishIn slot frame) = (page : ℕ) × (flight.does slot ≡ state.Reads page)
IsInTurn buffer flight (directive.IssueOut slot frame page) = IsFree buffer flight slot page
IsInTurn buffer flight (directive.FinishOut slot) = (page : ℕ) × (flight.does slot ≡ state.Writes page)
IsInTurn buffer flight (directive.Do job) = Unit {0}

-- each of some directives is in turn, and behind the last no slot is in flight
abbrev pub AreInTurn : (buffer : ℕ) → Flight → List Directive → Type 0
AreInTurn buffer flight [] = (slot : ℕ) → flight.does slot ≡ state.Idle
AreInTurn buffer flight (one ∷ list) = IsInTurn buffer flight one × AreInTurn buffer (flight_after one flight) list
