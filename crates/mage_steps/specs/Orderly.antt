-- Transfers in flight, as the directives alone say, and directives whose transfers fit together.
use Rattle.std.specs.Prelude.{◌≡◌, ◌≢◌, ℕ, List, [], ◌∷◌, length, take, Option, None, Some, IfSome, slice_get, true}
use Rattle.mage_instr.specs.declared.directive.Directive.{Directive}
use Rattle.mage_instr.specs.declared.directive.Directive.TheVariants as entry
use Rattle.mage_instr.specs.declared.directive.MemProgram.{MemProgram}
use Rattle.mage_network.specs.Network.{put}
use Rattle.mage_network.specs.Slots.{Idle}
use Rattle.mage_driver.specs.Rules.{Rules}
use Rattle.mage_steps.specs.Core.{Core, directives_of}

-- a page that is read, or written
pub data Flight : Type 0 where
  Reading : (page : ℕ) → Flight
  Writing : (page : ℕ) → Flight

abbrev pub page_of_flight : Flight → ℕ
page_of_flight (Reading page) = page
page_of_flight (Writing page) = page

-- what each slot has in flight once a directive is done
abbrev pub flights_after : (ℕ → Option Flight) → Directive → ℕ → Option Flight
flights_after flights (entry.Fresh frame page) = flights
flights_after flights (entry.IssueIn slot page) = put flights slot (Some (Reading page))
flights_after flights (entry.FinishIn slot frame) = put flights slot None
flights_after flights (entry.IssueOut slot frame page) = put flights slot (Some (Writing page))
flights_after flights (entry.FinishOut slot) = put flights slot None
flights_after flights (entry.Do job) = flights

abbrev pub flights_after_all : (ℕ → Option Flight) → List Directive → ℕ → Option Flight
flights_after_all flights [] = flights
flights_after_all flights (directive ∷ directives) =
    flights_after_all (flights_after flights directive) directives

-- what each slot has in flight when a worker comes to directive d
abbrev pub flights_before : List Directive → (d : ℕ) → ℕ → Option Flight
flights_before directives d = flights_after_all (λ slot. None) (take d directives)

-- no slot has the page in flight
abbrev pub IsStill : (ℕ → Option Flight) → (page : ℕ) → Type 0
IsStill flights page = (slot : ℕ) → IfSome (flights slot) (λ flight. page_of_flight flight ≢ page)

-- a directive meets what it asks for: an issue an idle slot and a page that isn't in flight, and a
-- finish a slot with a transfer of its kind in flight
abbrev pub Fits : (ℕ → Option Flight) → Directive → Type 0
Fits flights (entry.Fresh frame page) = Unit {0}
Fits flights (entry.IssueIn slot page) = (flights slot ≡ None) × IsStill flights page
Fits flights (entry.FinishIn slot frame) = (page : ℕ) × (flights slot ≡ Some (Reading page))
Fits flights (entry.IssueOut slot frame page) = (flights slot ≡ None) × IsStill flights page
Fits flights (entry.FinishOut slot) = (page : ℕ) × (flights slot ≡ Some (Writing page))
Fits flights (entry.Do job) = Unit {0}

-- each directive meets what it asks for, and no slot is in flight at the end
pub record IsOrderly (directives : List Directive) : Type 0 where
  pub each : (d : ℕ) → IfSome (slice_get directives d) (Fits (flights_before directives d))
  pub idle : (slot : ℕ) → flights_before directives (length directives) slot ≡ None

-- each worker's directives are orderly
abbrev pub AreOrderly : MemProgram → Type 0
AreOrderly plan = (worker : ℕ) → IsOrderly (directives_of plan worker)

-- A worker that is through: past its last directive, its driver finished, and no slot in flight.
pub record IsThrough {W : Type 0} (rules : Rules W) (plan : MemProgram) (n : ℕ) (worker : Core
    rules plan) : Type 0 where
  pub place : slice_get (directives_of plan n) worker.engine.place ≡ None
  pub finished : worker.engine.is_finished ≡ true
  pub idle : (slot : ℕ) → worker.slots slot ≡ Idle
