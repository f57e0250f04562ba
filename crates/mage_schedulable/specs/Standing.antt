-- That each instruction of a list finds its values where the places of the rule say.
use Rattle.std.specs.Prelude.{◌≡◌, ◌<◌, ◌+◌, ℕ, List, [], ◌∷◌, None, Some, IfSome, IsTrue, slice_get, slice_index_or}
use Rattle.mage_instr.specs.declared.instr.Instr.{Instr}
use Rattle.mage_instr.specs.declared.instr.Place.{Place}
use Rattle.mage_instr.specs.declared.instr.Step.{Step}
use Rattle.mage_instr.specs.declared.replaced.Job.{Job}
use Rattle.mage_instr.specs.declared.replaced.Spot.{Spot}
use Rattle.mage_instr.specs.declared.replaced.Replaced.{Replaced}
use Rattle.mage_instr.specs.declared.replaced.Replaced.TheVariants as entry
use Rattle.mage_instr.specs.Opcodes.{arity_of, has_result}
use Rattle.mage_instr.specs.Sound.{arg_of, IsSound}
use Rattle.mage_place.specs.Places.{place_of}
use Rattle.mage_place.specs.Steps.{AreSteps}
use Rattle.mage_belady.specs.Rule.{no_spot, rule_of, tight_of}
use Rattle.mage_residency.specs.Carried.{HaveArguments}
use Rattle.mage_sched.specs.Reads.{page_in}

-- A spot is the place of a value: its frame has the value's page, behind these entries, the newest first, and its offset is the
-- place's.
pub record IsSpotOf (places : List Place) (before : List Replaced) (v : ℕ) (spot : Spot) : Type 0 where
  pub frame : page_in before spot.frame ≡ Some (place_of places v).page
  pub offset : spot.offset ≡ (place_of places v).offset

-- the values that instruction t takes, and the one that it defines, are where its job says
pub record FindsPlaces (places : List Place) (t : ℕ) (i : Instr) (before : List Replaced) (job : Job) : Type 0 where
  pub taken : (k : ℕ) → k < arity_of i.op → IsSpotOf places before (arg_of i k) (slice_index_or job.args k no_spot)
  pub defined : IsTrue (has_result i.op) → IsSpotOf places before t job.out

-- so it is with each instruction of some entries, from instruction t on
abbrev pub AllFindPlaces : List Instr → List Place → (t : ℕ) → (before list : List Replaced) → Type 0
AllFindPlaces instrs places t before [] = Unit {0}
AllFindPlaces instrs places t before (entry.Fresh frame page ∷ list) = AllFindPlaces instrs places t (entry.Fresh frame page ∷ before) list
AllFindPlaces instrs places t before (entry.Load frame page ∷ list) = AllFindPlaces instrs places t (entry.Load frame page ∷ before) list
AllFindPlaces instrs places t before (entry.Save frame page ∷ list) = AllFindPlaces instrs places t (entry.Save frame page ∷ before) list
AllFindPlaces instrs places t before (entry.Do job ∷ list) =
    IfSome (slice_get instrs t) (λ i. FindsPlaces places t i before job) × AllFindPlaces instrs places (t + 1) (entry.Do job ∷ before) list

-- in the list of the rule each instruction does
abbrev pub RuleListsFindPlaces : Type 0
RuleListsFindPlaces =
    (frames : ℕ) (instrs : List Instr) (places : List Place) (trace : List Step)
    → IsSound instrs → HaveArguments instrs → AreSteps instrs places trace → tight_of frames 0 trace ≡ None
    → AllFindPlaces instrs places 0 [] (rule_of frames instrs places trace)
