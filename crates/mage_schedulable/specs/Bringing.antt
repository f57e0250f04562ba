-- That each page of the trace comes in new once.
use Rattle.std.specs.Prelude.{◌≡◌, ℕ, List, [], ◌∷◌, None, IfSome, slice_get, true}
use Rattle.std.specs.List.{flat_map}
use Rattle.mage_instr.specs.declared.instr.Instr.{Instr}
use Rattle.mage_instr.specs.declared.instr.Place.{Place}
use Rattle.mage_instr.specs.declared.instr.Step.{Step}
use Rattle.mage_instr.specs.declared.replaced.Replaced.{Replaced}
use Rattle.mage_instr.specs.declared.replaced.Replaced.TheVariants as entry
use Rattle.mage_instr.specs.Sound.{IsSound}
use Rattle.mage_instr.specs.Trace.{pages_of}
use Rattle.mage_place.specs.Steps.{AreSteps}
use Rattle.mage_belady.specs.Plan.{is_in, AreDistinct}
use Rattle.mage_belady.specs.Rule.{rule_of, tight_of}
use Rattle.mage_residency.specs.Carried.{HaveArguments}

-- the page that comes in new
abbrev pub page_new : Replaced → List ℕ
page_new (entry.Fresh frame page) = page ∷ []
page_new (entry.Load frame page) = []
page_new (entry.Save frame page) = []
page_new (entry.Do job) = []

-- no page comes in new twice, and each page of each step does once
pub record ComeInOnce (trace : List Step) (list : List Replaced) : Type 0 where
  pub once : AreDistinct (flat_map page_new list)
  pub each : (t q : ℕ) → IfSome (slice_get trace t) (λ step. is_in q (pages_of step) ≡ true → is_in q (flat_map page_new list) ≡ true)

-- so it is in the list of the rule
abbrev pub RuleListsBringOnce : Type 0
RuleListsBringOnce =
    (frames : ℕ) (instrs : List Instr) (places : List Place) (trace : List Step)
    → IsSound instrs → HaveArguments instrs → AreSteps instrs places trace → tight_of frames 0 trace ≡ None
    → ComeInOnce trace (rule_of frames instrs places trace)
