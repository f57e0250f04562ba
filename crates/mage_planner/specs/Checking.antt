-- What `check` says of a file that `plan` wrote.
use Rattle.std.specs.Prelude.{◌≡◌, ℕ, List, [], ◌∷◌, Ok, codes}
use Rattle.mage_instr.specs.Limits.{AreInRange}
use Rattle.mage_words.specs.Words.{PlanRequest, CheckRequest}
use Rattle.mage_planner.specs.Outcome.{NewFile, Done, says, plan_outcome, check_outcome}
use Rattle.mage_planner.specs.Found.{Found, Held}

-- The file that `plan` writes of a source is one of which `check` says, of the same source, that it carries it.
abbrev pub PlansAreCarried : Type 0
PlansAreCarried =
    (text : List ℕ) (planned : Found) (plan : PlanRequest) (done : Done) → AreInRange plan.limits → planned.source ≡ Held text → plan_outcome planned plan ≡ Ok done
    → (file : NewFile) → done.files ≡ file ∷ []
    → (checked : Found) (check : CheckRequest) → checked.source ≡ Held text → checked.program ≡ Held file.bytes
    → check_outcome checked check ≡ Ok (says (codes "carries\n"))
