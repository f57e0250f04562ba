-- The set has the pages so far beside what it had.
use Rattle.std.proofs.Common.{◌≡◌, ◌||◌, ℕ, nat_eq, take}
use Rattle.std.specs.HashSet.{contains}
use Rattle.mage_belady.specs.Plan.{is_in}
use Rattle.mage_belady.proofs.costs.note.Given as goal

abbrev pub invariant-loop-k : goal.invariant-loop-k
invariant-loop-k l = (page : ℕ)
    → contains nat_eq l.seen page
    ≡ (contains nat_eq l.initial.seen page || is_in page (take l.k l.step.pages))
