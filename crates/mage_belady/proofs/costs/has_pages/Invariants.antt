-- The set has the pages so far.
use Rattle.std.proofs.Common.{◌≡◌, true, take}
use Rattle.std.specs.List.{list_all}
use Rattle.mage_belady.specs.Plan.{is_in}
use Rattle.mage_belady.proofs.costs.has_pages.Given as goal

abbrev pub invariant-loop-k : goal.invariant-loop-k
invariant-loop-k l = list_all (λ page. is_in page l.set) (take l.k l.step.pages) ≡ true
