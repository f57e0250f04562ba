-- The pages so far are below the page.
use Rattle.std.proofs.Common.{◌<◌, ℕ, slice_index}
use Rattle.mage_place.proofs.steps.below.Given as goal

abbrev pub invariant-loop-k : goal.invariant-loop-k
invariant-loop-k l = (j : ℕ) → j < l.k → slice_index l.step.pages j < l.page
