-- The page isn't among those so far.
use Rattle.std.proofs.Common.{◌≡◌, take, false}
use Rattle.mage_belady.specs.Plan.{is_in}
use Rattle.mage_belady.proofs.jobs.frame_beside.Given as goal

abbrev pub invariant-loop-k : goal.invariant-loop-k
invariant-loop-k l = is_in l.page (take l.k l.step.pages) ≡ false
