-- The table and the answers of what stands behind.
use Rattle.mage_verify.proofs.Frames.{AreFound}
use Rattle.mage_verify.proofs.leaving.find_leaves.Given as goal

abbrev pub invariant-loop-behind : goal.invariant-loop-behind
invariant-loop-behind l = AreFound l.directives l.behind l.left l.leaves
