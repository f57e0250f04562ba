-- The turn of the workers from this one on is that of all.
use Rattle.std.proofs.Common.{◌≡◌, ◌-◌, length}
use Rattle.mage_verify.specs.Joint.{stands, lists_at, first_turn}
use Rattle.mage_verify.specs.Turns.{done_in}
use Rattle.mage_verify.proofs.joint.first_turn.Given as goal

abbrev pub invariant-loop-worker : goal.invariant-loop-worker
invariant-loop-worker l =
    first_turn (stands (lists_at l.workers) (done_in l.done)) l.worker (length l.workers - l.worker)
    ≡ first_turn (stands (lists_at l.workers) (done_in l.done)) 0 (length l.workers)
