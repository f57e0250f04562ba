-- What is found from this worker on is what is found among all.
use Rattle.std.proofs.Common.{◌≡◌, ◌-◌, length}
use Rattle.mage_verify.specs.Joint.{lists_at, waiting}
use Rattle.mage_verify.specs.Turns.{done_in}
use Rattle.mage_verify.proofs.joint.waiting.Given as goal

abbrev pub invariant-loop-worker : goal.invariant-loop-worker
invariant-loop-worker l =
    waiting (lists_at l.workers) (done_in l.done) l.worker (length l.workers - l.worker)
    ≡ waiting (lists_at l.workers) (done_in l.done) 0 (length l.workers)
