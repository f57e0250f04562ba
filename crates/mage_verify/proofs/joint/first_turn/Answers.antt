use Rattle.std.proofs.Common.{length, sym, ◌∙◌}
use Rattle.mage_verify.specs.Joint.{stands, lists_at, first_turn}
use Rattle.mage_verify.specs.Turns.{done_in}
use Rattle.mage_verify.proofs.Together.{turn_passed}
use Rattle.mage_verify.proofs.joint.first_turn.Goals as goal

pub loop-worker-preserved : goal.loop-worker-preserved
loop-worker-preserved c =
    turn_passed (stands (lists_at c.args.workers.now) (done_in c.args.done.now)) (length c.args.workers.now) c.loop-worker.worker
    (first_turn (stands (lists_at c.args.workers.now) (done_in c.args.done.now)) 0 (length c.args.workers.now))
    c.loop-worker-test.true c.loop-worker.invariant (sym c.turn_of.ensures.turn ∙ c.in_default.is)
