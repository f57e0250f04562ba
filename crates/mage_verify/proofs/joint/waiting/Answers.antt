use Rattle.std.proofs.Common.{rules, length, sym, ◌∙◌, ◌≡◌}
use Rattle.mage_verify.specs.declared.turn.Stand.TheVariants as stand
use Rattle.mage_verify.specs.Joint.{lists_at, waiting}
use Rattle.mage_verify.specs.Turns.{done_in}
use Rattle.mage_verify.proofs.Together.{wait_passed}
use Rattle.mage_verify.proofs.joint.waiting.Goals as goal

pub loop-worker-preserved : goal.loop-worker-preserved
loop-worker-preserved c =
    let ended : c.stand.result ≡ stand.Ended = search rules in
    wait_passed (lists_at c.args.workers.now) (done_in c.args.done.now) (length c.args.workers.now) c.loop-worker.worker
    (waiting (lists_at c.args.workers.now) (done_in c.args.done.now) 0 (length c.args.workers.now))
    c.loop-worker-test.true c.loop-worker.invariant (sym c.stand.ensures.stand ∙ ended)
