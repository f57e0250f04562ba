use Rattle.std.proofs.Common.{rules, ◌≡◌, [], ◌∷◌, ◌++◌}
use Rattle.std.proofs.lemmas.Result.{err_from_is_err_and}
use Rattle.mage_pipe.proofs.Walking.{turn_taken, turn_failed, turns_end}
use Rattle.mage_pipe.proofs.planning.stats_of.Goals as goal

pub returns-in_err-stats : goal.returns-in_err-stats
returns-in_err-stats c =
    let p = err_from_is_err_and c.from_residual.result c.from_residual.ensures.1 in
    let own = c.index-workers-worker.result in
    rw (p.1, p.2) (turn_failed c.args.limits c.args.workers.now c.loop-worker.all.items c.loop-worker.worker own c.loop-worker-test.true c.index-workers-worker.is c.loop-worker.invariant c.in_err-stats.field-0.0 (rw c.as_slice.ensures at c.in_err-stats.ensures))

pub loop-worker-preserved : goal.loop-worker-preserved
loop-worker-preserved c =
    let own = c.index-workers-worker.result in
    let pushed : c.push.new.self.items ≡ c.loop-worker.all.items ++ c.in_ok-stats.stats ∷ [] = search rules in
    rw pushed (turn_taken c.args.limits c.args.workers.now c.loop-worker.all.items c.loop-worker.worker own c.loop-worker-test.true c.index-workers-worker.is c.loop-worker.invariant c.in_ok-stats.stats (rw c.as_slice.ensures at c.in_ok-stats.ensures))

pub returns : goal.returns
returns c = turns_end c.args.limits c.args.workers.now c.loop-worker.all.items c.loop-worker.worker c.loop-worker-test.false c.loop-worker.invariant
