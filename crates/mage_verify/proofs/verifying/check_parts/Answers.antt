use Rattle.std.proofs.Common.{◌∙◌, sym, inl, inr, ⊎_elim, length}
use Rattle.std.proofs.lemmas.Result.{err_from_is_err_and}
use Rattle.mage_verify.specs.Faults.{own_fault}
use Rattle.mage_verify.proofs.Walked.{count_at, worker_stops, worker_goes_on, workers_end}
use Rattle.mage_verify.proofs.verifying.check_parts.Goals as goal

pub check_part-requires : goal.check_part-requires
check_part-requires c =
    rw c.as_slice.ensures (count_at (length c.args.workers.now) c.args.workers.now c.requires.parts c.loop-worker.worker c.index-workers-worker.result c.loop-worker-test.true c.index-workers-worker.is)

pub loop-worker-preserved : goal.loop-worker-preserved
loop-worker-preserved c =
    worker_goes_on own_fault c.args.limits c.args.stores.now c.args.workers.now c.loop-worker.worker c.index-workers-worker.result c.loop-worker-test.true c.index-workers-worker.is _ c.loop-worker.invariant
    (rw c.as_slice.ensures at c.in_ok-check_part.ensures.none)

pub returns-in_err-check_part-clause-fault : goal.returns-in_err-check_part-clause-fault
returns-in_err-check_part-clause-fault c =
    let p = err_from_is_err_and c.from_residual.result c.from_residual.ensures.1 in
    rw (p.1, p.2) (⊎_elim (λ e. inl e) (λ e. inr (worker_stops own_fault c.args.limits c.args.stores.now c.args.workers.now c.loop-worker.worker c.index-workers-worker.result c.loop-worker-test.true c.index-workers-worker.is _ c.loop-worker.invariant _ e))
    (rw c.as_slice.ensures at c.in_err-check_part.ensures.fault))

pub returns-clause-none : goal.returns-clause-none
returns-clause-none c = sym c.loop-worker.invariant ∙ workers_end own_fault c.args.limits c.args.stores.now c.args.workers.now c.loop-worker.worker c.loop-worker-test.false
