use Rattle.std.proofs.Common.{rules, ◌≡◌, [], ◌∷◌, ◌++◌, arith}
use Rattle.std.proofs.lemmas.Result.{err_from_is_err_and}
use Rattle.mage_pipe.specs.MemoryProgram.{homed_with}
use Rattle.mage_pipe.proofs.Joining.{parts_begin, part_taken, part_failed, parts_end, have_more, have_all}
use Rattle.mage_pipe.proofs.Walking.{turns_begin, turn_taken, turn_failed, turns_end}
use Rattle.mage_pipe.proofs.making.parts_of.Goals as goal

pub loop-worker-init : goal.loop-worker-init
loop-worker-init c = record {
  joins = parts_begin c.args.limits c.args.workers.now c.new-stores.result c.new-parts.result c.new-stores.ensures c.new-parts.ensures;
  costs = turns_begin c.args.limits c.args.workers.now c.new-all.result.items (search rules);
  have = λ k below. absurd (omega (arith, below));
}

pub returns-in_err-part-clause-plan : goal.returns-in_err-part-clause-plan
returns-in_err-part-clause-plan c =
    let p = err_from_is_err_and c.from_residual.result c.from_residual.ensures.1 in
    let own = c.index-workers-worker.result in
    rw (p.1, p.2) (part_failed c.args.limits c.args.workers.now c.loop-worker.stores c.loop-worker.parts c.loop-worker.worker own c.loop-worker-test.true c.index-workers-worker.is c.loop-worker.invariant.joins c.in_err-part.field-0.0 (rw c.as_slice.ensures at c.in_err-part.ensures.part))

pub returns-in_err-part-clause-stats : goal.returns-in_err-part-clause-stats
returns-in_err-part-clause-stats c =
    let p = err_from_is_err_and c.from_residual.result c.from_residual.ensures.1 in
    let own = c.index-workers-worker.result in
    rw (p.1, p.2) (turn_failed c.args.limits c.args.workers.now c.loop-worker.all.items c.loop-worker.worker own c.loop-worker-test.true c.index-workers-worker.is c.loop-worker.invariant.costs c.in_err-part.field-0.0 (rw c.as_slice.ensures at c.in_err-part.ensures.stats))

pub loop-worker-preserved : goal.loop-worker-preserved
loop-worker-preserved c =
    let own = c.index-workers-worker.result in
    let part = c.in_ok-part.part in
    let all : c.push.new.self.items ≡ c.loop-worker.all.items ++ part.stats ∷ [] = search rules in
    let stores : c.push-in-loop-worker.new.self ≡ c.loop-worker.stores ++ part.store ∷ [] = search rules in
    let lists : c.push-in-loop-worker-2.new.self ≡ c.loop-worker.parts ++ part.directives.items ∷ [] = search rules in
    record {
      joins = rw (stores, lists) (part_taken c.args.limits c.args.workers.now c.loop-worker.stores c.loop-worker.parts c.loop-worker.worker own c.loop-worker-test.true c.index-workers-worker.is c.loop-worker.invariant.joins
          (homed_with part.directives.items part.store) (rw c.as_slice.ensures at c.in_ok-part.ensures.part));
      costs = rw all (turn_taken c.args.limits c.args.workers.now c.loop-worker.all.items c.loop-worker.worker own c.loop-worker-test.true c.index-workers-worker.is c.loop-worker.invariant.costs
          part.stats (rw c.as_slice.ensures at c.in_ok-part.ensures.stats));
      have = have_more c.args.workers.now c.loop-worker.worker own c.loop-worker-test.true c.index-workers-worker.is (rw c.as_slice.ensures at c.in_ok-part.ensures.have) c.loop-worker.invariant.have;
    }

pub returns-clause-plan : goal.returns-clause-plan
returns-clause-plan c = parts_end c.args.limits c.args.workers.now c.loop-worker.stores c.loop-worker.parts c.loop-worker.worker c.loop-worker-test.false c.loop-worker.invariant.joins

pub returns-clause-stats : goal.returns-clause-stats
returns-clause-stats c = turns_end c.args.limits c.args.workers.now c.loop-worker.all.items c.loop-worker.worker c.loop-worker-test.false c.loop-worker.invariant.costs

pub returns-clause-have : goal.returns-clause-have
returns-clause-have c = have_all c.args.workers.now c.loop-worker.worker c.loop-worker-test.false c.loop-worker.invariant.have
