use Rattle.std.proofs.Common.{length, length-append, [], ◌∷◌, refl, ap, arith}
use Rattle.mage_belady.proofs.Inputs.{AllDefine-push, FitsTrace-inputs, IsTrace-inputs}
use Rattle.mage_belady.proofs.replacing.tests.inputs_of.Goals as goal

pub loop-set-preserved : goal.loop-set-preserved
loop-set-preserved c =
    let kept = c.loop-set.invariant in
    record {
      all = rw (
        c.in_ok-push.ensures.items,
        c.in_ok-push-2.ensures.items,
        c.in_ok-push-3.ensures.items,
      )
          (AllDefine-push c.loop-set.instrs.items c.loop-set.places.items c.loop-set.trace.items _ _
          _ kept.all refl c.step_of-step.ensures.step c.step_of-step.ensures.first);
      count = (let one = ap length c.in_ok-push-3.ensures.items in let long =
          length-append c.loop-set.trace.items (c.step_of-step.result ∷ []) in
          omega (arith, one, long, kept.count));
    }

pub returns-clause-trace : goal.returns-clause-trace
returns-clause-trace c =
    IsTrace-inputs c.loop-set.instrs.items c.loop-set.places.items c.loop-set.trace.items
    c.loop-set.invariant.all (omega (arith, c.loop-set.invariant.count, c.requires))

pub returns-clause-places : goal.returns-clause-places
returns-clause-places c =
    FitsTrace-inputs c.loop-set.instrs.items c.loop-set.places.items c.loop-set.trace.items
    c.loop-set.invariant.all
