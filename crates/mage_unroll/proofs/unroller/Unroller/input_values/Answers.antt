use Rattle.std.proofs.Common.{◌∙◌, sym, arith}
use Rattle.mage_unroll.proofs.Turns.{inputs-more}
use Rattle.mage_unroll.proofs.unroller.Unroller.input_values.Goals as goal

pub loop-preserved : goal.loop-preserved
loop-preserved c =
    sym (inputs-more _ _ _ _ _ _ _ _ _ _ _ (omega arith) c.in_ok-step.ensures c.in_ok-value.ensures c.in_ok-push.ensures.ok)
    ∙ c.loop.invariant
