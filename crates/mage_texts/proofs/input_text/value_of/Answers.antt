use Rattle.std.proofs.Common.{arith}
use Rattle.mage_texts.proofs.Digits.{digits_value_after-at}
use Rattle.mage_texts.proofs.input_text.value_of.Goals as goal

pub returns-in_err-value : goal.returns-in_err-value
returns-in_err-value c =
    let more = digits_value_after-at c.loop-digit.value c.loop-digit.digit-index c.args.digits.now 0 (omega arith) in
    rw c.from_residual.ensures (λ small. c.in_err-value.ensures (omega (arith, more, c.loop-digit.invariant.whole)))
