use Rattle.std.proofs.Common.{◌*◌, ◌%◌, ◌^◌, ◌∙◌, ap, sym, ℕ, arith}
use Rattle.mage_meaning.proofs.Wrapping.{wraps, left_beyond}
use Rattle.mage_meaning.proofs.arithmetic.shifted_left.Goals as goal

pub returns-then-amount-lt128 : goal.returns-then-amount-lt128
returns-then-amount-lt128 c =
    c.reduced.ensures.value ∙ wraps (c.args.a * c.power.result) c.args.width c.reduced.ensures.width
    ∙ ap (λ (p : ℕ). c.args.a * p % 2 ^ c.args.width) c.power.ensures

pub returns-else-amount-lt128 : goal.returns-else-amount-lt128
returns-else-amount-lt128 c = sym (left_beyond c.args.a c.args.width c.args.amount (omega arith))
