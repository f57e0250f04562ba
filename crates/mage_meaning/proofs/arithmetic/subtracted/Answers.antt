use Rattle.std.proofs.Common.{◌∙◌, ◌^◌, ◌-◌, ap, ℕ, arith}
use Rattle.std.proofs.lemmas.Nat.{pow_pos}
use Rattle.mage_meaning.proofs.Wrapping.{less_greater, less_lesser}
use Rattle.mage_meaning.proofs.arithmetic.subtracted.Goals as goal

pub returns-then-b-a : goal.returns-then-b-a
returns-then-b-a c = c.reduced.ensures.value ∙ less_greater c.args.a c.args.b (2 ^ c.args.width) (omega arith)

pub returns-else-b-a : goal.returns-else-b-a
returns-else-b-a c =
    c.saturating_sub.ensures ∙ ap (λ (n : ℕ). n - (c.args.b - c.args.a - 1)) c.mask.ensures.value
    ∙ less_lesser c.args.a c.args.b (2 ^ c.args.width) (omega arith) (pow_pos c.args.width)
