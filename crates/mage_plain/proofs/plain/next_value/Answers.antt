use Rattle.std.proofs.Common.{drop, sym, ap, arith}
use Rattle.std.proofs.lemmas.List.{drop_more}
use Rattle.mage_plain.proofs.plain.next_value.Goals as goal

pub returns-then-place-values-clause-place : goal.returns-then-place-values-clause-place
returns-then-place-values-clause-place c =
    sym (ap (λ ys. drop 1 ys) (drop_more c.args.values.now c.args.place 0 (omega arith)))
