use Rattle.std.proofs.Common.{ℕ, List, sym, ap, drop}
use Rattle.std.proofs.lemmas.List.{drop_more}
use Rattle.mage_garble.proofs.driver.next_of.Goals as goal

pub returns-then-place-values-clause-place : goal.returns-then-place-values-clause-place
returns-then-place-values-clause-place c = sym (ap (λ (xs : List ℕ). drop 1 xs) (drop_more c.args.values.now c.args.place 0 c.if-place-values.true))
