-- One turn more of a loop.
use Rattle.std.proofs.Common.{◌≡◌, suc, ℤ, pos, sym, ap, ◌∙◌, arith}
use Rattle.std.specs.Prelude.{◌+ℤ◌, int_lt, true}
use Rattle.std.proofs.lemmas.Int.{ints}
use Rattle.mage_lex.specs.declared.token.Token.{Token}
use Rattle.mage_constants.specs.Ranges.{distance}
use Rattle.mage_meaning.specs.declared.known.Known.TheVariants as known
use Rattle.mage_meaning.specs.Value.{Moment, Change, bound, in_scope, turns}

distance-more : (a b : ℤ) → int_lt a b ≡ true → distance a b ≡ suc (distance (a +ℤ pos 1) b)
distance-more a b h = grind (arith, ints)

pub turns-more : (number end : ℤ) (name : Token) (body : Change) (m m' total : Moment) → int_lt number end ≡ true → m' ≡ in_scope (λ inner. body (bound name (known.Constant number) inner)) m → turns (distance number end) number name body m ≡ total → turns (distance (number +ℤ pos 1) end) (number +ℤ pos 1) name body m' ≡ total
turns-more number end name body m m' total h turn e =
    ap (λ x. turns (distance (number +ℤ pos 1) end) (number +ℤ pos 1) name body x) turn
    ∙ ap (λ n. turns n number name body m) (sym (distance-more number end h)) ∙ e
