use Rattle.std.proofs.Common.{◌≡◌, ℕ, [], Option, Some, None, false, IfNone, length, slice_get, arith, refl, sym, ap, ◌∙◌, ⊎_elim}
use Rattle.std.specs.Option.{option_map, option_map_or, is_some}
use Rattle.std.specs.List.{list_any}
use Rattle.std.specs.Ordering.{nat_cmp}
use Rattle.std.specs.BTreeMap.{is_at}
use Rattle.std.specs.BTreeSet.{BTreeSet, contains}
use Rattle.std.proofs.lemmas.Bool.{false≢true, cases_lt}
use Rattle.std.proofs.lemmas.List.{nil_from_length}
use Rattle.std.proofs.lemmas.Option.{slice_get_read}
use Rattle.mage_place.proofs.pool.last_open.Goals as goal

IfNone-from : {X : Type 0} {P : Type 0} (o : Option X) → (o ≡ None → P) → IfNone o P
IfNone-from None h = h refl
IfNone-from (Some x) h = tt

none_of_none : {X Y : Type 0} (f : X → Y) (o : Option X) → option_map f o ≡ None → is_some o ≡ false
none_of_none f None e = refl
none_of_none f (Some x) e = cc

pub returns-clause-none : goal.returns-clause-none
returns-clause-none c = IfNone-from c.copied.result (λ e r.
    let pool = c.args.pool.now in let s = c.index.result.now in
    let none : is_some c.last.result ≡ false = none_of_none _ c.last.result (sym c.copied.ensures ∙ e) in
    let empty : s.keys ≡ [] = ⊎_elim (λ some. absurd (false≢true (sym none ∙ c.last.ensures.variant.1 some))) (λ past. nil_from_length s.keys (omega arith)) (cases_lt 0 (length s.keys)) in
    let class : c.from.result ≡ c.args.class = c.from.ensures in
    let was : slice_get pool.open.items c.args.class ≡ Some s = slice_get_read pool.open.items (length pool.open.items) c.args.class s refl (omega (arith, c.requires.class, c.requires.pool.classes)) (rw class at c.index.ensures) in
    let listed = ap (λ o. option_map_or (λ (x : BTreeSet ℕ). contains nat_cmp x r) o false) was ∙ ap (list_any (is_at (nat_cmp r))) empty in
    sym (c.requires.pool.open_pages c.args.class r (omega (arith, c.requires.class))) ∙ listed)
