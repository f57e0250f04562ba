-- What a place stands for is a variable of a worker, and widths are those of types.
use Rattle.std.proofs.Common.{◌≡◌, ◌<◌, ◌+◌, ◌*◌, ◌-◌, ◌&&◌, ℕ, zero, suc, true, eqb, List, [], ◌∷◌, Option, Some, None, IfSome, Ok, set, replicate, ap, subst, arith}
use Rattle.std.specs.Prelude.{slice_get, nat_le, option_map}
use Rattle.std.proofs.lemmas.Bool.{and_parts, eqb-true, leb-true}
use Rattle.mage_lex.specs.declared.fault.LangKind.TheVariants as wrong
use Rattle.mage_lex.specs.declared.token.Token.{Token}
use Rattle.mage_scopes.specs.Scopes.{found}
use Rattle.mage_tree.specs.Words.{MOST_WIDTH, bytes_of, is_digit_from, width_of_type}
use Rattle.mage_tree.specs.declared.tree.ConstExpr.{ConstExpr}
use Rattle.mage_tree.specs.declared.tree.Item.{Item}
use Rattle.mage_unroll.specs.declared.state.Array.{Array}
use Rattle.mage_linked.specs.declared.emitted.Emitted.{Emitted}
use Rattle.mage_unroll.specs.declared.state.Named.{Named}
use Rattle.mage_unroll.specs.declared.state.Named.TheVariants as named
use Rattle.mage_unroll.specs.declared.state.Scalar.{Scalar}
use Rattle.mage_unroll.specs.declared.state.Held.{Held}
use Rattle.mage_constants.specs.Answer.{or_fault}
use Rattle.mage_constants.specs.Constants.{constant_of}
use Rattle.mage_unroll.specs.State.{State, as_scalar, as_array, constants_of, held_scalar, held_item, item_of, place_with, place_of, own_place, position_of, width_at, is_as_wide}
use Rattle.mage_unroll.proofs.SoundLists.{DefinesAt}
use Rattle.mage_unroll.proofs.SoundNames.{found-Means}
use Rattle.mage_chains.proofs.Ends.{none_not_some, same_Some, cond_ok, cond_some, then_ok, same_Ok}
use Rattle.mage_constants.proofs.Trees.{or_fault_ok}
use Rattle.mage_unroll.proofs.SoundStates.{IsWidth, IsVariable, AreItems, IsNamed, Well}
use Rattle.mage_linked.specs.Emission.{own_instrs}

-- ---- lists of items

pub AreItems-at : (program : List Emitted) (worker width : ℕ) (items : List ℕ) (p i : ℕ) → AreItems program worker width items → slice_get items p ≡ Some i → DefinesAt (own_instrs program worker) i width
AreItems-at program worker width [] p i h e = absurd (none_not_some i e)
AreItems-at program worker width (x ∷ xs) zero i h e = subst (λ k. DefinesAt (own_instrs program worker) k width) (same_Some x i e) h.0
AreItems-at program worker width (x ∷ xs) (suc p) i h e = AreItems-at program worker width xs p i h.1 e

pub AreItems-set : (program : List Emitted) (worker width : ℕ) (items : List ℕ) (p i : ℕ) → AreItems program worker width items → DefinesAt (own_instrs program worker) i width → AreItems program worker width (set items p i)
AreItems-set program worker width [] p i h d = tt
AreItems-set program worker width (x ∷ xs) zero i h d = (d, h.1)
AreItems-set program worker width (x ∷ xs) (suc p) i h d = (h.0, AreItems-set program worker width xs p i h.1 d)

pub AreItems-replicate : (program : List Emitted) (worker width n i : ℕ) → DefinesAt (own_instrs program worker) i width → AreItems program worker width (replicate n i)
AreItems-replicate program worker width zero i d = tt
AreItems-replicate program worker width (suc n) i d = (d, AreItems-replicate program worker width n i d)

-- ---- names

pub scalar-found : (o : Option Named) (scalar : Scalar) → as_scalar o ≡ Some scalar → o ≡ Some (named.Scalar scalar)
scalar-found (Some (named.Scalar other)) scalar h = ap (λ x. option_map named.Scalar x) h
scalar-found (Some (named.Constant z)) scalar h = absurd (none_not_some scalar h)
scalar-found (Some (named.Array array)) scalar h = absurd (none_not_some scalar h)
scalar-found None scalar h = absurd (none_not_some scalar h)

pub array-found : (o : Option Named) (array : Array) → as_array o ≡ Some array → o ≡ Some (named.Array array)
array-found (Some (named.Array other)) array h = ap (λ x. option_map named.Array x) h
array-found (Some (named.Constant z)) array h = absurd (none_not_some array h)
array-found (Some (named.Scalar scalar)) array h = absurd (none_not_some array h)
array-found None array h = absurd (none_not_some array h)

named-found : (workers : ℕ) (s : State) (name : Token) (a : Named) → Well workers s → found s.scopes (bytes_of name) ≡ Some a → IsNamed workers s.program a
named-found workers s name a w is =
    subst (λ o. IfSome o (IsNamed workers s.program)) is (found-Means Named (IsNamed workers s.program) s.scopes (bytes_of name) w.names)

pub scalar-Named : (workers : ℕ) (s : State) (name : Token) (scalar : Scalar) → Well workers s → as_scalar (found s.scopes (bytes_of name)) ≡ Some scalar → IsNamed workers s.program (named.Scalar scalar)
scalar-Named workers s name scalar w h = named-found workers s name (named.Scalar scalar) w (scalar-found (found s.scopes (bytes_of name)) scalar h)

pub array-Named : (workers : ℕ) (s : State) (name : Token) (array : Array) → Well workers s → as_array (found s.scopes (bytes_of name)) ≡ Some array → IsNamed workers s.program (named.Array array)
array-Named workers s name array w h = named-found workers s name (named.Array array) w (array-found (found s.scopes (bytes_of name)) array h)

-- ---- places

-- what is held is a variable of its worker
abbrev pub IsHeld : (workers : ℕ) → List Emitted → Held → Type 0
IsHeld workers program held = (held.worker < workers) × IsVariable program held.worker held.variable

pub item-is : (name : Token) (index : ConstExpr) (array : Array) (s : State) (held : Held) → item_of name index array s ≡ Ok held → (p : ℕ) × (i : ℕ) × (slice_get array.items p ≡ Some i) × (held_item array p i ≡ held)
unfolding item_of
item-is name index array s held h =
    let z = then_ok (constant_of index (constants_of s)) _ held h in
    let p = then_ok (or_fault wrong.IndexOut name (position_of z.0 array)) _ held z.2 in
    let i = then_ok (or_fault wrong.IndexOut name (slice_get array.items p.0)) _ held p.2 in
    (p.0, i.0, or_fault_ok wrong.IndexOut name (slice_get array.items p.0) i.0 i.1, same_Ok (held_item array p.0 i.0) held i.2)

place_with-Held : (workers : ℕ) (s : State) (name : Token) (index : Option (Token × ConstExpr)) (held : Held) → Well workers s → place_with name index s ≡ Ok held → IsHeld workers s.program held
unfolding place_with
place_with-Held workers s name None held w h =
    let x = then_ok _ _ held h in
    let is = scalar-Named workers s name x.0 w (or_fault_ok _ name _ x.0 x.1) in
    subst (λ (y : Held). IsHeld workers s.program y) (same_Ok (held_scalar x.0) held x.2) is
place_with-Held workers s name (Some index) held w h =
    let x = then_ok _ _ held h in
    let is = array-Named workers s name x.0 w (or_fault_ok _ name _ x.0 x.1) in
    let item = item-is name index.1 x.0 s held x.2 in
    let defines = AreItems-at s.program x.0.worker x.0.width x.0.items item.0 item.1 is.2 item.2 in
    subst (λ (y : Held). IsHeld workers s.program y) item.3 (is.0, record { width = is.1; defines = defines })

pub place_of-Held : (workers : ℕ) (s : State) (item : Item) (held : Held) → Well workers s → place_of item s ≡ Ok held → IsHeld workers s.program held
place_of-Held workers s item held w h = place_with-Held workers s item.name item.index held w h

-- a place on the current worker
pub own_place-is : (s : State) (item : Item) (held : Held) → own_place item s ≡ Ok held → (place_of item s ≡ Ok held) × (held.worker ≡ s.worker)
unfolding own_place
own_place-is s item held h =
    let x = then_ok (place_of item s) _ held h in
    let c = cond_ok (eqb x.0.worker s.worker) x.0 held _ x.2 in
    subst (λ (y : Held). (place_of item s ≡ Ok y) × (y.worker ≡ s.worker)) c.1 (x.1, eqb-true x.0.worker s.worker c.0)

-- ---- widths

pub same_width : (token : Token) (width other : ℕ) (u : Unit {0}) → is_as_wide token width other ≡ Ok u → width ≡ other
same_width token width other u h = eqb-true width other (cond_ok (eqb width other) tt u _ h).0

one_digit : (ones : ℕ) → is_digit_from 49 ones ≡ true → IsWidth (ones - 48)
one_digit ones h =
    let both = and_parts (nat_le 49 ones) (nat_le ones 57) h in
    let low = leb-true 49 ones both.0 in
    let high = leb-true ones 57 both.1 in
    (omega arith, omega arith)

two_digits : (tens ones : ℕ) → is_digit_from 49 tens ≡ true → is_digit_from 48 ones ≡ true → IsWidth (10 * (tens - 48) + (ones - 48))
two_digits tens ones h k =
    let both = and_parts (nat_le 49 tens) (nat_le tens 57) h in
    let other = and_parts (nat_le 48 ones) (nat_le ones 57) k in
    let low = leb-true 49 tens both.0 in
    let high = leb-true tens 57 both.1 in
    let most = leb-true ones 57 other.1 in
    (omega arith, omega arith)

IsWidth-type : (bytes : List ℕ) (width : ℕ) → width_of_type bytes ≡ Some width → IsWidth width
IsWidth-type (u ∷ ones ∷ []) width h =
    let c = cond_some (eqb u 117 && is_digit_from 49 ones) (ones - 48) width h in
    let both = and_parts (eqb u 117) (is_digit_from 49 ones) c.0 in
    subst IsWidth c.1 (one_digit ones both.1)
IsWidth-type (u ∷ tens ∷ ones ∷ []) width h =
    let c = cond_some (eqb u 117 && is_digit_from 49 tens && is_digit_from 48 ones) (10 * (tens - 48) + (ones - 48)) width h in
    let a = and_parts _ _ c.0 in
    let b = and_parts _ _ a.0 in
    subst IsWidth c.1 (two_digits tens ones b.1 a.1)
IsWidth-type (u ∷ hundreds ∷ tens ∷ ones ∷ []) width h =
    let value = 100 + 10 * (tens - 48) + (ones - 48) in
    let digits = eqb u 117 && eqb hundreds 49 && is_digit_from 48 tens && is_digit_from 48 ones in
    let c = cond_some (digits && nat_le value MOST_WIDTH) value width h in
    let a = and_parts digits (nat_le value MOST_WIDTH) c.0 in
    let high = leb-true value MOST_WIDTH a.1 in
    let is : IsWidth value = (omega arith, omega arith) in
    subst IsWidth c.1 is
IsWidth-type [] width h = absurd (none_not_some width h)
IsWidth-type (u ∷ []) width h = absurd (none_not_some width h)
IsWidth-type (u ∷ a ∷ b ∷ c ∷ d ∷ rest) width h = absurd (none_not_some width h)

pub IsWidth-at : (ty : Token) (width : ℕ) → width_at ty ≡ Ok width → IsWidth width
IsWidth-at ty width h = IsWidth-type (bytes_of ty) width (or_fault_ok _ ty (width_of_type (bytes_of ty)) width h)
