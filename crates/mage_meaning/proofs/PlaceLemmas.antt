-- What a place stands for is the same on both sides.
use Rattle.std.proofs.Common.{◌≡◌, ℕ, zero, suc, ◌<◌, length, List, [], ◌∷◌, ℤ, Option, Some, None, Ok, refl, sym, ap, ◌∙◌, subst}
use Rattle.std.specs.Prelude.{slice_get, slice_index, set, unsigned_abs, unwrap_or}
use Rattle.mage_lex.specs.declared.token.Token.{Token}
use Rattle.mage_scopes.specs.Scopes.{found}
use Rattle.mage_tree.specs.Words.{bytes_of, width_of_type}
use Rattle.mage_tree.specs.declared.tree.ConstExpr.{ConstExpr}
use Rattle.mage_tree.specs.declared.tree.Item.{Item}
use Rattle.mage_unroll.specs.declared.state.Array.{Array}
use Rattle.mage_unroll.specs.declared.state.Named.{Named}
use Rattle.mage_unroll.specs.declared.state.Named.TheVariants as named
use Rattle.mage_unroll.specs.declared.state.Scalar.{Scalar}
use Rattle.mage_constants.specs.Constants.{constant_of}
use Rattle.mage_unroll.specs.declared.state.Held.{Held}
use Rattle.mage_unroll.specs.State as state
use Rattle.mage_unroll.specs.State.{State, held_scalar, held_item, item_of, place_with, place_of, position_of, width_at}
use Rattle.mage_meaning.specs.declared.known.Known.{Known}
use Rattle.mage_meaning.specs.declared.known.Known.TheVariants as known
use Rattle.mage_meaning.specs.declared.known.Row.{Row}
use Rattle.mage_meaning.specs.declared.known.Wide.{Wide}
use Rattle.mage_meaning.specs.Given.{Given}
use Rattle.mage_meaning.specs.Value as value
use Rattle.mage_meaning.specs.Value.{Moment, wide}
use Rattle.mage_meaning.proofs.Agree.{Stands, StandFor, Same, Agree, same_found, constant-Agree}
use Rattle.mage_chains.proofs.Ends.{none_not_some, same_Some, then_ok, same_Ok}
use Rattle.mage_constants.proofs.RangeLemmas.{number_below-is}
use Rattle.mage_constants.proofs.Trees.{or_fault_ok}
use Rattle.mage_meaning.proofs.Runs.{ran}
use Rattle.mage_meaning.proofs.ScopeLemmas.{Both}

-- ---- lists of variables

pub StandFor-at : (values is xs : List ℕ) (p i : ℕ) → StandFor values is xs → slice_get is p ≡ Some i → slice_get values i ≡ Some (slice_index xs p)
StandFor-at values (i' ∷ is) (x ∷ xs) zero i h e = subst (λ k. slice_get values k ≡ Some x) (same_Some i' i e) h.0
StandFor-at values (i' ∷ is) (x ∷ xs) (suc p) i h e = StandFor-at values is xs p i h.1 e
StandFor-at values [] [] p i h e = absurd (none_not_some i e)
StandFor-at values [] (x ∷ xs) p i h e = absurd h
StandFor-at values (i' ∷ is) [] p i h e = absurd h

pub StandFor-set : (values is xs : List ℕ) (p i x : ℕ) → StandFor values is xs → slice_get values i ≡ Some x → StandFor values (set is p i) (set xs p x)
StandFor-set values (i' ∷ is) (x' ∷ xs) zero i x h e = (e, h.1)
StandFor-set values (i' ∷ is) (x' ∷ xs) (suc p) i x h e = (h.0, StandFor-set values is xs p i x h.1 e)
StandFor-set values [] [] p i x h e = tt
StandFor-set values [] (x' ∷ xs) p i x h e = absurd h
StandFor-set values (i' ∷ is) [] p i x h e = absurd h

-- ---- names

-- the variable of a scalar stands for its number
scalar-Both : (workers : ℕ) (values : ℕ → List ℕ) (a : Option Named) (b : Option Known) (scalar : Scalar) → Both Named Known (Same workers values) a b → state.as_scalar a ≡ Some scalar → (scalar.worker < workers) × Stands (values scalar.worker) scalar.variable (value.as_number b)
scalar-Both workers values (Some (named.Scalar s)) (Some (known.Number number)) scalar h e =
    subst (λ (x : Scalar). (x.worker < workers) × Stands (values x.worker) x.variable number) (same_Some s scalar e) h
scalar-Both workers values (Some (named.Scalar s)) None scalar h e = absurd h
scalar-Both workers values (Some (named.Scalar s)) (Some (known.Constant z)) scalar h e = absurd h
scalar-Both workers values (Some (named.Scalar s)) (Some (known.Array row)) scalar h e = absurd h
scalar-Both workers values None b scalar h e = absurd (none_not_some scalar e)
scalar-Both workers values (Some (named.Constant z)) b scalar h e = absurd (none_not_some scalar e)
scalar-Both workers values (Some (named.Array array)) b scalar h e = absurd (none_not_some scalar e)

-- the variables of an array stand for its numbers
pub array-Both : (workers : ℕ) (values : ℕ → List ℕ) (a : Option Named) (b : Option Known) (array : Array) → Both Named Known (Same workers values) a b → state.as_array a ≡ Some array → Same workers values (named.Array array) (known.Array (value.as_row b))
array-Both workers values (Some (named.Array s)) (Some (known.Array row)) array h e =
    subst (λ (x : Array). Same workers values (named.Array x) (known.Array row)) (same_Some s array e) h
array-Both workers values (Some (named.Array s)) None array h e = absurd h
array-Both workers values (Some (named.Array s)) (Some (known.Constant z)) array h e = absurd h
array-Both workers values (Some (named.Array s)) (Some (known.Number number)) array h e = absurd h
array-Both workers values None b array h e = absurd (none_not_some array e)
array-Both workers values (Some (named.Constant z)) b array h e = absurd (none_not_some array e)
array-Both workers values (Some (named.Scalar s)) b array h e = absurd (none_not_some array e)

-- ---- places

module _ (given : Given) (workers : ℕ) where
  -- what is held on a worker stands for the number
  abbrev pub HeldFor : State → Held → Wide → Type 0
  HeldFor s held number = (held.worker < workers) × Stands ((ran given s.program).values held.worker) held.variable number

  -- the numbers that an index has on both sides
  pub same_position : (s : State) (m : Moment) (index : ConstExpr) (z : ℤ) (array : Array) (p : ℕ) → Agree given workers s m → constant_of index (state.constants_of s) ≡ Ok z → position_of z array ≡ Some p → value.number_in index m ≡ p
  same_position s m index z array p a h e =
      ap unsigned_abs (constant-Agree given workers s m index z a h) ∙ (number_below-is (length array.items) z p e).0

  pub item-Held : (s : State) (m : Moment) (name : Token) (index : ConstExpr) (array : Array) (row : Row) (held : Held) → Agree given workers s m → Same workers (ran given s.program).values (named.Array array) (known.Array row) → item_of name index array s ≡ Ok held → (held.worker ≡ array.worker) × (held.variable.width ≡ array.width) × (held.position ≡ Some (value.number_in index m)) × HeldFor s held (wide row.width (slice_index row.values (value.number_in index m)))
  unfolding item_of
  item-Held s m name index array row held a same h =
      let z = then_ok (constant_of index (state.constants_of s)) _ held h in
      let p = then_ok _ _ held z.2 in
      let i = then_ok _ _ held p.2 in
      let at = same_position s m index z.0 array p.0 a z.1 (or_fault_ok _ name (position_of z.0 array) p.0 p.1) in
      let stands = StandFor-at ((ran given s.program).values array.worker) array.items row.values p.0 i.0 same.2 (or_fault_ok _ name (slice_get array.items p.0) i.0 i.1) in
      let stands' = subst (λ n. slice_get ((ran given s.program).values array.worker) i.0 ≡ Some (slice_index row.values n)) (sym at) stands in
      subst (λ (x : Held). (x.worker ≡ array.worker) × (x.variable.width ≡ array.width) × (x.position ≡ Some (value.number_in index m)) × HeldFor s x (wide row.width (slice_index row.values (value.number_in index m))))
      (same_Ok (held_item array p.0 i.0) held i.2) (refl, refl, ap Some (sym at), (same.0, (stands', same.1)))

  place_with-Held : (s : State) (m : Moment) (name : Token) (index : Option (Token × ConstExpr)) (held : Held) → Agree given workers s m → place_with name index s ≡ Ok held → HeldFor s held (value.item_with name index m)
  unfolding place_with
  place_with-Held s m name None held a h =
      let x = then_ok _ _ held h in
      let both = scalar-Both workers (ran given s.program).values (found s.scopes (bytes_of name)) (found m.scopes (bytes_of name)) x.0 (same_found given workers s m (bytes_of name) a) (or_fault_ok _ name _ x.0 x.1) in
      subst (λ (y : Held). HeldFor s y (value.as_number (found m.scopes (bytes_of name)))) (same_Ok (held_scalar x.0) held x.2) both
  place_with-Held s m name (Some index) held a h =
      let x = then_ok _ _ held h in
      let both = array-Both workers (ran given s.program).values (found s.scopes (bytes_of name)) (found m.scopes (bytes_of name)) x.0 (same_found given workers s m (bytes_of name) a) (or_fault_ok _ name _ x.0 x.1) in
      (item-Held s m name index.1 x.0 (value.as_row (found m.scopes (bytes_of name))) held a both x.2).3

  pub place_of-Held : (s : State) (m : Moment) (item : Item) (held : Held) → Agree given workers s m → place_of item s ≡ Ok held → HeldFor s held (value.item_at item m)
  place_of-Held s m item held a h = place_with-Held s m item.name item.index held a h

-- the width of a type word
pub width_at-is : (ty : Token) (width : ℕ) → width_at ty ≡ Ok width → value.width_or_one ty ≡ width
width_at-is ty width h = ap (λ o. unwrap_or o 1) (or_fault_ok _ ty (width_of_type (bytes_of ty)) width h)
