-- Pages of which one changed or is new, and the lists of the open ones after that.
use Rattle.std.proofs.Common.{◌≡◌, ◌≢◌, ◌<◌, ◌++◌, ◌∷◌, [], ◌&&◌, ℕ, List, Bool, true, false, eqb, Some, length, set, slice_get, refl, sym, ap, ◌∙◌, arith, ⊎_elim, subst}
use Rattle.std.specs.Option.{option_map_or}
use Rattle.std.specs.Ordering.{nat_cmp}
use Rattle.std.specs.BTreeSet.{BTreeSet, contains}
use Rattle.std.proofs.lemmas.Bool.{cases_eq, eq-eqb, ne_eqb, and_left, and_right}
use Rattle.std.specs.BTreeMap.{is_at}
use Rattle.std.proofs.lemmas.Grind.{common_steps}
use Rattle.mage_place.specs.declared.page.Page.{Page}
use Rattle.mage_place.specs.Pages.{IsPage, is_taken_on, is_used, has_room}
use Rattle.mage_place.specs.Pools.{is_taken, class_at, is_open_page, is_open, is_listed, list_count, ArePages}
use Rattle.mage_place.proofs.At.{slice_get-set_same, slice_get-set_other, slice_get-push_same, slice_get-push_other}

-- page r of the new pages is p, and each other page is as in the old ones
pub record Changed (old new : List Page) (r : ℕ) (p : Page) : Type 0 where
  pub here : slice_get new r ≡ Some p
  pub there : (q : ℕ) → q ≢ r → slice_get new q ≡ slice_get old q

pub Changed-set : (old : List Page) (r : ℕ) (p : Page) → r < length old → Changed old (set old r p) r p
Changed-set old r p h = record { here = slice_get-set_same old r p h; there = λ q ne. slice_get-set_other old r q p ne }

pub Changed-push : (old : List Page) (p : Page) → Changed old (old ++ p ∷ []) (length old) p
Changed-push old p = record { here = slice_get-push_same old p; there = λ q ne. slice_get-push_other old p q ne }

true_is_false : true ≡ false → ⊥
true_is_false e = cc

and_both : {a b : Bool} → a ≡ true → b ≡ true → (a && b) ≡ true
and_both {a} {b} x y = rw (x, y) refl

some_same : {X : Type 0} (x y : X) → Some x ≡ Some y → x ≡ y
some_same x y e = cc

module _ (old new : List Page) (r : ℕ) (p : Page) (changed : Changed old new r p) where
  pub class_at-changed : class_at new r ≡ p.class
  class_at-changed = ap (λ o. option_map_or (λ (x : Page). x.class) o 0) changed.here

  pub class_at-other : (q : ℕ) → q ≢ r → class_at new q ≡ class_at old q
  class_at-other q ne = ap (λ o. option_map_or (λ (x : Page). x.class) o 0) (changed.there q ne)

  pub is_taken-changed : (j : ℕ) → is_taken new r j ≡ is_taken_on p j
  is_taken-changed j = ap (λ o. option_map_or (λ x. is_taken_on x j) o false) changed.here

  pub is_taken-other : (q j : ℕ) → q ≢ r → is_taken new q j ≡ is_taken old q j
  is_taken-other q j ne = ap (λ o. option_map_or (λ x. is_taken_on x j) o false) (changed.there q ne)

  pub is_open-changed : (wires c : ℕ) → is_open wires new c r ≡ is_open_page wires c p
  is_open-changed wires c = ap (λ o. option_map_or (is_open_page wires c) o false) changed.here

  pub is_open-other : (wires c q : ℕ) → q ≢ r → is_open wires new c q ≡ is_open wires old c q
  is_open-other wires c q ne = ap (λ o. option_map_or (is_open_page wires c) o false) (changed.there q ne)

  pub ArePages-changed : (wires : ℕ) → IsPage wires p → ArePages wires old → ArePages wires new
  ArePages-changed wires ok all = λ q x is. ⊎_elim (here q x is) (there q x is) (cases_eq q r) where
    here : (q : ℕ) (x : Page) → slice_get new q ≡ Some x → q ≡ r → IsPage wires x
    here q x is e = subst (IsPage wires) (some_same p x (sym changed.here ∙ ap (slice_get new) (sym e) ∙ is)) ok

    there : (q : ℕ) (x : Page) → slice_get new q ≡ Some x → q ≢ r → IsPage wires x
    there q x is ne = all q x (sym (changed.there q ne) ∙ is)

  -- the lists are right but for page r, if they were right before
  pub open_pages-changed : (wires : ℕ) (lists : List (BTreeSet ℕ)) → ((c : ℕ) → c ≢ p.class → is_open wires old c r ≡ false)
      → ((c q : ℕ) → c < list_count → is_listed lists c q ≡ is_open wires old c q)
      → (c q : ℕ) → c < list_count → (eqb c (class_at new r) && eqb q r) ≡ false → is_listed lists c q ≡ is_open wires new c q
  open_pages-changed wires lists same listed c q below other = ⊎_elim here there (cases_eq q r) where
    there : q ≢ r → is_listed lists c q ≡ is_open wires new c q
    there ne = listed c q below ∙ sym (is_open-other wires c q ne)

    here : q ≡ r → is_listed lists c q ≡ is_open wires new c q
    here e =
        let ne : c ≢ p.class = λ is. true_is_false (sym (and_both (eq-eqb c (class_at new r) (is ∙ sym class_at-changed)) (eq-eqb q r e)) ∙ other) in
        let closed : is_open_page wires c p ≡ false = and_left _ _ (ne_eqb p.class c (λ is. ne (sym is))) in
        rw e (listed c r below ∙ same c ne ∙ sym (is_open-changed wires c ∙ closed))

-- page r is listed where it is open, and nothing else changed
module _ (wires : ℕ) (pages : List Page) (lists : List (BTreeSet ℕ)) (r : ℕ) (p : Page) (s n : BTreeSet ℕ) (is : slice_get pages r ≡ Some p) (count : length lists ≡ list_count) (below : p.class < list_count) (was : slice_get lists p.class ≡ Some s)
    (but : (c q : ℕ) → c < list_count → (eqb c (class_at pages r) && eqb q r) ≡ false → is_listed lists c q ≡ is_open wires pages c q)
    (at_r : contains nat_cmp n r ≡ (is_used p && has_room wires p)) (others : (q : ℕ) → q ≢ r → contains nat_cmp n q ≡ contains nat_cmp s q) where
  pub open_pages-relisted : (c q : ℕ) → c < list_count → is_listed (set lists p.class n) c q ≡ is_open wires pages c q
  open_pages-relisted c q fits = ⊎_elim same_class other_class (cases_eq c p.class) where
    listed : (x : ℕ) → is_listed (set lists p.class n) p.class x ≡ contains nat_cmp n x
    listed x = ap (λ o. option_map_or (λ (t : BTreeSet ℕ). contains nat_cmp t x) o false) (slice_get-set_same lists p.class n (omega arith))

    listed_before : (x : ℕ) → is_listed lists p.class x ≡ contains nat_cmp s x
    listed_before x = ap (λ o. option_map_or (λ (t : BTreeSet ℕ). contains nat_cmp t x) o false) was

    opened : is_open wires pages p.class r ≡ (is_used p && has_room wires p)
    opened = ap (λ o. option_map_or (is_open_page wires p.class) o false) is ∙ ap (λ b. b && (is_used p && has_room wires p)) (eq-eqb p.class p.class refl)

    same_class : c ≡ p.class → is_listed (set lists p.class n) c q ≡ is_open wires pages c q
    same_class e = rw e (⊎_elim (λ same. rw same (listed r ∙ at_r ∙ sym opened)) (λ ne. listed q ∙ others q ne ∙ sym (listed_before q) ∙ but p.class q below (and_right _ _ (ne_eqb q r ne))) (cases_eq q r))

    other_class : c ≢ p.class → is_listed (set lists p.class n) c q ≡ is_open wires pages c q
    other_class ne =
        let kept = ap (λ o. option_map_or (λ (t : BTreeSet ℕ). contains nat_cmp t q) o false) (slice_get-set_other lists p.class c n ne) in
        let class = ap (λ o. option_map_or (λ (x : Page). x.class) o 0) is in
        kept ∙ but c q fits (and_left _ _ (ne_eqb c (class_at pages r) (λ e. ne (e ∙ class))))

-- a number that differs from another isn't found by it
pub other_numbers : (r q : ℕ) → q ≢ r → is_at (nat_cmp r) q ≡ false
other_numbers r q ne = grind (arith, common_steps)
