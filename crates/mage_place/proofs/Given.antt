-- Taking and freeing a place, by what changed on its page.
use Rattle.std.proofs.Common.{◌≡◌, ◌≢◌, ◌<◌, ◌≤◌, ◌+◌, ◌*◌, ◌/◌, ◌&&◌, ◌||◌, not, ℕ, List, Bool, true, false, eqb, ltb, Some, length, slice_get, refl, sym, ap, ◌∙◌, arith, ⊎_elim, subst}
use Rattle.std.specs.Option.{option_map_or}
use Rattle.std.specs.Ordering.{nat_cmp}
use Rattle.std.specs.BTreeSet.{BTreeSet, IsEmpty, IsOrdered}
use Rattle.std.specs.List.{list_any}
use Rattle.std.specs.BTreeMap.{is_at}
use Rattle.std.proofs.lemmas.Bool.{cases_eq, cases_lt, le-ltb, eq-eqb, ne_eqb, and_left, eqb-true, false≢true, and_parts}
use Rattle.std.proofs.lemmas.Nat.{le-div}
use Rattle.std.proofs.lemmas.Option.{slice_get_past}
use Rattle.std.proofs.Math.Nat.{div-mul-le_self, mul-div_cancel, mul-le-mul_right}
use Rattle.mage_instr.specs.declared.instr.Place.{Place}
use Rattle.mage_instr.specs.Opcodes.{greatest_width}
use Rattle.mage_place.specs.declared.page.Page.{Page}
use Rattle.mage_place.specs.Pages.{IsPage, is_taken_on, is_used, has_room}
use Rattle.mage_place.specs.Pools.{is_taken, class_at, is_open_page, is_open, TakesPlace, Frees}
use Rattle.mage_place.proofs.Changed.{Changed, class_at-changed, class_at-other, is_taken-changed, is_taken-other}

-- a page that was just made, with its place 0 taken
pub IsPage-fresh : (wires class : ℕ) (s : BTreeSet ℕ) → 1 ≤ class → class ≤ greatest_width → class ≤ wires → IsEmpty s → IsOrdered nat_cmp s → IsPage wires (record { class = class; next = 1; freed = s })
IsPage-fresh wires class s above below wide empty ordered = record {
  ordered = ordered;
  class_above = above;
  class_below = below;
  within = le-div 1 wires class above (omega arith);
  freed = λ k h. absurd (false≢true (sym (ap (list_any (is_at (nat_cmp k))) empty) ∙ h));
}

pub is_taken_on-fresh : (class : ℕ) (s : BTreeSet ℕ) (j : ℕ) → IsEmpty s → is_taken_on (record { class = class; next = 1; freed = s }) j ≡ eqb j 0
is_taken_on-fresh class s j empty = ap (λ ks. ltb j 1 && not (list_any (is_at (nat_cmp j)) ks)) empty ∙ ⊎_elim at_0 past (cases_eq j 0) where
  at_0 : j ≡ 0 → (ltb j 1 && true) ≡ eqb j 0
  at_0 e = rw e refl

  past : j ≢ 0 → (ltb j 1 && true) ≡ eqb j 0
  past ne = and_left (ltb j 1) true (le-ltb j 1 (omega arith)) ∙ sym (ne_eqb j 0 ne)

-- past the last page no place is taken, and no page is open
pub is_taken-past : (pages : List Page) (q j : ℕ) → length pages ≤ q → is_taken pages q j ≡ false
is_taken-past pages q j h = ap (λ o. option_map_or (λ x. is_taken_on x j) o false) (slice_get_past pages q h)

pub is_open-past : (wires : ℕ) (pages : List Page) (c q : ℕ) → length pages ≤ q → is_open wires pages c q ≡ false
is_open-past wires pages c q h = ap (λ o. option_map_or (is_open_page wires c) o false) (slice_get_past pages q h)

pub is_open-within : (wires : ℕ) (pages : List Page) (c q : ℕ) → is_open wires pages c q ≡ true → q < length pages
is_open-within wires pages c q h = ⊎_elim (λ l. l) (λ l. absurd (false≢true (sym (is_open-past wires pages c q l) ∙ h))) (cases_lt q (length pages))

-- what is known of a page at its index
pub is_taken-at : (pages : List Page) (q j : ℕ) (p : Page) → slice_get pages q ≡ Some p → is_taken pages q j ≡ is_taken_on p j
is_taken-at pages q j p is = ap (λ o. option_map_or (λ x. is_taken_on x j) o false) is

pub class_at-at : (pages : List Page) (q : ℕ) (p : Page) → slice_get pages q ≡ Some p → class_at pages q ≡ p.class
class_at-at pages q p is = ap (λ o. option_map_or (λ (x : Page). x.class) o 0) is

pub is_open-at : (wires : ℕ) (pages : List Page) (c q : ℕ) (p : Page) → slice_get pages q ≡ Some p → is_open wires pages c q ≡ is_open_page wires c p
is_open-at wires pages c q p is = ap (λ o. option_map_or (is_open_page wires c) o false) is

-- an open page has its class
pub class-of_open : (wires : ℕ) (pages : List Page) (c q : ℕ) (p : Page) → slice_get pages q ≡ Some p → is_open wires pages c q ≡ true → p.class ≡ c
class-of_open wires pages c q p is h = eqb-true p.class c (and_parts (eqb p.class c) (is_used p && has_room wires p) (sym (is_open-at wires pages c q p is) ∙ h)).0

-- a page isn't open for another class
pub closed-by_class : (wires : ℕ) (pages : List Page) (c q : ℕ) (p : Page) → slice_get pages q ≡ Some p → c ≢ p.class → is_open wires pages c q ≡ false
closed-by_class wires pages c q p is ne = is_open-at wires pages c q p is ∙ and_left _ _ (ne_eqb p.class c (λ e. ne (sym e)))

-- place k of a page of the class c ends within the page
pub place_below : (wires c k : ℕ) → k < wires / c → k * c + c ≤ wires
place_below wires c k h = let more : (k + 1) * c ≤ wires / c * c = mul-le-mul_right c (omega arith) in omega (arith, div-mul-le_self wires c, more)

-- two places of a page begin at one wire only if they are one
pub same_place : (c j k offset : ℕ) → 0 < c → offset ≡ k * c → eqb j k ≡ eqb offset (j * c)
same_place c j k offset pos e = ⊎_elim (λ is. eq-eqb j k is ∙ sym (eq-eqb offset (j * c) (e ∙ ap (λ x. x * c) (sym is)))) (λ ne. ne_eqb j k ne ∙ sym (ne_eqb offset (j * c) (λ is. ne (one (sym is ∙ e))))) (cases_eq j k) where
  one : j * c ≡ k * c → j ≡ k
  one is = sym (mul-div_cancel j pos) ∙ ap (λ x. x / c) is ∙ mul-div_cancel k pos

or_none : (b : Bool) → b ≡ (b || false)
or_none true = refl
or_none false = refl

and_all : (b : Bool) → b ≡ (b && true)
and_all true = refl
and_all false = refl

module _ (old new : List Page) (r : ℕ) (p : Page) (changed : Changed old new r p) where
  pub TakesPlace-changed : (wires c k : ℕ) → k < wires / c → p.class ≡ c → (r < length old → class_at old r ≡ c) → ((j : ℕ) → is_taken_on p j ≡ (is_taken old r j || eqb j k)) → TakesPlace old new wires c r k
  TakesPlace-changed wires c k within class was takes = record {
    within = within;
    class_of_page = class_at-changed old new r p changed ∙ class;
    classes = λ q h. ⊎_elim (λ e. rw e (class_at-changed old new r p changed ∙ class ∙ sym (was (subst (λ x. x < length old) e h)))) (class_at-other old new r p changed q) (cases_eq q r);
    taken_places = λ q j. ⊎_elim (here q j) (there q j) (cases_eq q r);
  } where
    here : (q j : ℕ) → q ≡ r → is_taken new q j ≡ (is_taken old q j || (eqb q r && eqb j k))
    here q j e = rw (eq-eqb q r e, e) (is_taken-changed old new r p changed j ∙ takes j)

    there : (q j : ℕ) → q ≢ r → is_taken new q j ≡ (is_taken old q j || (eqb q r && eqb j k))
    there q j ne = rw (ne_eqb q r ne) (is_taken-other old new r p changed q j ne ∙ or_none (is_taken old q j))

  pub Frees-changed : (place : Place) (k : ℕ) → place.page ≡ r → length new ≡ length old → p.class ≡ class_at old r → 0 < p.class → place.offset ≡ k * p.class → ((j : ℕ) → is_taken_on p j ≡ (is_taken old r j && not (eqb j k))) → Frees old new place
  Frees-changed place k at_r count class pos offset frees = record {
    count = count;
    classes = λ q. ⊎_elim (λ e. rw e (class_at-changed old new r p changed ∙ class)) (class_at-other old new r p changed q) (cases_eq q r);
    taken_places = λ q j. rw at_r (⊎_elim (here q j) (there q j) (cases_eq q r));
  } where
    here : (q j : ℕ) → q ≡ r → is_taken new q j ≡ (is_taken old q j && not (eqb r q && eqb place.offset (j * class_at old q)))
    here q j e = rw (eq-eqb r q (sym e), e, ← class) (is_taken-changed old new r p changed j ∙ frees j ∙ ap (λ b. is_taken old r j && not b) (same_place p.class j k place.offset pos offset))

    there : (q j : ℕ) → q ≢ r → is_taken new q j ≡ (is_taken old q j && not (eqb r q && eqb place.offset (j * class_at old q)))
    there q j ne = rw (ne_eqb r q (λ e. ne (sym e))) (is_taken-other old new r p changed q j ne ∙ and_all (is_taken old q j))
