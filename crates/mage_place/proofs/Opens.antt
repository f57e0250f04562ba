-- A page has a place that is taken, and one that is free, where its numbers say so.
use Rattle.std.proofs.Common.{◌≡◌, ◌≢◌, ◌<◌, ◌≤◌, ◌/◌, ◌++◌, ◌∷◌, [], ◌⊎◌, ◌&&◌, not, zero, suc, ℕ, List, Bool, true, false, eqb, ltb, inl, inr, length, get_or, refl, sym, ap, ◌∙◌, arith, ⊎_elim}
use Rattle.std.specs.List.{list_any}
use Rattle.std.specs.Ordering.{nat_cmp}
use Rattle.std.specs.BTreeMap.{is_at}
use Rattle.std.specs.BTreeSet.{BTreeSet, contains, btree_set_len, IsOrdered}
use Rattle.std.proofs.lemmas.Bool.{cases_eq, cases_lt, cases_Bool, eq-eqb, ne_eqb, eqb-true, lt-ltb, le-ltb, ltb-true, and_parts, or_cases, or_left, or_right, and_left, and_right, not-true, not-false, false≢true}
use Rattle.std.proofs.lemmas.Cmp.{nat_eq_equiv}
use Rattle.std.proofs.lemmas.Grind.{common_steps}
use Rattle.std.proofs.lemmas.List.{length_push}
use Rattle.std.proofs.lemmas.List.Folds.{list_any-append}
use Rattle.std.proofs.lemmas.Map.Keys.{IsDistinct-from_apart, IsDistinct-push, below_from_sorted, any_passes_from_place}
use Rattle.std.proofs.lemmas.Map.Steps.{length-le_from_distinct_below, le-length_from_below}
use Rattle.std.proofs.lemmas.Option.{slice_get-get_or}
use Rattle.mage_place.specs.declared.page.Page.{Page}
use Rattle.mage_place.specs.Pages.{IsPage, is_taken_on, is_used, has_room}
use Rattle.mage_place.proofs.Changed.{other_numbers}

own_number : (q : ℕ) → is_at (nat_cmp q) q ≡ true
own_number q = grind (arith, common_steps)

at_eqb : (q k : ℕ) → is_at (nat_cmp q) k ≡ eqb q k
at_eqb q k = ⊎_elim same other (cases_eq q k) where
  same : q ≡ k → is_at (nat_cmp q) k ≡ eqb q k
  same e = rw (← e) (own_number q ∙ sym (eq-eqb q q refl))

  other : q ≢ k → is_at (nat_cmp q) k ≡ eqb q k
  other ne = other_numbers q k (λ e. ne (sym e)) ∙ sym (ne_eqb q k ne)

any_same : (f g : ℕ → Bool) (xs : List ℕ) → ((x : ℕ) → f x ≡ g x) → list_any f xs ≡ list_any g xs
any_same f g [] h = refl
any_same f g (x ∷ xs) h = rw (h x, any_same f g xs h) refl

-- a set has a number where a test by `==` finds it among its keys
contains_eqb : (s : BTreeSet ℕ) (q : ℕ) → contains nat_cmp s q ≡ list_any (eqb q) s.keys
contains_eqb s q = any_same (is_at (nat_cmp q)) (eqb q) s.keys (at_eqb q)

seek : (f : ℕ → Bool) (n : ℕ) → ((k : ℕ) × (k < n) × (f k ≡ false)) ⊎ ((k : ℕ) → k < n → f k ≡ true)
seek f zero = inr (λ k h. absurd (omega arith))
seek f (suc n) = ⊎_elim (λ w. inl (w.0, omega (arith, w.1), w.2)) (λ all. ⊎_elim (λ holds. inr (more all holds)) (λ fails. inl (n, omega arith, fails)) (cases_Bool (f n))) (seek f n) where
  more : ((k : ℕ) → k < n → f k ≡ true) → f n ≡ true → (k : ℕ) → k < suc n → f k ≡ true
  more all holds k h = ⊎_elim (λ e. rw e holds) (λ ne. all k (omega arith)) (cases_eq k n)

-- a set with fewer than n numbers lacks one of those below n
missing : (s : BTreeSet ℕ) (n : ℕ) → btree_set_len s < n → (k : ℕ) × (k < n) × (contains nat_cmp s k ≡ false)
missing s n h = ⊎_elim (λ w. w) (λ all. let many : n ≤ length s.keys = le-length_from_below s.keys n (λ q l. sym (contains_eqb s q) ∙ all q l) in absurd (omega arith)) (seek (contains nat_cmp s) n)

-- a set of numbers below n that lacks one of them has fewer than n
fewer : (s : BTreeSet ℕ) (n k : ℕ) → IsOrdered nat_cmp s → ((q : ℕ) → contains nat_cmp s q ≡ true → q < n) → k < n → contains nat_cmp s k ≡ false → btree_set_len s < n
fewer s n k ordered below h lacks =
    let apart = IsDistinct-from_apart eqb s.keys (λ i j d l m. ne_eqb (get_or s.keys i d) (get_or s.keys j d) (λ e. let lt = below_from_sorted s.keys i j d ordered l m in omega arith)) in
    let with_k = IsDistinct-push nat_eq_equiv s.keys k apart (sym (contains_eqb s k) ∙ lacks) in
    let count : length (s.keys ++ k ∷ []) ≤ n = length-le_from_distinct_below (s.keys ++ k ∷ []) n with_k each in
    omega (arith, length_push s.keys k) where
      each : (q : ℕ) → list_any (eqb q) (s.keys ++ k ∷ []) ≡ true → q < n
      each q found = ⊎_elim (λ old. below q (contains_eqb s q ∙ old)) (λ new. ⊎_elim (λ e. let is = eqb-true q k e in omega arith) (λ no. absurd (false≢true no)) (or_cases (eqb q k) false new))
          (or_cases (list_any (eqb q) s.keys) (list_any (eqb q) (k ∷ [])) (sym (list_any-append (eqb q) s.keys (k ∷ [])) ∙ found))

pub taken-from_used : (p : Page) → is_used p ≡ true → (k : ℕ) × (is_taken_on p k ≡ true)
taken-from_used p h =
    let k = missing p.freed p.next (ltb-true (btree_set_len p.freed) p.next h) in
    (k.0, rw (lt-ltb k.0 p.next k.1, k.2) refl)

pub used-from_taken : (wires : ℕ) (p : Page) (k : ℕ) → IsPage wires p → is_taken_on p k ≡ true → is_used p ≡ true
used-from_taken wires p k ok h =
    let both = and_parts (ltb k p.next) (not (contains nat_cmp p.freed k)) h in
    lt-ltb (btree_set_len p.freed) p.next (fewer p.freed p.next k ok.ordered ok.freed (ltb-true k p.next both.0) (not-true (contains nat_cmp p.freed k) both.1))

pub free-from_room : (wires : ℕ) (p : Page) → IsPage wires p → has_room wires p ≡ true → (k : ℕ) × (k < wires / p.class) × (is_taken_on p k ≡ false)
free-from_room wires p ok h = ⊎_elim freed fresh (or_cases (ltb 0 (btree_set_len p.freed)) (ltb p.next (wires / p.class)) h) where
  fresh : ltb p.next (wires / p.class) ≡ true → (k : ℕ) × (k < wires / p.class) × (is_taken_on p k ≡ false)
  fresh l = (p.next, ltb-true p.next (wires / p.class) l, and_left (ltb p.next p.next) (not (contains nat_cmp p.freed p.next)) (le-ltb p.next p.next (omega arith)))

  freed : ltb 0 (btree_set_len p.freed) ≡ true → (k : ℕ) × (k < wires / p.class) × (is_taken_on p k ≡ false)
  freed l =
      let k = get_or p.freed.keys 0 0 in
      let has : contains nat_cmp p.freed k ≡ true = any_passes_from_place (is_at (nat_cmp k)) p.freed.keys 0 k (slice_get-get_or p.freed.keys 0 0 (ltb-true 0 (length p.freed.keys) l)) (own_number k) in
      (k, omega (arith, ok.freed k has, ok.within), and_right (ltb k p.next) (not (contains nat_cmp p.freed k)) (ap not has))

pub room-from_free : (wires : ℕ) (p : Page) (k : ℕ) → k < wires / p.class → is_taken_on p k ≡ false → has_room wires p ≡ true
room-from_free wires p k h free = ⊎_elim (λ l. or_right (ltb 0 (btree_set_len p.freed)) (ltb p.next (wires / p.class)) (lt-ltb p.next (wires / p.class) l)) full (cases_lt p.next (wires / p.class)) where
  some : contains nat_cmp p.freed k ≡ true → 0 < btree_set_len p.freed
  some has = ⊎_elim (λ l. l) (λ none. absurd (false≢true (sym (empty p.freed.keys none) ∙ has))) (cases_lt 0 (length p.freed.keys)) where
    empty : (ks : List ℕ) → length ks ≤ 0 → list_any (is_at (nat_cmp k)) ks ≡ false
    empty [] l = refl
    empty (x ∷ xs) l = absurd (omega arith)

  full : wires / p.class ≤ p.next → has_room wires p ≡ true
  full l =
      let below : ltb k p.next ≡ true = lt-ltb k p.next (omega arith) in
      let has : contains nat_cmp p.freed k ≡ true = not-false (contains nat_cmp p.freed k) (sym (ap (λ b. b && not (contains nat_cmp p.freed k)) below) ∙ free) in
      or_left (ltb 0 (btree_set_len p.freed)) (ltb p.next (wires / p.class)) (lt-ltb 0 (btree_set_len p.freed) (some has))
