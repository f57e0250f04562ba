-- The places that are taken are those of the live values.
use Rattle.std.proofs.Common.{◌≡◌, ◌<◌, ◌*◌, ◌⊎◌, ◌&&◌, not, ℕ, List, true, false, eqb, inl, inr, length, slice_index, Contains, refl, sym, ap, ◌∙◌, ⊎_elim, subst}
use Rattle.std.specs.List.{list_any}
use Rattle.std.proofs.lemmas.Bool.{eq-eqb, eqb-true, and_parts, and_from, or_cases, or_left, or_right, not-true, false≢true, false_from_ne_true}
use Rattle.std.proofs.Math.Nat.{eq_of_mul-eq-mul_right}
use Rattle.mage_instr.specs.declared.instr.Place.{Place}
use Rattle.mage_place.specs.declared.page.Page.{Page}
use Rattle.mage_place.specs.Places.{place_of}
use Rattle.mage_place.specs.Pools.{is_taken, class_at, is_place, ends_at, TakesPlace, FreesEnded}

-- Each place that is taken has its value among those for which P holds, each such value has its place, and no two have one.
pub record Held (places : List Place) (pages : List Page) (P : ℕ → Type 0) : Type 0 where
  pub back : (q j : ℕ) → is_taken pages q j ≡ true → (v : ℕ) × P v × ((place_of places v).page ≡ q) × ((place_of places v).offset ≡ j * class_at pages q)
  pub forth : (v : ℕ) → P v → (j : ℕ) × ((place_of places v).offset ≡ j * class_at pages (place_of places v).page) × (is_taken pages (place_of places v).page j ≡ true)
  pub apart : (v w : ℕ) → P v → P w → (place_of places v).page ≡ (place_of places w).page → (place_of places v).offset ≡ (place_of places w).offset → v ≡ w

pub Held-same : (places places' : List Place) (pages : List Page) (P : ℕ → Type 0) → ((v : ℕ) → P v → place_of places' v ≡ place_of places v) → Held places pages P → Held places' pages P
Held-same places places' pages P same held = record {
  back = λ q j h. let w = held.back q j h in (w.0, w.1, rw (same w.0 w.1) w.2, rw (same w.0 w.1) w.3);
  forth = λ v p. rw (same v p) (held.forth v p);
  apart = λ v w p r page offset. held.apart v w p r (ap (λ x. x.page) (sym (same v p)) ∙ page ∙ ap (λ x. x.page) (same w r)) (ap (λ x. x.offset) (sym (same v p)) ∙ offset ∙ ap (λ x. x.offset) (same w r));
}

pub Held-iff : (places : List Place) (pages : List Page) (P Q : ℕ → Type 0) → ((v : ℕ) → P v → Q v) → ((v : ℕ) → Q v → P v) → Held places pages P → Held places pages Q
Held-iff places pages P Q to from held = record {
  back = λ q j h. let w = held.back q j h in (w.0, to w.0 w.1, w.2, w.3);
  forth = λ v p. held.forth v (from v p);
  apart = λ v w p r. held.apart v w (from v p) (from w r);
}

-- a value more, which gets a place that was free
module _ (places : List Place) (pages new : List Page) (P : ℕ → Type 0) (n : ℕ) (place : Place) (at_n : place_of places n ≡ place) (held : Held places pages P) (on : (v : ℕ) → P v → (place_of places v).page < length pages)
    (wires c k : ℕ) (pos : 0 < c) (takes : TakesPlace pages new wires c place.page k) (offset : place.offset ≡ k * c) (fresh : is_taken pages place.page k ≡ false) where
  taken_new : is_taken new place.page k ≡ true
  taken_new = takes.taken_places place.page k ∙ or_right (is_taken pages place.page k) (eqb place.page place.page && eqb k k) (and_from (eqb place.page place.page) (eqb k k) (eq-eqb place.page place.page refl) (eq-eqb k k refl))

  -- no value held the place before
  other : (v : ℕ) → P v → (place_of places v).page ≡ place.page → (place_of places v).offset ≡ place.offset → ⊥
  other v p page at =
      let w = held.forth v p in
      let class : class_at pages place.page ≡ c = sym (takes.classes place.page (subst (λ x. x < length pages) page (on v p))) ∙ takes.class_of_page in
      let there : (place_of places v).offset ≡ w.0 * c = w.1 ∙ ap (λ x. w.0 * class_at pages x) page ∙ ap (λ x. w.0 * x) class in
      let same : w.0 ≡ k = eq_of_mul-eq-mul_right c pos w.0 k (sym there ∙ at ∙ offset) in
      let full : is_taken pages place.page k ≡ true = rw (← page, ← same) w.2 in
      false≢true (sym fresh ∙ full)

  held_back : (q j : ℕ) → is_taken new q j ≡ true → (v : ℕ) × (P v ⊎ (v ≡ n)) × ((place_of places v).page ≡ q) × ((place_of places v).offset ≡ j * class_at new q)
  held_back q j h = ⊎_elim old now (or_cases (is_taken pages q j) (eqb q place.page && eqb j k) (sym (takes.taken_places q j) ∙ h)) where
    old : is_taken pages q j ≡ true → (v : ℕ) × (P v ⊎ (v ≡ n)) × ((place_of places v).page ≡ q) × ((place_of places v).offset ≡ j * class_at new q)
    old was =
        let w = held.back q j was in
        let within : q < length pages = subst (λ x. x < length pages) w.2 (on w.0 w.1) in
        (w.0, inl w.1, w.2, w.3 ∙ ap (λ x. j * x) (sym (takes.classes q within)))

    now : (eqb q place.page && eqb j k) ≡ true → (v : ℕ) × (P v ⊎ (v ≡ n)) × ((place_of places v).page ≡ q) × ((place_of places v).offset ≡ j * class_at new q)
    now both =
        let parts = and_parts (eqb q place.page) (eqb j k) both in
        let page : q ≡ place.page = eqb-true q place.page parts.0 in let number : j ≡ k = eqb-true j k parts.1 in
        let class : class_at new q ≡ c = rw page takes.class_of_page in
        (n, inr refl, rw at_n (sym page), rw (at_n, class, number) offset)

  held_forth : (v : ℕ) → (P v ⊎ (v ≡ n)) → (j : ℕ) × ((place_of places v).offset ≡ j * class_at new (place_of places v).page) × (is_taken new (place_of places v).page j ≡ true)
  held_forth v h = ⊎_elim old now h where
    old : P v → (j : ℕ) × ((place_of places v).offset ≡ j * class_at new (place_of places v).page) × (is_taken new (place_of places v).page j ≡ true)
    old p =
        let w = held.forth v p in let q = (place_of places v).page in
        (w.0, w.1 ∙ ap (λ x. w.0 * x) (sym (takes.classes q (on v p))), takes.taken_places q w.0 ∙ or_left (is_taken pages q w.0) (eqb q place.page && eqb w.0 k) w.2)

    now : v ≡ n → (j : ℕ) × ((place_of places v).offset ≡ j * class_at new (place_of places v).page) × (is_taken new (place_of places v).page j ≡ true)
    now e = rw (e, at_n) (k, offset ∙ ap (λ x. k * x) (sym takes.class_of_page), taken_new)

  held_apart : (v w : ℕ) → (P v ⊎ (v ≡ n)) → (P w ⊎ (w ≡ n)) → (place_of places v).page ≡ (place_of places w).page → (place_of places v).offset ≡ (place_of places w).offset → v ≡ w
  held_apart v w (inl p) (inl r) page at = held.apart v w p r page at
  held_apart v w (inl p) (inr e) page at = absurd (other v p (page ∙ ap (λ x. x.page) (here w e)) (at ∙ ap (λ x. x.offset) (here w e))) where
    here : (x : ℕ) → x ≡ n → place_of places x ≡ place
    here x is = ap (place_of places) is ∙ at_n
  held_apart v w (inr d) (inl r) page at = absurd (other w r (sym page ∙ ap (λ x. x.page) (here v d)) (sym at ∙ ap (λ x. x.offset) (here v d))) where
    here : (x : ℕ) → x ≡ n → place_of places x ≡ place
    here x is = ap (place_of places) is ∙ at_n
  held_apart v w (inr d) (inr e) page at = d ∙ sym e

  pub Held-given : Held places new (λ v. P v ⊎ (v ≡ n))
  Held-given = record { back = held_back; forth = held_forth; apart = held_apart }

-- values that end give their places back
module _ (places : List Place) (pages new : List Page) (P : ℕ → Type 0) (held : Held places pages P) (last : List ℕ) (t : ℕ) (values : List ℕ) (frees : FreesEnded pages new places last t values)
    (known : (v : ℕ) → Contains values v → slice_index last v ≡ t → P v)
    (finds : (q j v : ℕ) → Contains values v → ends_at pages places last t q j v ≡ true → list_any (ends_at pages places last t q j) values ≡ true)
    (found : (q j : ℕ) → list_any (ends_at pages places last t q j) values ≡ true → (v : ℕ) × Contains values v × (ends_at pages places last t q j v ≡ true)) where
  -- a value that stays
  abbrev Stays : ℕ → Type 0
  Stays v = P v × ¬ (Contains values v × (slice_index last v ≡ t))

  pub Held-freed : Held places new Stays
  Held-freed = record {
    back = λ q j h.
        let parts = and_parts (is_taken pages q j) (not (list_any (ends_at pages places last t q j) values)) (sym (frees.taken_places q j) ∙ h) in
        let w = held.back q j parts.0 in
        let none = not-true (list_any (ends_at pages places last t q j) values) parts.1 in
        let here : is_place pages (place_of places w.0) q j ≡ true = and_from _ _ (eq-eqb (place_of places w.0).page q w.2) (eq-eqb (place_of places w.0).offset (j * class_at pages q) w.3) in
        (w.0, (w.1, λ ends. false≢true (sym none ∙ finds q j w.0 ends.0 (and_from _ _ (eq-eqb (slice_index last w.0) t ends.1) here))), w.2, w.3 ∙ ap (λ x. j * x) (sym (frees.classes q)));
    forth = λ v stays.
        let q = (place_of places v).page in let w = held.forth v stays.0 in
        let none : list_any (ends_at pages places last t q w.0) values ≡ false = false_from_ne_true _ (λ some. taken_by_other v q w.0 stays refl w.1 (found q w.0 some)) in
        (w.0, w.1 ∙ ap (λ x. w.0 * x) (sym (frees.classes q)), frees.taken_places q w.0 ∙ and_from (is_taken pages q w.0) (not (list_any (ends_at pages places last t q w.0) values)) w.2 (ap not none));
    apart = λ v w p r. held.apart v w p.0 r.0;
  } where
    taken_by_other : (v q j : ℕ) → Stays v → (place_of places v).page ≡ q → (place_of places v).offset ≡ j * class_at pages q → (w : ℕ) × Contains values w × (ends_at pages places last t q j w ≡ true) → ⊥
    taken_by_other v q j stays page offset w =
        let parts = and_parts (eqb (slice_index last w.0) t) (is_place pages (place_of places w.0) q j) w.2 in
        let there = and_parts (eqb (place_of places w.0).page q) (eqb (place_of places w.0).offset (j * class_at pages q)) parts.1 in
        let ends = eqb-true (slice_index last w.0) t parts.0 in
        let same : w.0 ≡ v = held.apart w.0 v (known w.0 w.1 ends) stays.0 (eqb-true (place_of places w.0).page q there.0 ∙ sym page) (eqb-true (place_of places w.0).offset (j * class_at pages q) there.1 ∙ sym offset) in
        stays.1 (subst (Contains values) same w.1, sym (ap (slice_index last) same) ∙ ends)
