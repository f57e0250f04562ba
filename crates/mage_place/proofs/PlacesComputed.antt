-- The places that the definition computes are those of the rule.
use Rattle.std.proofs.Common.{◌≡◌, ◌≢◌, ◌<◌, ◌≤◌, ◌+◌, ◌*◌, ◌-◌, ◌/◌, ◌++◌, ◌∷◌, ◌&&◌, [], zero, suc, ℕ, List, Bool, true, false, eqb, Option, None, Some, IsSomeAnd, inl, inr, length, take, drop, get_or, refl, sym, ap, ◌∙◌, arith, ⊎_elim, subst}
use Rattle.std.specs.List.{slice_get, list_any, fold}
use Rattle.std.specs.Option.{option_map_or, unwrap_or}
use Rattle.std.proofs.lemmas.Bool.{cases_eq, and_parts, and_from, eqb-true, eq-eqb, false≢true, not-true, not_from_false, false_from_ne_true, cond-true, cond-false}
use Rattle.std.proofs.lemmas.Cmp.{nat_eq_equiv}
use Rattle.std.proofs.lemmas.List.{get_or-drop, length-drop, length_push, take_all, take-append-le, get_or-take, get_or_push}
use Rattle.std.proofs.lemmas.List.Folds.{list_any_at}
use Rattle.std.proofs.lemmas.List.Sums.{fold_push}
use Rattle.std.proofs.lemmas.Map.Views.{Contains-from_any, list_any-from_Contains, exact_unsigned_eq}
use Rattle.std.proofs.lemmas.Option.{slice_get-get_or, slice_get_within, get_or_from_slice_get}
use Rattle.std.proofs.Math.Seq.{take-suc}
use Rattle.mage_instr.specs.declared.instr.Instr.{Instr}
use Rattle.mage_instr.specs.declared.instr.Place.{Place}
use Rattle.mage_instr.specs.Opcodes.{has_result}
use Rattle.mage_place.specs.Live.{args_of, class_of_result, IsLive}
use Rattle.mage_place.specs.Places.{place_of, next_page, nowhere, LivesOn, IsFree, IsOpen, IsFound, IsPlaceIn, IsPlaceOf, ArePlaces}
use Rattle.mage_place.specs.Placing.{below, has_class, is_live, lives_on, is_free, is_open, lowest_place, place_in, next_place, places_of}
use Rattle.mage_place.proofs.Below.{any_below, any_below-from, first_or_none, IsFirst, greatest_or_none, IsGreatest, IsNone}
use Rattle.mage_place.proofs.Members.{any_found}
use Rattle.mage_place.proofs.SoundFacts.{no_instr, Takes-at, args-from_Takes}
use Rattle.mage_place.proofs.Stepped.{IfSome-each}

HasClass-from_test : (o : Option Instr) (c : ℕ) → option_map_or (λ i. has_result i.op && eqb (class_of_result i) c) o false ≡ true → IsSomeAnd o (λ i. (has_result i.op ≡ true) × (class_of_result i ≡ c))
HasClass-from_test None c h = absurd (false≢true h)
HasClass-from_test (Some i) c h = let both = and_parts (has_result i.op) (eqb (class_of_result i) c) h in (both.0, eqb-true (class_of_result i) c both.1)

has_class-from : (o : Option Instr) (c : ℕ) → IsSomeAnd o (λ i. (has_result i.op ≡ true) × (class_of_result i ≡ c)) → option_map_or (λ i. has_result i.op && eqb (class_of_result i) c) o false ≡ true
has_class-from None c h = absurd h
has_class-from (Some i) c h = and_from (has_result i.op) (eqb (class_of_result i) c) h.0 (eq-eqb (class_of_result i) c h.1)

-- a value's page is below the next new page
pub page_below : (places : List Place) (v : ℕ) → v < length places → (place_of places v).page < next_page places
page_below [] v h = absurd (omega arith)
page_below (place ∷ places) zero h = omega arith
page_below (place ∷ places) (suc v) h = let rest = page_below places v (omega arith) in omega (arith, rest)

-- ---- each test says what its relation says
module _ (instrs : List Instr) (page : ℕ) (before : List Place) where
  IsLive-from_test : (v : ℕ) → v < length before → is_live instrs page before v ≡ true → IsLive instrs (length before) v
  IsLive-from_test v h test =
      let t = length before in
      let w = any_found (λ i. list_any (eqb v) (args_of i)) (drop t instrs) test in
      let inside : t + w.1.0 < length instrs = omega (arith, w.1.1, length-drop t instrs) in
      let is : get_or instrs (t + w.1.0) w.0 ≡ w.0 = sym (get_or-drop t instrs w.1.0 w.0) ∙ w.1.2 in
      let here : slice_get instrs (t + w.1.0) ≡ Some w.0 = slice_get-get_or instrs (t + w.1.0) w.0 inside ∙ ap Some is in
      (h, t + w.1.0, omega arith, Takes-at instrs (t + w.1.0) v w.0 here (Contains-from_any exact_unsigned_eq v (args_of w.0) w.2))

  is_live-from : (v : ℕ) → IsLive instrs (length before) v → is_live instrs page before v ≡ true
  is_live-from v live =
      let t = length before in
      let w = args-from_Takes instrs live.1 v live.3 in
      let inside = slice_get_within instrs live.1 w.0 w.1 in
      let one : t + (live.1 - t) ≡ live.1 = omega (arith, live.2) in
      let is : get_or (drop t instrs) (live.1 - t) no_instr ≡ w.0 = get_or-drop t instrs (live.1 - t) no_instr ∙ ap (λ s. get_or instrs s no_instr) one ∙ get_or_from_slice_get instrs live.1 w.0 no_instr w.1 in
      let found : list_any (eqb v) (args_of (get_or (drop t instrs) (live.1 - t) no_instr)) ≡ true = rw is (list_any-from_Contains nat_eq_equiv v (args_of w.0) w.2) in
      list_any_at (λ i. list_any (eqb v) (args_of i)) (drop t instrs) (live.1 - t) no_instr (omega (arith, inside, live.2, length-drop t instrs)) found

  LivesOn-from_test : (v q : ℕ) → v < length before → lives_on instrs page before q v ≡ true → LivesOn instrs page before v q
  LivesOn-from_test v q h test =
      let both = and_parts (is_live instrs page before v) (eqb (place_of before v).page q) test in
      (IsLive-from_test v h both.0, eqb-true (place_of before v).page q both.1)

  lives_on-from : (v q : ℕ) → LivesOn instrs page before v q → lives_on instrs page before q v ≡ true
  lives_on-from v q lives = and_from (is_live instrs page before v) (eqb (place_of before v).page q) (is_live-from v lives.0) (eq-eqb (place_of before v).page q lives.1)

  IsFree-from_test : (q c k : ℕ) → k < page / c → is_free instrs page before q c k ≡ true → IsFree instrs page before q c k
  IsFree-from_test q c k within test = (within, λ v lives at. false≢true (sym (not-true (list_any stands (below (length before))) test) ∙ any_below-from stands (length before) v lives.0.0 (and_from (lives_on instrs page before q v) (eqb (place_of before v).offset (k * c)) (lives_on-from v q lives) (eq-eqb (place_of before v).offset (k * c) at)))) where
    stands : ℕ → Bool
    stands v = lives_on instrs page before q v && eqb (place_of before v).offset (k * c)

  is_free-from : (q c k : ℕ) → IsFree instrs page before q c k → is_free instrs page before q c k ≡ true
  is_free-from q c k free = not_from_false (list_any stands (below (length before))) (false_from_ne_true (list_any stands (below (length before))) none) where
    stands : ℕ → Bool
    stands v = lives_on instrs page before q v && eqb (place_of before v).offset (k * c)

    none : list_any stands (below (length before)) ≡ true → ⊥
    none some =
        let w = any_below stands (length before) some in
        let both = and_parts (lives_on instrs page before q w.0) (eqb (place_of before w.0).offset (k * c)) w.2 in
        free.1 w.0 (LivesOn-from_test w.0 q w.1 both.0) (eqb-true (place_of before w.0).offset (k * c) both.1)

  IsOpen-from_test : (c q : ℕ) → is_open instrs page before c q ≡ true → IsOpen instrs page before q c
  IsOpen-from_test c q test =
      let both = and_parts (list_any (λ v. lives_on instrs page before q v && has_class instrs v c) (below (length before))) (list_any (is_free instrs page before q c) (below (page / c))) test in
      let v = any_below (λ v. lives_on instrs page before q v && has_class instrs v c) (length before) both.0 in
      let value = and_parts (lives_on instrs page before q v.0) (has_class instrs v.0 c) v.2 in
      let k = any_below (is_free instrs page before q c) (page / c) both.1 in
      ((v.0, LivesOn-from_test v.0 q v.1 value.0, HasClass-from_test (slice_get instrs v.0) c value.1), (k.0, IsFree-from_test q c k.0 k.1 k.2))

  is_open-from : (c q : ℕ) → IsOpen instrs page before q c → is_open instrs page before c q ≡ true
  is_open-from c q open_page =
      let v = open_page.0 in let k = open_page.1 in
      and_from (list_any (λ v. lives_on instrs page before q v && has_class instrs v c) (below (length before))) (list_any (is_free instrs page before q c) (below (page / c)))
      (any_below-from (λ v. lives_on instrs page before q v && has_class instrs v c) (length before) v.0 v.1.0.0 (and_from (lives_on instrs page before q v.0) (has_class instrs v.0 c) (lives_on-from v.0 q v.1) (has_class-from (slice_get instrs v.0) c v.2)))
      (any_below-from (is_free instrs page before q c) (page / c) k.0 k.1.0 (is_free-from q c k.0 k.1))

  -- an open page is below the next new page
  open_below : (c q : ℕ) → IsOpen instrs page before q c → q < next_page before
  open_below c q open_page = subst (λ r. r < next_page before) open_page.0.1.1 (page_below before open_page.0.0 open_page.0.1.0.0)

  -- ---- the place that is computed is the one of the rule
  abbrev new_page : Place
  new_page = record { page = next_page before; offset = 0 }

  found_in : (c q k : ℕ) → IsGreatest (is_open instrs page before c) (next_page before) q → IsFirst (is_free instrs page before q c) 0 (page / c) k → IsFound instrs page before q c k
  found_in c q k g f = record {
    open_page = IsOpen-from_test c q g.passes;
    highest = λ r h open_page. false≢true (sym (g.none_after r h (open_below c r open_page)) ∙ is_open-from c r open_page);
    free = IsFree-from_test q c k (omega (arith, f.within)) f.passes;
    lowest = λ j h free. false≢true (sym (f.none_before j (omega arith) h) ∙ is_free-from q c j free);
  }

  on_open : (c q : ℕ) → IsGreatest (is_open instrs page before c) (next_page before) q → IsPlaceIn instrs page before c (lowest_place instrs page before c q)
  on_open c q g = ⊎_elim at none (first_or_none (is_free instrs page before q c) 0 (page / c)) where
    at : (k : ℕ) × IsFirst (is_free instrs page before q c) 0 (page / c) k → IsPlaceIn instrs page before c (lowest_place instrs page before c q)
    at w = inl (w.0, found_in c q w.0 g w.1, ap (λ o. unwrap_or o 0 * c) w.1.found)

    none : ((j : ℕ) → 0 ≤ j → j < 0 + page / c → is_free instrs page before q c j ≡ false) → IsPlaceIn instrs page before c (lowest_place instrs page before c q)
    none full = let room = (IsOpen-from_test c q g.passes).1 in absurd (false≢true (sym (full room.0 (omega arith) (omega (arith, room.1.0))) ∙ is_free-from q c room.0 room.1))

  IsPlaceIn-computed : (c : ℕ) → IsPlaceIn instrs page before c (place_in instrs page before c)
  IsPlaceIn-computed c = ⊎_elim on new (greatest_or_none (is_open instrs page before c) (next_page before)) where
    on : (q : ℕ) × IsGreatest (is_open instrs page before c) (next_page before) q → IsPlaceIn instrs page before c (place_in instrs page before c)
    on w = subst (λ o. IsPlaceIn instrs page before c (option_map_or (lowest_place instrs page before c) o new_page)) (sym w.1.found) (on_open c w.0 w.1)

    new : IsNone (is_open instrs page before c) (next_page before) → IsPlaceIn instrs page before c (place_in instrs page before c)
    new w = subst (λ o. IsPlaceIn instrs page before c (option_map_or (lowest_place instrs page before c) o new_page)) (sym w.nothing) (inr (λ q open_page. false≢true (sym (w.none q (open_below c q open_page)) ∙ is_open-from c q open_page), refl, refl))

  IsPlaceOf-computed : (i : Instr) → IsPlaceOf instrs page before i (next_place instrs page before i)
  IsPlaceOf-computed i = record {
    with_result = λ h. subst (IsPlaceIn instrs page before (class_of_result i)) (sym (cond-true (has_result i.op) (place_in instrs page before (class_of_result i)) nowhere h)) (IsPlaceIn-computed (class_of_result i));
    without = λ h. cond-false (has_result i.op) (place_in instrs page before (class_of_result i)) nowhere h;
  }

-- ---- all places
module _ (instrs : List Instr) (page : ℕ) where
  -- the places of the first t instructions
  abbrev front : ℕ → List Place
  front t = fold (λ before i. before ++ next_place instrs page before i ∷ []) [] (take t instrs)

  front_more : (t : ℕ) → t < length instrs → front (suc t) ≡ front t ++ next_place instrs page (front t) (get_or instrs t no_instr) ∷ []
  front_more t h = ap (fold (λ before i. before ++ next_place instrs page before i ∷ []) []) (take-suc instrs t no_instr h) ∙ fold_push (λ before i. before ++ next_place instrs page before i ∷ []) [] (take t instrs) (get_or instrs t no_instr)

  front_count : (t : ℕ) → t ≤ length instrs → length (front t) ≡ t
  front_count zero h = refl
  front_count (suc t) h =
      let more = front_more t (omega arith) in
      let was = front_count t (omega arith) in
      omega (arith, ap length more, length_push (front t) (next_place instrs page (front t) (get_or instrs t no_instr)), was)

  front_of : (s t : ℕ) → s ≤ t → t ≤ length instrs → take s (front t) ≡ front s
  front_of s zero l h = let e : s ≡ 0 = omega arith in rw e refl
  front_of s (suc t) l h = ⊎_elim whole (part (λ below. front_of s t below (omega arith))) (cases_eq s (suc t)) where
    whole : s ≡ suc t → take s (front (suc t)) ≡ front s
    whole e = rw e (take_all (suc t) (front (suc t)) (omega (arith, front_count (suc t) h)))

    part : (s ≤ t → take s (front t) ≡ front s) → s ≢ suc t → take s (front (suc t)) ≡ front s
    part rest ne = ap (take s) (front_more t (omega arith)) ∙ take-append-le s (front t) (next_place instrs page (front t) (get_or instrs t no_instr) ∷ []) (omega (arith, front_count t (omega arith), ne)) ∙ rest (omega (arith, ne))

  places_front : places_of instrs page ≡ front (length instrs)
  unfolding places_of
  places_front = ap (fold (λ before i. before ++ next_place instrs page before i ∷ []) []) (sym (take_all (length instrs) instrs (omega arith)))

  pub length-places_of : length (places_of instrs page) ≡ length instrs
  length-places_of = ap length places_front ∙ front_count (length instrs) (omega arith)

  -- the place of each instruction comes from the places before it
  placed_at : (t : ℕ) → t < length instrs → place_of (front (length instrs)) t ≡ next_place instrs page (front t) (get_or instrs t no_instr)
  placed_at t h =
      let place = next_place instrs page (front t) (get_or instrs t no_instr) in
      sym (get_or-take (suc t) (front (length instrs)) t nowhere (omega arith))
      ∙ ap (λ xs. get_or xs t nowhere) (front_of (suc t) (length instrs) (omega arith) (omega arith) ∙ front_more t h)
      ∙ get_or_push (front t) place nowhere t (front_count t (omega arith))

  pub ArePlaces-computed : ArePlaces instrs page (places_of instrs page)
  ArePlaces-computed = record { count = length-places_of; each = λ t. IfSome-each (slice_get instrs t) _ (λ i is. at t i is) } where
    at : (t : ℕ) (i : Instr) → slice_get instrs t ≡ Some i → IsPlaceOf instrs page (take t (places_of instrs page)) i (place_of (places_of instrs page) t)
    at t i is =
        let fits = slice_get_within instrs t i is in
        let i_is = get_or_from_slice_get instrs t i no_instr is in
        let before : take t (places_of instrs page) ≡ front t = ap (take t) places_front ∙ front_of t (length instrs) (omega (arith, fits)) (omega arith) in
        let place : place_of (places_of instrs page) t ≡ next_place instrs page (front t) i = ap (λ places. place_of places t) places_front ∙ placed_at t fits ∙ ap (next_place instrs page (front t)) i_is in
        rw (before, place) (IsPlaceOf-computed instrs page (front t) i)
