-- Where values stand: each within its page, and none that is live in the wires of a new one.
use Rattle.std.proofs.Common.{◌≡◌, ◌≢◌, ◌<◌, ◌≤◌, ◌+◌, ◌*◌, ◌/◌, zero, suc, ℕ, true, false, cond, List, None, Some, inl, inr, length, take, leb, ltb, refl, sym, ap, ◌∙◌, arith, ⊎_elim, subst}
use Rattle.std.specs.Prelude.{slice_get}
use Rattle.std.proofs.Math.Nat.{div-mul-le_self, mul-le-mul_right}
use Rattle.std.proofs.lemmas.Bool.{cases_lt, cases_eq, le-leb, lt-leb, le-ltb, and_left, and_right}
use Rattle.std.proofs.lemmas.List.{get_or-take, length-take-le}
use Rattle.std.proofs.lemmas.Option.{slice_get_within}
use Rattle.mage_instr.specs.declared.instr.Instr.{Instr}
use Rattle.mage_instr.specs.declared.instr.Place.{Place}
use Rattle.mage_instr.specs.Opcodes.{has_result, width_of_result}
use Rattle.mage_instr.specs.Sound.{IsSound}
use Rattle.mage_place.specs.Classes.{class_of_width}
use Rattle.mage_place.specs.Live.{IsLive, HasClass, class_of_result}
use Rattle.mage_place.specs.Places.{nowhere, place_of, next_page, LivesOn, IsPlaceIn, IsPlaceOf, ArePlaces}
use Rattle.mage_place.specs.TooWide.{page_tight}
use Rattle.mage_place.proofs.PlacesComputed.{page_below}
use Rattle.mage_place.proofs.SoundFacts.{some_and, Defined, taken_below}
use Rattle.mage_carry.specs.Steps.{width_of, overlap}
use Rattle.mage_carry.proofs.Narrow.{result_narrow, width_ok_at}
use Rattle.mage_residency.proofs.Fitting.{fits_at}

chosen : (w m rest : ℕ) → (m < w → w ≤ rest) → w ≤ cond (leb w m) m rest
chosen w m rest h = ⊎_elim (λ l. rw (lt-leb w m l) (h l)) (λ l. rw (le-leb w m l) l) (cases_lt m w)

-- a class has at least as many wires as the width
pub covers : (w : ℕ) → w ≤ 128 → w ≤ class_of_width w
covers w h = chosen w 1 _ (λ a. chosen w 2 _ (λ b. chosen w 4 _ (λ c. chosen w 8 _ (λ d. chosen w 16 _ (λ e. chosen w 32 _ (λ f. chosen w 64 128 (λ g. h)))))))

-- a place ends where the next begins
next_place : (c j k : ℕ) → j < k → j * c + c ≤ k * c
next_place c j k less = let more : suc j * c ≤ k * c = mul-le-mul_right c less in omega (arith, more)

-- values of one class at different places of a page have no wire in common
pub apart_places : (c j k width other : ℕ) → j ≢ k → width ≤ c → other ≤ c → overlap (j * c) width (k * c) other ≡ false
apart_places c j k width other ne fits also = ⊎_elim before behind (cases_lt j k) where
  before : j < k → overlap (j * c) width (k * c) other ≡ false
  before less =
      let room = next_place c j k less in
      and_right (ltb (j * c) (k * c + other)) (ltb (k * c) (j * c + width)) (le-ltb (k * c) (j * c + width) (omega (arith, room, fits)))

  behind : k ≤ j → overlap (j * c) width (k * c) other ≡ false
  behind past =
      let room = next_place c k j (omega (arith, past, ne)) in
      and_left (ltb (j * c) (k * c + other)) (ltb (k * c) (j * c + width)) (le-ltb (j * c) (k * c + other) (omega (arith, room, also)))

-- where a class is no greater than a page, a place of a page ends in it
place_within : (page c k : ℕ) → k < page / c → k * c + c ≤ page
place_within page c k less =
    let all = div-mul-le_self page c in
    let room = next_place c k (page / c) less in
    omega (arith, all, room)

module _ (instrs : List Instr) (page : ℕ) (places : List Place) (sound : IsSound instrs) (fits : page_tight page instrs ≡ None) (are : ArePlaces instrs page places) where
  abbrev pub page_of : ℕ → ℕ
  page_of v = (place_of places v).page

  abbrev pub offset_of : ℕ → ℕ
  offset_of v = (place_of places v).offset

  placed : (t : ℕ) (i : Instr) → slice_get instrs t ≡ Some i → has_result i.op ≡ true → IsPlaceIn instrs page (take t places) (class_of_result i) (place_of places t)
  placed t i is has = let its : IsPlaceOf instrs page (take t places) i (place_of places t) = rw is at (are.each t) in its.with_result has

  within_places : (t : ℕ) (i : Instr) → slice_get instrs t ≡ Some i → t < length places
  within_places t i is = let l = slice_get_within instrs t i is in omega (arith, l, are.count)

  -- the places of those before
  front : (t v : ℕ) → v < t → place_of (take t places) v ≡ place_of places v
  front t v less = get_or-take t places v nowhere less

  -- those before stand on pages that were made
  made : (t v : ℕ) → t < length places → v < t → page_of v < next_page (take t places)
  made t v inside less =
      let long = length-take-le t places (omega (arith, inside)) in
      subst (λ (p : Place). p.page < next_page (take t places)) (front t v less) (page_below (take t places) v (omega (arith, long, less)))

  has_class : (v : ℕ) (i : Instr) → slice_get instrs v ≡ Some i → has_result i.op ≡ true → HasClass instrs v (class_of_result i)
  has_class v i is has = rw is (has, refl)

  one_class : (v c d : ℕ) → HasClass instrs v c → HasClass instrs v d → c ≡ d
  one_class v c d h k =
      let a = some_and (slice_get instrs v) _ h in
      let its = rw a.1 at k in
      sym a.2.1 ∙ its.1

  -- a value on the page of a later one has its class, where this holds of all before the later one
  later_class : (w : ℕ) → ((v u c d : ℕ) → v < w → u < w → HasClass instrs v c → HasClass instrs u d → page_of v ≡ page_of u → c ≡ d) → (v c d : ℕ) → v < w → HasClass instrs v c → HasClass instrs w d → page_of v ≡ page_of w → c ≡ d
  later_class w before v c d less one two same =
      let a = some_and (slice_get instrs w) _ two in
      let inside = within_places w a.0 a.1 in
      by_place inside (subst (λ x. IsPlaceIn instrs page (take w places) x (place_of places w)) a.2.1 (placed w a.0 a.1 a.2.0))
    where
      by_place : w < length places → IsPlaceIn instrs page (take w places) d (place_of places w) → c ≡ d
      by_place inside (inl found) =
          let other = found.1.open_page.0 in
          let long = length-take-le w places (omega (arith, inside)) in
          let lower : other.0 < w = omega (arith, other.1.0.0, long) in
          let there : page_of other.0 ≡ page_of w = ap (λ (p : Place). p.page) (sym (front w other.0 lower)) ∙ other.1.1 in
          before v other.0 c d less lower one other.2 (same ∙ sym there)
      by_place inside (inr new) =
          let old = made w v inside less in
          absurd (omega (arith, old, new.1, same))

  -- values on one page have one class
  pub same_class : (w v u c d : ℕ) → v < w → u < w → HasClass instrs v c → HasClass instrs u d → page_of v ≡ page_of u → c ≡ d
  same_class zero v u c d in_v in_u one two same = absurd (omega (arith, in_v))
  same_class (suc w) v u c d in_v in_u one two same =
      ⊎_elim (first (same_class w)) (λ nv. ⊎_elim (second (same_class w) nv) (third nv (same_class w v u c d)) (cases_eq u w)) (cases_eq v w)
    where
      first : ((x y a b : ℕ) → x < w → y < w → HasClass instrs x a → HasClass instrs y b → page_of x ≡ page_of y → a ≡ b) → v ≡ w → c ≡ d
      first before e =
          let own = subst (λ x. HasClass instrs x c) e one in
          ⊎_elim (λ f. one_class w c d own (subst (λ x. HasClass instrs x d) f two))
          (λ nu. sym (later_class w before u d c (omega (arith, in_u, nu)) two own (sym same ∙ ap page_of e))) (cases_eq u w)

      second : ((x y a b : ℕ) → x < w → y < w → HasClass instrs x a → HasClass instrs y b → page_of x ≡ page_of y → a ≡ b) → v ≢ w → u ≡ w → c ≡ d
      second before nv f = later_class w before v c d (omega (arith, in_v, nv)) one (subst (λ x. HasClass instrs x d) f two) (same ∙ ap page_of f)

      third : v ≢ w → (v < w → u < w → HasClass instrs v c → HasClass instrs u d → page_of v ≡ page_of u → c ≡ d) → u ≢ w → c ≡ d
      third nv before nu = before (omega (arith, in_v, nv)) (omega (arith, in_u, nu)) one two same

  -- a value stands at one of the places of its class
  at_a_place : (v : ℕ) (i : Instr) → slice_get instrs v ≡ Some i → has_result i.op ≡ true → (j : ℕ) × (offset_of v ≡ j * class_of_result i)
  at_a_place v i is has = by_place (placed v i is has) where
    by_place : IsPlaceIn instrs page (take v places) (class_of_result i) (place_of places v) → (j : ℕ) × (offset_of v ≡ j * class_of_result i)
    by_place (inl found) = (found.0, found.2)
    by_place (inr new) = let none : 0 * class_of_result i ≡ 0 = omega arith in (0, new.2 ∙ sym none)

  fits_class : (v : ℕ) (i : Instr) → slice_get instrs v ≡ Some i → width_of_result i.op i.width ≤ class_of_result i
  fits_class v i is = covers (width_of_result i.op i.width) (result_narrow i.op i.width i.imm (width_ok_at instrs v i sound is))

  -- a value lies in its page
  pub inside_page : (v : ℕ) (i : Instr) → slice_get instrs v ≡ Some i → has_result i.op ≡ true → offset_of v + width_of_result i.op i.width ≤ page
  inside_page v i is has = by_place (placed v i is has) where
    wide : width_of_result i.op i.width ≤ class_of_result i
    wide = fits_class v i is

    by_place : IsPlaceIn instrs page (take v places) (class_of_result i) (place_of places v) → offset_of v + width_of_result i.op i.width ≤ page
    by_place (inl found) = let room = place_within page (class_of_result i) found.0 found.1.free.0 in omega (arith, room, wide, found.2)
    by_place (inr new) = let room = fits_at page instrs v i fits is has in omega (arith, room, wide, new.2)

  width_of-at : (v : ℕ) (i : Instr) → slice_get instrs v ≡ Some i → width_of instrs v ≡ width_of_result i.op i.width
  width_of-at v i is = rw is refl

  -- a new value is put apart from each live one on its page
  pub apart : (t : ℕ) (i : Instr) (v : ℕ) → slice_get instrs t ≡ Some i → has_result i.op ≡ true → IsLive instrs t v → page_of v ≡ page_of t
      → (offset_of t ≢ offset_of v) × (overlap (offset_of v) (width_of instrs v) (offset_of t) (width_of_result i.op i.width) ≡ false)
  apart t i v is has live same = by_place (placed t i is has) where
    source : Defined instrs v
    source = (taken_below instrs live.1 v sound live.3).2

    inside : t < length places
    inside = within_places t i is

    long : length (take t places) ≡ t
    long = length-take-le t places (omega (arith, inside))

    one : class_of_result source.0 ≡ class_of_result i
    one = same_class (suc t) v t _ _ (omega (arith, live.0)) (omega arith) (has_class v source.0 source.1 source.2) (has_class t i is has) same

    its : (j : ℕ) × (offset_of v ≡ j * class_of_result source.0)
    its = at_a_place v source.0 source.1 source.2

    there : offset_of v ≡ its.0 * class_of_result i
    there = its.1 ∙ ap (λ c. its.0 * c) one

    narrow : width_of instrs v ≤ class_of_result i
    narrow = let f = fits_class v source.0 source.1 in let w = width_of-at v source.0 source.1 in omega (arith, f, w, one)

    by_place : IsPlaceIn instrs page (take t places) (class_of_result i) (place_of places t) → (offset_of t ≢ offset_of v) × (overlap (offset_of v) (width_of instrs v) (offset_of t) (width_of_result i.op i.width) ≡ false)
    by_place (inl found) =
        let here : page_of v ≡ page_of t = same in
        let lives : LivesOn instrs page (take t places) v (page_of t) = (subst (λ n. IsLive instrs n v) (sym long) live, ap (λ (p : Place). p.page) (front t v live.0) ∙ here) in
        let free = found.1.free.1 v lives in
        let other : offset_of v ≢ found.0 * class_of_result i = λ e. free (ap (λ (p : Place). p.offset) (front t v live.0) ∙ e) in
        let ne : its.0 ≢ found.0 = λ e. other (there ∙ ap (λ j. j * class_of_result i) e) in (
          λ e. other (sym e ∙ found.2),
          ap (λ o. overlap o (width_of instrs v) (offset_of t) (width_of_result i.op i.width)) there
              ∙ ap (λ o. overlap (its.0 * class_of_result i) (width_of instrs v) o (width_of_result i.op i.width)) found.2
              ∙ apart_places (class_of_result i) its.0 found.0 (width_of instrs v) (width_of_result i.op i.width) ne narrow (fits_class t i is),
        )
    by_place (inr new) =
        let old = made t v inside live.0 in
        absurd (omega (arith, old, new.1, same))
