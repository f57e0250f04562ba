-- The places of values that end are free: one more value.
use Rattle.std.proofs.Common.{◌≡◌, ◌≢◌, ◌<◌, ◌+◌, ◌*◌, ◌∷◌, [], ◌&&◌, ◌||◌, not, ℕ, List, Bool, true, false, eqb, length, take, get_or, slice_index, refl, ap, ◌∙◌}
use Rattle.std.specs.List.{list_any}
use Rattle.std.proofs.lemmas.Bool.{eq-eqb, ne_eqb}
use Rattle.std.proofs.lemmas.List.{take_more}
use Rattle.std.proofs.lemmas.List.Folds.{list_any-append}
use Rattle.mage_instr.specs.declared.instr.Place.{Place}
use Rattle.mage_place.specs.declared.page.Page.{Page}
use Rattle.mage_place.specs.Places.{place_of}
use Rattle.mage_place.specs.Pools.{is_taken, class_at, is_place, IsOn, Frees, ends_at, FreesEnded}

pub IsOn-moved : (old new : List Page) (place : Place) → length new ≡ length old → ((q : ℕ) → class_at new q ≡ class_at old q) → IsOn old place → IsOn new place
IsOn-moved old new place count classes on = (rw count on.0, on.1, rw (classes place.page) on.2)

pub any_more : (f : ℕ → Bool) (xs : List ℕ) (k : ℕ) → k < length xs → list_any f (take (k + 1) xs) ≡ (list_any f (take k xs) || f (get_or xs k 0))
any_more f xs k h = ap (list_any f) (take_more xs k 0 h) ∙ list_any-append f (take k xs) (get_or xs k 0 ∷ []) ∙ ap (λ b. list_any f (take k xs) || b) (or_none (f (get_or xs k 0))) where
  or_none : (b : Bool) → (b || false) ≡ b
  or_none true = refl
  or_none false = refl

both_gone : (x a p : Bool) → ((x && not a) && not p) ≡ (x && not (a || (true && p)))
both_gone true true p = refl
both_gone true false p = refl
both_gone false a p = refl

none_gone : (x a p : Bool) → (x && not a) ≡ (x && not (a || (false && p)))
none_gone true true p = refl
none_gone true false p = refl
none_gone false a p = refl

module _ (old mid : List Page) (places : List Place) (last : List ℕ) (t : ℕ) (xs : List ℕ) (k : ℕ) (h : k < length xs) (so_far : FreesEnded old mid places last t (take k xs)) where
  pub FreesEnded-ends : (new : List Page) → slice_index last (get_or xs k 0) ≡ t → Frees mid new (place_of places (get_or xs k 0)) → FreesEnded old new places last t (take (k + 1) xs)
  FreesEnded-ends new ends freed = record {
    count = freed.count ∙ so_far.count;
    classes = λ q. freed.classes q ∙ so_far.classes q;
    taken_places = λ q j.
        let place = place_of places (get_or xs k 0) in
        let same : is_place mid place q j ≡ is_place old place q j = ap (λ c. eqb place.page q && eqb place.offset (j * c)) (so_far.classes q) in
        let any = any_more (ends_at old places last t q j) xs k h in
        let now : is_taken new q j ≡ ((is_taken old q j && not (list_any (ends_at old places last t q j) (take k xs))) && not (is_place old place q j)) = freed.taken_places q j ∙ rw (so_far.taken_places q j, same) refl in
        now ∙ both_gone (is_taken old q j) (list_any (ends_at old places last t q j) (take k xs)) (is_place old place q j)
        ∙ rw (any, eq-eqb (slice_index last (get_or xs k 0)) t ends) refl;
  }

  pub FreesEnded-stays : slice_index last (get_or xs k 0) ≢ t → FreesEnded old mid places last t (take (k + 1) xs)
  FreesEnded-stays stays = record {
    count = so_far.count;
    classes = so_far.classes;
    taken_places = λ q j.
        let place = place_of places (get_or xs k 0) in
        let any = any_more (ends_at old places last t q j) xs k h in
        so_far.taken_places q j ∙ none_gone (is_taken old q j) (list_any (ends_at old places last t q j) (take k xs)) (is_place old place q j)
        ∙ rw (any, ne_eqb (slice_index last (get_or xs k 0)) t stays) refl;
  }
