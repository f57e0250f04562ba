-- What stands at an index after a write or a push.
use Rattle.std.proofs.Common.{◌≡◌, ◌≢◌, ◌<◌, ◌≤◌, ◌++◌, ◌∷◌, [], ℕ, List, Some, length, set, slice_get, refl, sym, ap, ◌∙◌, arith, ⊎_elim}
use Rattle.std.proofs.lemmas.Bool.{cases_lt}
use Rattle.std.proofs.lemmas.List.{length-set, get_or-set_same, get_or-set_other, get_or_append_left, get_or_push, length_push}
use Rattle.std.proofs.lemmas.Option.{slice_get-get_or, slice_get_past}

module _ {X : Type 0} where
  pub slice_get-set_same : (xs : List X) (i : ℕ) (y : X) → i < length xs → slice_get (set xs i y) i ≡ Some y
  slice_get-set_same xs i y h = let within : i < length (set xs i y) = rw (length-set xs i y) h in slice_get-get_or (set xs i y) i y within ∙ ap Some (get_or-set_same xs i y y h)

  pub slice_get-set_other : (xs : List X) (i j : ℕ) (y : X) → j ≢ i → slice_get (set xs i y) j ≡ slice_get xs j
  slice_get-set_other xs i j y ne = ⊎_elim inside past (cases_lt j (length xs)) where
    inside : j < length xs → slice_get (set xs i y) j ≡ slice_get xs j
    inside h = let within : j < length (set xs i y) = rw (length-set xs i y) h in slice_get-get_or (set xs i y) j y within ∙ ap Some (get_or-set_other xs i j y y ne) ∙ sym (slice_get-get_or xs j y h)

    past : length xs ≤ j → slice_get (set xs i y) j ≡ slice_get xs j
    past h = let beyond : length (set xs i y) ≤ j = rw (length-set xs i y) h in slice_get_past (set xs i y) j beyond ∙ sym (slice_get_past xs j h)

  pub slice_get-push_same : (xs : List X) (y : X) → slice_get (xs ++ y ∷ []) (length xs) ≡ Some y
  slice_get-push_same xs y = let within : length xs < length (xs ++ y ∷ []) = rw (length_push xs y) (omega arith) in slice_get-get_or (xs ++ y ∷ []) (length xs) y within ∙ ap Some (get_or_push xs y y (length xs) refl)

  pub slice_get-push_left : (xs : List X) (y : X) (j : ℕ) → j < length xs → slice_get (xs ++ y ∷ []) j ≡ slice_get xs j
  slice_get-push_left xs y j h = let within : j < length (xs ++ y ∷ []) = rw (length_push xs y) (omega arith) in slice_get-get_or (xs ++ y ∷ []) j y within ∙ ap Some (get_or_append_left xs (y ∷ []) y j h) ∙ sym (slice_get-get_or xs j y h)

  pub slice_get-push_other : (xs : List X) (y : X) (j : ℕ) → j ≢ length xs → slice_get (xs ++ y ∷ []) j ≡ slice_get xs j
  slice_get-push_other xs y j ne = ⊎_elim (slice_get-push_left xs y j) past (cases_lt j (length xs)) where
    past : length xs ≤ j → slice_get (xs ++ y ∷ []) j ≡ slice_get xs j
    past h = let beyond : length (xs ++ y ∷ []) ≤ j = rw (length_push xs y) (omega arith) in slice_get_past (xs ++ y ∷ []) j beyond ∙ sym (slice_get_past xs j h)
