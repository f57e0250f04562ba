-- Rows of places, of which one changes.
use Rattle.std.proofs.Common.{◌≡◌, ◌<◌, ◌∙◌, sym, refl, ap, ℕ, zero, suc, Bool, true, false, cond, eqb, List, [], ◌∷◌, length, map, get_or, set, ◌&&◌}
use Rattle.std.specs.Prelude.{◌≢◌}
use Rattle.std.proofs.lemmas.Bool.{eqb-true, eqb-false}
use Rattle.std.proofs.lemmas.List.{map-set, get_or-set_other}
use Rattle.std.proofs.lemmas.Grind.{get_or-set_at}
use mathlib.Core.Path.{fun_ext}
use Rattle.mage_network.specs.Network.{put_link}
use Rattle.mage_link.specs.Queues.{place_at, with_place}

-- a function of what stands at a place, or of what is given where there is none
pub get_or-map_all : {X Y : Type 0} (f : X → Y) (xs : List X) (i : ℕ) (none : X) →
    get_or (map f xs) i (f none) ≡ f (get_or xs i none)
get_or-map_all f [] i none = refl
get_or-map_all f (x ∷ xs) zero none = refl
get_or-map_all f (x ∷ xs) (suc i) none = get_or-map_all f xs i none

pub place_at-map : {X Y : Type 0} (f : X → Y) (none : X) (rows : List (List X)) (s t : ℕ) →
    place_at (f none) (map (map f) rows) s t ≡ f (place_at none rows s t)
place_at-map f none rows s t =
    ap (λ row. get_or row t (f none)) (get_or-map_all (map f) rows s [])
    ∙ get_or-map_all f (get_or rows s []) t none

pub map-with_place : {X Y : Type 0} (f : X → Y) (rows : List (List X)) (s t : ℕ) (x : X) →
    map (map f) (with_place rows s t x) ≡ with_place (map (map f) rows) s t (f x)
map-with_place f rows s t x =
    map-set (map f) rows s (set (get_or rows s []) t x)
    ∙ ap (set (map (map f) rows) s) (map-set f (get_or rows s []) t x
    ∙ ap (λ row. set row t (f x)) (sym (get_or-map_all (map f) rows s [])))

apart : (s n : ℕ) → eqb s n ≡ false → n ≢ s
apart s n e = λ same. eqb-false s n e (sym same)

-- what stands at each place, as a function of two numbers, once one place is given anew
module _ {X W : Type 0} (f : X → List W) (none : X) (rows : List (List X)) (s t : ℕ) (x : X)
    (row : s < length rows) (place : t < length (get_or rows s [])) where
  abbrev each : ℕ → ℕ → List W
  each n m = f (place_at none rows n m)

  -- in the row of the place
  in_row : (n m : ℕ) → eqb s n ≡ true → (b : Bool) → eqb t m ≡ b →
      f (get_or (set (get_or rows s []) t x) m none) ≡ cond b (f x) (each n m)
  in_row n m here true e =
      ap f (get_or-set_at (get_or rows s []) t m x none (sym (eqb-true t m e)) place)
  in_row n m here false e =
      ap f (get_or-set_other (get_or rows s []) t m x none (apart t m e))
      ∙ ap (λ k. f (get_or (get_or rows k []) m none)) (eqb-true s n here)

  at : (n m : ℕ) → (b : Bool) → eqb s n ≡ b →
      f (place_at none (with_place rows s t x) n m) ≡ cond (b && eqb t m) (f x) (each n m)
  at n m true e =
      ap (λ row. f (get_or row m none))
      (get_or-set_at rows s n (set (get_or rows s []) t x) [] (sym (eqb-true s n e)) row)
      ∙ in_row n m e (eqb t m) refl
  at n m false e =
      ap (λ row. f (get_or row m none))
      (get_or-set_other rows s n (set (get_or rows s []) t x) [] (apart s n e))

  pub places_with : (λ n m. f (place_at none (with_place rows s t x) n m))
      ≡ put_link (λ n m. f (place_at none rows n m)) s t (f x)
  places_with = fun_ext (λ n. fun_ext (λ m.
      at n m (eqb s n) refl))

-- a link that is given the wires that it had
pub put_link-same : {W : Type 0} (links : ℕ → ℕ → List W) (s t : ℕ) →
    put_link links s t (links s t) ≡ links
put_link-same links s t = fun_ext (λ n. fun_ext (λ m. go n m (eqb s n) refl (eqb t m) refl))
  where
    go : (n m : ℕ) → (b : Bool) → eqb s n ≡ b → (b' : Bool) → eqb t m ≡ b' →
        cond (eqb s n && eqb t m) (links s t) (links n m) ≡ links n m
    go n m true e true e' =
        rw (e, e') (ap (λ k. links k t) (eqb-true s n e) ∙ ap (links n) (eqb-true t m e'))
    go n m true e false e' = rw (e, e') refl
    go n m false e b' e' = rw e refl

set-get_or : {X : Type 0} (xs : List X) (i : ℕ) (none : X) → set xs i (get_or xs i none) ≡ xs
set-get_or [] i none = refl
set-get_or (x ∷ xs) zero none = refl
set-get_or (x ∷ xs) (suc i) none = ap (λ ys. x ∷ ys) (set-get_or xs i none)

-- a place that is given what stands there
pub with_place-same : {X : Type 0} (none : X) (rows : List (List X)) (s t : ℕ) →
    with_place rows s t (place_at none rows s t) ≡ rows
with_place-same none rows s t =
    ap (set rows s) (set-get_or (get_or rows s []) t none) ∙ set-get_or rows s []
