-- Members of lists, and tests that find them.
use Rattle.std.proofs.Common.{◌≡◌, ◌<◌, ◌∷◌, [], ◌||◌, zero, suc, ℕ, List, Bool, true, Some, length, get_or, Contains, refl, sym, arith, ⊎_elim, subst}
use Rattle.std.specs.List.{list_any, slice_get}
use Rattle.std.proofs.lemmas.Bool.{or_cases, or_left, or_right, false≢true}

pub any_found : {X : Type 0} (f : X → Bool) (xs : List X) → list_any f xs ≡ true → (v : X) × Contains xs v × (f v ≡ true)
any_found f [] h = absurd (false≢true h)
any_found f (x ∷ xs) h = ⊎_elim (λ e. (x, (0, omega arith, refl), e)) (λ e. let w = any_found f xs e in (w.0, (suc w.1.0, omega (arith, w.1.1), w.1.2), w.2)) (or_cases (f x) (list_any f xs) h)

pub any_finds : {X : Type 0} (f : X → Bool) (xs : List X) (v : X) → Contains xs v → f v ≡ true → list_any f xs ≡ true
any_finds f [] v c e = absurd (omega (arith, c.1))
any_finds f (x ∷ xs) v c e = at_place (λ w. any_finds f xs v w e) c.0 c.1 c.2 where
  at_place : (Contains xs v → list_any f xs ≡ true) → (k : ℕ) → k < suc (length xs) → get_or (x ∷ xs) k v ≡ v → (f x || list_any f xs) ≡ true
  at_place rest zero l is = or_left (f x) (list_any f xs) (subst (λ y. f y ≡ true) (sym is) e)
  at_place rest (suc k) l is = or_right (f x) (list_any f xs) (rest (k, omega arith, is))

pub some_at : {X : Type 0} (xs : List X) (i : ℕ) → i < length xs → (x : X) × (slice_get xs i ≡ Some x)
some_at [] i h = absurd (omega arith)
some_at (x ∷ xs) zero h = (x, refl)
some_at (x ∷ xs) (suc i) h = some_at xs i (omega arith)
