-- Lists with one entry for each worker, and functions of the worker. Other crates cite these.
use Rattle.std.proofs.Common.{◌≡◌, ℕ, zero, suc, ◌+◌, ◌<◌, ◌≤◌, Bool, true, false, cond, eqb, List, [], ◌∷◌, ◌++◌, map, length, refl, sym, ap, ◌∙◌, ⊎_elim, arith}
use Rattle.std.proofs.Math.Path.{fun_ext}
use Rattle.std.proofs.lemmas.Bool.{cases_lt, cond-true, cond-false, eq-eqb, ne_eqb}
use Rattle.std.proofs.lemmas.List.{map-append, length-map, length_push}
use Rattle.mage_linked.specs.Workers.{list_at, with_at, below}

-- ---- functions of the worker

pub with_at-same : {A : Type 0} (f : ℕ → A) (worker : ℕ) (x : A) → with_at f worker x worker ≡ x
with_at-same f worker x = cond-true (eqb worker worker) x (f worker) (eq-eqb worker worker refl)

pub with_at-other : {A : Type 0} (f : ℕ → A) (worker : ℕ) (x : A) (other : ℕ) → (other ≡ worker → ⊥) → with_at f worker x other ≡ f other
with_at-other f worker x other h = cond-false (eqb other worker) x (f other) (ne_eqb other worker h)

cond_twice : {A : Type 0} (test : Bool) (x y z : A) → cond test y (cond test x z) ≡ cond test y z
cond_twice true x y z = refl
cond_twice false x y z = refl

pub with_at-twice : {A : Type 0} (f : ℕ → A) (worker : ℕ) (x y : A) → with_at (with_at f worker x) worker y ≡ with_at f worker y
with_at-twice f worker x y = fun_ext (λ other. cond_twice (eqb other worker) x y (f other))

-- ---- the numbers of the workers, and lists by worker

pub length-below : (n : ℕ) → length (below n) ≡ n
length-below zero = refl
length-below (suc n) = length_push (below n) n ∙ ap (λ k. k + 1) (length-below n) ∙ omega arith

list_at-append : {A : Type 0} (xs ys : List (List A)) (w : ℕ) → w < length xs → list_at (xs ++ ys) w ≡ list_at xs w
list_at-append [] ys w h = absurd (omega arith)
list_at-append (x ∷ xs) ys zero h = refl
list_at-append (x ∷ xs) ys (suc w) h = list_at-append xs ys w (omega arith)

list_at-last : {A : Type 0} (xs : List (List A)) (y : List A) → list_at (xs ++ y ∷ []) (length xs) ≡ y
list_at-last [] y = refl
list_at-last (x ∷ xs) y = list_at-last xs y

pub list_at-none : {A : Type 0} (xs : List (List A)) (w : ℕ) → length xs ≤ w → list_at xs w ≡ []
list_at-none [] w h = refl
list_at-none (x ∷ xs) zero h = absurd (omega arith)
list_at-none (x ∷ xs) (suc w) h = list_at-none xs w (omega arith)

pub length-map_below : {A : Type 0} (f : ℕ → A) (n : ℕ) → length (map f (below n)) ≡ n
length-map_below f n = length-map (below n) f ∙ length-below n

pub list_at-map : {A : Type 0} (f : ℕ → List A) (n w : ℕ) → w < n → list_at (map f (below n)) w ≡ f w
list_at-map f zero w h = absurd (omega arith)
list_at-map f (suc n) w h = ap (λ l. list_at l w) (map-append f (below n) (n ∷ [])) ∙ ⊎_elim (λ k. before (list_at-map f n w k) k) last (cases_lt w n)
  where
    size : length (map f (below n)) ≡ n
    size = length-map_below f n

    before : list_at (map f (below n)) w ≡ f w → w < n → list_at (map f (below n) ++ f n ∷ []) w ≡ f w
    before e k = list_at-append (map f (below n)) (f n ∷ []) w (omega (arith, size)) ∙ e

    last : n ≤ w → list_at (map f (below n) ++ f n ∷ []) w ≡ f w
    last k =
        let e : w ≡ n = omega arith in
        ap (λ i. list_at (map f (below n) ++ f n ∷ []) i) (e ∙ sym size) ∙ list_at-last (map f (below n)) (f n) ∙ ap f (sym e)
