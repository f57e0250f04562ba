-- What each worker has: a list of lists, or a function of the worker.
use Rattle.std.specs.Prelude.{ℕ, zero, suc, ◌==◌, List, [], ◌∷◌, ◌++◌, if◌then◌else◌}

-- the list of a worker; one that isn't there has none
abbrev pub list_at : {A : Type 0} → List (List A) → ℕ → List A
list_at [] worker = []
list_at (own ∷ others) zero = own
list_at (own ∷ others) (suc worker) = list_at others worker

-- the same for each worker, but for one
abbrev pub with_at : {A : Type 0} → (ℕ → A) → ℕ → A → (ℕ → A)
with_at of_worker worker x other = if other == worker then x else of_worker other

-- the numbers below n
abbrev pub below : ℕ → List ℕ
below zero = []
below (suc n) = below n ++ n ∷ []
