-- Lists that are related item by item.
use Rattle.std.specs.Prelude.{List, [], ◌∷◌}

-- three lists are as long as one another, and what stands at the same place is related
abbrev pub Each : {A B C : Type 0} → (A → B → C → Type 0) → List A → List B → List C → Type 0
Each Q [] [] [] = Unit {0}
Each Q [] [] (z ∷ zs) = ⊥
Each Q [] (y ∷ ys) [] = ⊥
Each Q [] (y ∷ ys) (z ∷ zs) = ⊥
Each Q (x ∷ xs) [] [] = ⊥
Each Q (x ∷ xs) [] (z ∷ zs) = ⊥
Each Q (x ∷ xs) (y ∷ ys) [] = ⊥
Each Q (x ∷ xs) (y ∷ ys) (z ∷ zs) = Q x y z × Each Q xs ys zs
