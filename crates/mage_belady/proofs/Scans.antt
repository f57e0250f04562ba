-- Scans of a set of pages, and of the sets of a plan.
use Rattle.std.proofs.Common.{◌≡◌, ◌<◌, ◌≤◌, ◌+◌, ◌&&◌, ℕ, zero, suc, List, [], ◌∷◌, ◌++◌, Bool, true, false, length, get_or, drop, nat_lt, refl, sym, ◌∙◌, ap, arith, append_assoc, append-nil, IfSome}
use Rattle.std.specs.List.{list_all, slice_get}
use Rattle.mage_instr.specs.declared.instr.Step.{Step}
use Rattle.mage_instr.specs.Trace.{pages_of, IsStep}
use Rattle.mage_belady.specs.Plan.{how_many}
use Rattle.mage_belady.specs.Cost.{ascends}

pub ascends-at : (xs : List ℕ) (k : ℕ) → suc k < length xs → ascends (drop k xs) ≡ (nat_lt (get_or xs k 0) (get_or xs (suc k) 0) && ascends (drop (suc k) xs))
ascends-at [] k h = absurd (omega arith)
ascends-at (x ∷ []) k h = absurd (omega arith)
ascends-at (x ∷ y ∷ ys) zero h = refl
ascends-at (x ∷ y ∷ ys) (suc k) h = ascends-at (y ∷ ys) k (omega arith)

pub ascends-last : (xs : List ℕ) (k : ℕ) → length xs ≤ suc k → ascends (drop k xs) ≡ true
ascends-last [] zero h = refl
ascends-last [] (suc k) h = refl
ascends-last (x ∷ []) zero h = refl
ascends-last (x ∷ []) (suc k) h = ascends-last [] k (omega arith)
ascends-last (x ∷ y ∷ ys) zero h = absurd (omega arith)
ascends-last (x ∷ y ∷ ys) (suc k) h = ascends-last (y ∷ ys) k (omega arith)

pub list_all-at : (p : ℕ → Bool) (xs : List ℕ) (k : ℕ) → k < length xs → p (get_or xs k 0) ≡ false → list_all p xs ≡ false
list_all-at p [] k h f = absurd (omega arith)
list_all-at p (x ∷ xs) zero h f = rw f refl
list_all-at p (x ∷ xs) (suc k) h f = go (p x) (list_all-at p xs k (omega arith) f) where
  go : (b : Bool) → list_all p xs ≡ false → (b && list_all p xs) ≡ false
  go true e = e
  go false e = refl

pub how_many-same : (p q : ℕ → Bool) (xs : List ℕ) → ((x : ℕ) → p x ≡ q x) → how_many p xs ≡ how_many q xs
how_many-same p q [] h = refl
how_many-same p q (x ∷ xs) h = rw (h x, how_many-same p q xs h) refl

-- the pages of the first n steps
pub touched : ℕ → List Step → List ℕ
touched zero steps = []
touched (suc n) [] = []
touched (suc n) (step ∷ steps) = pages_of step ++ touched n steps

pub touched-zero : (steps : List Step) → touched 0 steps ≡ []
unfolding touched
touched-zero steps = refl

touched-suc : (steps : List Step) (n : ℕ) (d : Step) → n < length steps → touched (suc n) steps ≡ touched n steps ++ pages_of (get_or steps n d)
unfolding touched
touched-suc [] n d h = absurd (omega arith)
touched-suc (step ∷ steps) zero d h = append-nil (pages_of step)
touched-suc (step ∷ steps) (suc n) d h = ap (λ xs. pages_of step ++ xs) (touched-suc steps n d (omega arith)) ∙ sym (append_assoc (pages_of step) (touched n steps) (pages_of (get_or steps n d)))

pub touched-more : (steps : List Step) (n : ℕ) (d : Step) → n < length steps → touched (n + 1) steps ≡ touched n steps ++ pages_of (get_or steps n d)
touched-more steps n d h = (let e : n + 1 ≡ suc n = omega arith in ap (λ m. touched m steps) e) ∙ touched-suc steps n d h

pub IsStep-at : (steps : List Step) → ((t : ℕ) → IfSome (slice_get steps t) IsStep) → (t : ℕ) (d : Step) → t < length steps → IsStep (get_or steps t d)
IsStep-at [] h t d l = absurd (omega arith)
IsStep-at (step ∷ steps) h zero d l = h zero
IsStep-at (step ∷ steps) h (suc t) d l = IsStep-at steps (λ n. h (suc n)) t d (omega arith)
