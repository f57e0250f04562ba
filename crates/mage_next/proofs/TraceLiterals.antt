-- A trace that is written out is one where a test that computes says so.
use Rattle.std.proofs.Common.{◌≡◌, ◌<◌, ◌≤◌, ◌&&◌, ℕ, zero, suc, List, [], ◌∷◌, Bool, true, IfSome, leb, ltb, length, get_or, arith, add-one}
use Rattle.std.specs.List.{slice_get}
use Rattle.std.specs.List.Sorted.{IsStrictlyIncreasing}
use Rattle.std.proofs.lemmas.Bool.{and_parts, ltb-true, leb-true}
use Rattle.mage_instr.specs.declared.instr.TheConstants.{NEVER}
use Rattle.mage_instr.specs.declared.instr.Step.{Step}
use Rattle.mage_instr.specs.Trace.{pages_of, IsStep, IsTrace}

-- whether the numbers ascend
abbrev ascends : List ℕ → Bool
ascends [] = true
ascends (x ∷ []) = true
ascends (x ∷ y ∷ ys) = ltb x y && ascends (y ∷ ys)

below_next : (xs : List ℕ) (k : ℕ) → ascends xs ≡ true → suc k < length xs → get_or xs k 0 < get_or xs (suc k) 0
below_next [] k h l = absurd (omega arith)
below_next (x ∷ []) k h l = absurd (omega arith)
below_next (x ∷ y ∷ ys) zero h l = ltb-true x y (and_parts (ltb x y) (ascends (y ∷ ys)) h).0
below_next (x ∷ y ∷ ys) (suc k) h l = below_next (y ∷ ys) k (and_parts (ltb x y) (ascends (y ∷ ys)) h).1 (omega arith)

IsStrictlyIncreasing-from_test : (xs : List ℕ) → ascends xs ≡ true → IsStrictlyIncreasing xs
IsStrictlyIncreasing-from_test xs h = λ k l. rw (add-one k) (below_next xs k h (omega arith))

-- whether the pages of each step ascend, and are at most four
abbrev pub are_steps : List Step → Bool
are_steps [] = true
are_steps (step ∷ steps) = (leb step.count 4 && ascends (pages_of step)) && are_steps steps

IsStep-each : (steps : List Step) → are_steps steps ≡ true → (t : ℕ) → IfSome (slice_get steps t) IsStep
IsStep-each [] h t = tt
IsStep-each (step ∷ steps) h zero =
    let both = and_parts (leb step.count 4) (ascends (pages_of step)) (and_parts (leb step.count 4 && ascends (pages_of step)) (are_steps steps) h).0 in
    (leb-true step.count 4 both.0, IsStrictlyIncreasing-from_test (pages_of step) both.1)
IsStep-each (step ∷ steps) h (suc t) = IsStep-each steps (and_parts (leb step.count 4 && ascends (pages_of step)) (are_steps steps) h).1 t

pub IsTrace-from_test : (trace : List Step) → length trace ≤ NEVER → are_steps trace ≡ true → IsTrace trace
IsTrace-from_test trace count h = record { count = count; each = IsStep-each trace h }
