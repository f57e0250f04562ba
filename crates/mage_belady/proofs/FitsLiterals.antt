-- Places and steps that are written out fit where a test that computes says so.
use Rattle.std.proofs.Common.{◌≡◌, ◌+◌, ◌&&◌, ◌||◌, ℕ, zero, suc, List, [], ◌∷◌, length, Bool, true, false, not, Option, Some, None, IfSome, IsSomeAnd, Contains, refl, ap, arith, subst}
use Rattle.std.specs.List.{slice_get, list_all, All}
use Rattle.std.proofs.lemmas.Bool.{and_parts, false≢true}
use Rattle.std.proofs.lemmas.Map.Views.{Contains-from_any, exact_unsigned_eq}
use Rattle.mage_instr.specs.declared.instr.Instr.{Instr}
use Rattle.mage_instr.specs.declared.instr.Place.{Place}
use Rattle.mage_instr.specs.declared.instr.Step.{Step}
use Rattle.mage_instr.specs.Trace.{pages_of}
use Rattle.mage_instr.specs.Opcodes.{has_result}
use Rattle.mage_belady.specs.Plan.{is_in}
use Rattle.mage_belady.specs.Placed.{args_of, StandsIn, FindsValues, FitsTrace}

abbrev stands : Option Place → Step → Bool
stands None step = false
stands (Some place) step = is_in place.page (pages_of step)

stands-true : (o : Option Place) (step : Step) → stands o step ≡ true → IsSomeAnd o (λ place. Contains (pages_of step) place.page)
stands-true None step h = false≢true h
stands-true (Some place) step h = Contains-from_any exact_unsigned_eq place.page (pages_of step) h

all_stand : (places : List Place) (step : Step) (vs : List ℕ) → list_all (λ v. stands (slice_get places v) step) vs ≡ true → All (StandsIn places step) vs
all_stand places step [] h k d l = absurd (omega arith)
all_stand places step (v ∷ vs) h zero d l = stands-true (slice_get places v) step (and_parts (stands (slice_get places v) step) (list_all (λ w. stands (slice_get places w) step) vs) h).0
all_stand places step (v ∷ vs) h (suc k) d l = all_stand places step vs (and_parts (stands (slice_get places v) step) (list_all (λ w. stands (slice_get places w) step) vs) h).1 k d (omega arith)

abbrev finds : List Place → (t : ℕ) → Instr → Step → Bool
finds places t i step = list_all (λ v. stands (slice_get places v) step) (args_of i) && (not (has_result i.op) || stands (slice_get places t) step)

or_true : (b c : Bool) → (not b || c) ≡ true → b ≡ true → c ≡ true
or_true true c h e = h
or_true false c h e = absurd (false≢true e)

FindsValues-from_test : (places : List Place) (t : ℕ) (i : Instr) (step : Step) → finds places t i step ≡ true → FindsValues places t i step
FindsValues-from_test places t i step h =
    let both = and_parts (list_all (λ v. stands (slice_get places v) step) (args_of i)) (not (has_result i.op) || stands (slice_get places t) step) h in
    record {
      taken = all_stand places step (args_of i) both.0;
      defined = λ has. stands-true (slice_get places t) step (or_true (has_result i.op) (stands (slice_get places t) step) both.1 has);
    }

-- whether each instruction has its step, where they are numbered from t
abbrev pub all_find : (places : List Place) → (t : ℕ) → List Instr → List Step → Bool
all_find places t [] [] = true
all_find places t [] (step ∷ steps) = false
all_find places t (i ∷ instrs) [] = false
all_find places t (i ∷ instrs) (step ∷ steps) = finds places t i step && all_find places (t + 1) instrs steps

all_find-count : (places : List Place) (t : ℕ) (instrs : List Instr) (steps : List Step) → all_find places t instrs steps ≡ true → length steps ≡ length instrs
all_find-count places t [] [] h = refl
all_find-count places t [] (step ∷ steps) h = absurd (false≢true h)
all_find-count places t (i ∷ instrs) [] h = absurd (false≢true h)
all_find-count places t (i ∷ instrs) (step ∷ steps) h = ap suc (all_find-count places (t + 1) instrs steps (and_parts (finds places t i step) (all_find places (t + 1) instrs steps) h).1)

all_find-at : (places : List Place) (t : ℕ) (instrs : List Instr) (steps : List Step) → all_find places t instrs steps ≡ true → (k : ℕ) → IfSome (slice_get instrs k) (λ i. IfSome (slice_get steps k) (FindsValues places (t + k) i))
all_find-at places t [] steps h k = tt
all_find-at places t (i ∷ instrs) [] h k = absurd (false≢true h)
all_find-at places t (i ∷ instrs) (step ∷ steps) h zero =
    let e : t ≡ t + 0 = omega arith in subst (λ n. FindsValues places n i step) e (FindsValues-from_test places t i step (and_parts (finds places t i step) (all_find places (t + 1) instrs steps) h).0)
all_find-at places t (i ∷ instrs) (step ∷ steps) h (suc k) =
    let e : t + 1 + k ≡ t + suc k = omega arith in
    subst (λ n. IfSome (slice_get instrs k) (λ j. IfSome (slice_get steps k) (FindsValues places n j))) e (all_find-at places (t + 1) instrs steps (and_parts (finds places t i step) (all_find places (t + 1) instrs steps) h).1 k)

pub FitsTrace-from_test : (instrs : List Instr) (places : List Place) (trace : List Step) → all_find places 0 instrs trace ≡ true → FitsTrace instrs places trace
FitsTrace-from_test instrs places trace h = record {
  count = all_find-count places 0 instrs trace h;
  each = λ t. let e : 0 + t ≡ t = omega arith in subst (λ n. IfSome (slice_get instrs t) (λ i. IfSome (slice_get trace t) (FindsValues places n i))) e (all_find-at places 0 instrs trace h t);
}
