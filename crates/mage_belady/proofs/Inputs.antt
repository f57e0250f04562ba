-- Instructions that take nothing, each with its value on a page of its step.
use Rattle.std.proofs.Common.{◌≡◌, ◌≤◌, ℕ, zero, suc, List, [], ◌∷◌, ◌++◌, length, take, Option, Some, None, IfSome, IsSomeAnd, Contains, refl, ap, arith}
use Rattle.std.specs.List.{slice_get}
use Rattle.mage_instr.specs.declared.instr.TheConstants.{NEVER}
use Rattle.mage_instr.specs.declared.instr.Instr.{Instr}
use Rattle.mage_instr.specs.declared.instr.Place.{Place}
use Rattle.mage_instr.specs.declared.instr.Step.{Step}
use Rattle.mage_instr.specs.Trace.{pages_of, IsStep, IsTrace}
use Rattle.mage_instr.specs.Opcodes.{arity_of}
use Rattle.mage_belady.specs.Placed.{FindsValues, FitsTrace}

abbrev pub AllDefine : List Instr → List Place → List Step → Type 0
AllDefine [] [] [] = Unit {0}
AllDefine (i ∷ instrs) (place ∷ places) (step ∷ steps) = (arity_of i.op ≡ 0) × IsStep step × Contains (pages_of step) place.page × AllDefine instrs places steps
AllDefine _ _ _ = ⊥

pub AllDefine-push : (instrs : List Instr) (places : List Place) (steps : List Step) (i : Instr) (place : Place) (step : Step) → AllDefine instrs places steps
    → arity_of i.op ≡ 0 → IsStep step → Contains (pages_of step) place.page → AllDefine (instrs ++ i ∷ []) (places ++ place ∷ []) (steps ++ step ∷ [])
AllDefine-push [] [] [] i place step all none is has = (none, is, has, tt)
AllDefine-push (j ∷ instrs) (p ∷ places) (s ∷ steps) i place step all none is has = (all.0, all.1, all.2, AllDefine-push instrs places steps i place step all.3 none is has)
AllDefine-push [] [] (s ∷ steps) i place step all none is has = absurd all
AllDefine-push [] (p ∷ places) steps i place step all none is has = absurd all
AllDefine-push (j ∷ instrs) [] steps i place step all none is has = absurd all
AllDefine-push (j ∷ instrs) (p ∷ places) [] i place step all none is has = absurd all

AllDefine-count : (instrs : List Instr) (places : List Place) (steps : List Step) → AllDefine instrs places steps → length steps ≡ length instrs
AllDefine-count [] [] [] all = refl
AllDefine-count (j ∷ instrs) (p ∷ places) (s ∷ steps) all = ap suc (AllDefine-count instrs places steps all.3)
AllDefine-count [] [] (s ∷ steps) all = absurd all
AllDefine-count [] (p ∷ places) steps all = absurd all
AllDefine-count (j ∷ instrs) [] steps all = absurd all
AllDefine-count (j ∷ instrs) (p ∷ places) [] all = absurd all

AllDefine-steps : (instrs : List Instr) (places : List Place) (steps : List Step) → AllDefine instrs places steps → (t : ℕ) → IfSome (slice_get steps t) IsStep
AllDefine-steps [] [] [] all t = tt
AllDefine-steps (j ∷ instrs) (p ∷ places) (s ∷ steps) all zero = all.1
AllDefine-steps (j ∷ instrs) (p ∷ places) (s ∷ steps) all (suc t) = AllDefine-steps instrs places steps all.3 t
AllDefine-steps [] [] (s ∷ steps) all t = absurd all
AllDefine-steps [] (p ∷ places) steps all t = absurd all
AllDefine-steps (j ∷ instrs) [] steps all t = absurd all
AllDefine-steps (j ∷ instrs) (p ∷ places) [] all t = absurd all

AllDefine-at : (instrs : List Instr) (places : List Place) (steps : List Step) → AllDefine instrs places steps → (t : ℕ)
    → IfSome (slice_get instrs t) (λ i. IfSome (slice_get steps t) (λ step. (arity_of i.op ≡ 0) × IsSomeAnd (slice_get places t) (λ place. Contains (pages_of step) place.page)))
AllDefine-at [] [] [] all t = tt
AllDefine-at (j ∷ instrs) (p ∷ places) (s ∷ steps) all zero = (all.0, all.2)
AllDefine-at (j ∷ instrs) (p ∷ places) (s ∷ steps) all (suc t) = AllDefine-at instrs places steps all.3 t
AllDefine-at [] [] (s ∷ steps) all t = absurd all
AllDefine-at [] (p ∷ places) steps all t = absurd all
AllDefine-at (j ∷ instrs) [] steps all t = absurd all
AllDefine-at (j ∷ instrs) (p ∷ places) [] all t = absurd all

pub FitsTrace-inputs : (instrs : List Instr) (places : List Place) (steps : List Step) → AllDefine instrs places steps → FitsTrace instrs places steps
FitsTrace-inputs instrs places steps all = record {
  count = AllDefine-count instrs places steps all;
  each = λ t. go t (slice_get instrs t) (slice_get steps t) (AllDefine-at instrs places steps all t);
} where
  go : (t : ℕ) (a : Option Instr) (b : Option Step) → IfSome a (λ i. IfSome b (λ step. (arity_of i.op ≡ 0) × IsSomeAnd (slice_get places t) (λ place. Contains (pages_of step) place.page))) → IfSome a (λ i. IfSome b (FindsValues places t i))
  go t None b h = tt
  go t (Some i) None h = tt
  go t (Some i) (Some step) h =
      let none : take (arity_of i.op) i.args ≡ [] = ap (λ n. take n i.args) h.0 in
      record { taken = rw none (λ k d l. absurd (omega arith)); defined = λ _. h.1 }

pub IsTrace-inputs : (instrs : List Instr) (places : List Place) (steps : List Step) → AllDefine instrs places steps → length steps ≤ NEVER → IsTrace steps
IsTrace-inputs instrs places steps all short = record { count = short; each = AllDefine-steps instrs places steps all }
