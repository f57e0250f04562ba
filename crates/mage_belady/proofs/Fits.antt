-- The steps of a trace fit the frames where none is too large, and then the rule's list reads least.
use Rattle.std.proofs.Common.{◌≡◌, ◌<◌, ◌≤◌, ◌+◌, ℕ, zero, suc, List, [], ◌∷◌, Bool, true, false, cond, length, get_or, take, nat_lt, Some, None, is_some, IfSome, refl, ap, arith, true≢false, ⊎_elim, subst}
use Rattle.std.specs.List.{slice_get}
use Rattle.std.specs.List.Sorted.{IsStrictlyIncreasing}
use Rattle.std.proofs.lemmas.Bool.{false≢true, ltb-false}
use Rattle.mage_instr.specs.declared.instr.Instr.{Instr}
use Rattle.mage_instr.specs.declared.instr.Place.{Place}
use Rattle.mage_instr.specs.declared.instr.Step.{Step}
use Rattle.mage_instr.specs.declared.replaced.Tight.TheVariants as tight
use Rattle.mage_instr.specs.Trace.{pages_of, IsStep, IsTrace}
use Rattle.mage_belady.specs.Plan.{is_in, AreDistinct}
use Rattle.mage_belady.specs.Rule.{rule_of, tight_of, pages_by_step, ReadsLeast}
use Rattle.mage_belady.proofs.Counts.{is_in-cons}
use Rattle.mage_belady.proofs.Least.{AllFit, rule_of-reads_least}

increasing-tail : (x : ℕ) (xs : List ℕ) → IsStrictlyIncreasing (x ∷ xs) → IsStrictlyIncreasing xs
increasing-tail x xs h k l = (let e : suc k + 1 ≡ suc (k + 1) = omega arith in subst (λ n. get_or xs k 0 < get_or (x ∷ xs) n 0) e (h (suc k) (omega arith)))

below_each : (x : ℕ) (xs : List ℕ) → IsStrictlyIncreasing (x ∷ xs) → (q : ℕ) → is_in q xs ≡ true → x < q
below_each x [] h q m = absurd (false≢true m)
below_each x (y ∷ ys) h q m =
    let first : x < y = h 0 (omega arith) in
    ⊎_elim (λ e. omega (arith, first, e)) (λ k. let r = below_each y ys (increasing-tail x (y ∷ ys) h) q k in omega (arith, first, r)) (is_in-cons q y ys m)

pub AreDistinct-increasing : (xs : List ℕ) → IsStrictlyIncreasing xs → AreDistinct xs
AreDistinct-increasing [] h = tt
AreDistinct-increasing (x ∷ xs) h = (go (is_in x xs) refl, AreDistinct-increasing xs (increasing-tail x xs h)) where
  go : (b : Bool) → is_in x xs ≡ b → is_in x xs ≡ false
  go true e = let l = below_each x xs h x e in absurd (omega (arith, l))
  go false e = e

take-short : (n : ℕ) (xs : List ℕ) → length (take n xs) ≤ n
take-short zero xs = omega arith
take-short (suc n) [] = omega arith
take-short (suc n) (x ∷ xs) = let rest = take-short n xs in omega (arith, rest)

pub AllFit-from_none : (frames t : ℕ) (trace : List Step) → ((k : ℕ) → IfSome (slice_get trace k) IsStep) → tight_of frames t trace ≡ None → AllFit frames trace
AllFit-from_none frames t [] h e = tt
AllFit-from_none frames t (step ∷ trace) h e = go (nat_lt frames step.count) refl e (AllFit-from_none frames (t + 1) trace (λ k. h (suc k))) where
  go : (b : Bool) → nat_lt frames step.count ≡ b → cond b (Some (tight.Frames t step.count frames)) (tight_of frames (t + 1) trace) ≡ None → (tight_of frames (t + 1) trace ≡ None → AllFit frames trace) → AllFit frames (step ∷ trace)
  go true f e rest = absurd (true≢false (ap is_some e))
  go false f e rest =
      let few = ltb-false frames step.count f in
      let short = take-short step.count step.pages in
      (AreDistinct-increasing (pages_of step) (h zero).1, omega (arith, few, short), rest e)

pub ReadsLeast-rule_of : (frames : ℕ) (instrs : List Instr) (places : List Place) (trace : List Step) → IsTrace trace → length instrs ≡ length trace → tight_of frames 0 trace ≡ None → ReadsLeast (rule_of frames instrs places trace) (pages_by_step trace) frames
ReadsLeast-rule_of frames instrs places trace is same none =
    let all = rule_of-reads_least frames places instrs trace same (AllFit-from_none frames 0 trace is.each none) is.count in
    record { serves = all.0; reads = all.1; least = all.2 }
