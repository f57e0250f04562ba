-- The pages of a step: each stands once.
use Rattle.std.proofs.Common.{◌≡◌, ◌≢◌, ◌<◌, ◌≤◌, ◌+◌, ℕ, zero, suc, List, [], ◌∷◌, ◌++◌, true, false, length, get_or, take, refl, sym, ◌∙◌, ap, arith, ⊎_elim}
use Rattle.std.proofs.lemmas.Bool.{false≢true, cases_lt}
use Rattle.std.proofs.lemmas.List.{get_or-take, length-take-le, take-take}
use Rattle.std.proofs.Math.Seq.{take-suc}
use Rattle.mage_instr.specs.declared.instr.Step.{Step}
use Rattle.mage_instr.specs.Trace.{pages_of, IsStep}
use Rattle.mage_belady.specs.Plan.{is_in, AreDistinct}
use Rattle.mage_belady.proofs.Counts.{is_in-head, is_in-tail}
use Rattle.mage_belady.proofs.Sets.{not-in-cons}
use Rattle.mage_belady.proofs.Fits.{AreDistinct-increasing}

pub is_in-at : (xs : List ℕ) (k : ℕ) → k < length xs → is_in (get_or xs k 0) xs ≡ true
is_in-at [] k h = absurd (omega arith)
is_in-at (x ∷ xs) zero h = is_in-head x xs
is_in-at (x ∷ xs) (suc k) h = is_in-tail (get_or xs k 0) x xs (is_in-at xs k (omega arith))

not-in-front : (xs : List ℕ) (k : ℕ) → AreDistinct xs → k < length xs
    → is_in (get_or xs k 0) (take k xs) ≡ false
not-in-front [] k d h = absurd (omega arith)
not-in-front (x ∷ xs) zero d h = refl
not-in-front (x ∷ xs) (suc k) d h =
    not-in-cons (get_or xs k 0) x (take k xs)
    (λ e. false≢true (sym d.0 ∙ ap (λ y. is_in y xs) (sym e) ∙ is_in-at xs k (omega arith)))
    (not-in-front xs k d.1 (omega arith))

module _ (step : Step) (is : IsStep step) (long : step.count ≤ length step.pages) where
  -- page k is none of those before it
  pub not_before : (k : ℕ) → k < step.count
      → is_in (get_or step.pages k 0) (take k step.pages) ≡ false
  not_before k below =
      let counted = length-take-le step.count step.pages long in
      let here = not-in-front (take step.count step.pages) k
      (AreDistinct-increasing (take step.count step.pages) is.1)
      (omega (arith, counted, below)) in
      ap (λ q. is_in q (take k step.pages)) (sym (get_or-take step.count step.pages k 0 below))
      ∙ ap (is_in (get_or (take step.count step.pages) k 0))
      (sym (take-take k step.count step.pages (omega (arith, below))))
      ∙ here

  -- page k is one of the step's
  pub in_step : (k : ℕ) → k < step.count → is_in (get_or step.pages k 0) (pages_of step) ≡ true
  in_step k below =
      let counted = length-take-le step.count step.pages long in
      ap (λ q. is_in q (take step.count step.pages))
      (sym (get_or-take step.count step.pages k 0 below))
      ∙ is_in-at (take step.count step.pages) k (omega (arith, counted, below))

  earlier : (j k : ℕ) → j < k → k < step.count → get_or step.pages j 0 ≢ get_or step.pages k 0
  earlier j k before below e =
      let short : k ≤ length step.pages = omega (arith, below, long) in
      let counted = length-take-le k step.pages short in
      let here = is_in-at (take k step.pages) j (omega (arith, counted, before)) in
      false≢true (sym (not_before k below)
      ∙ ap (λ q. is_in q (take k step.pages))
      (sym e ∙ sym (get_or-take k step.pages j 0 before)) ∙ here)

  -- pages at two places differ
  pub apart : (j k : ℕ) → j ≢ k → j < step.count → k < step.count
      → get_or step.pages j 0 ≢ get_or step.pages k 0
  apart j k n below_j below_k e =
      ⊎_elim (λ l. earlier j k l below_k e) (λ l. earlier k j (omega (arith, l, n)) below_j (sym e))
      (cases_lt j k)

-- one page more
pub take-more : (k : ℕ) (xs : List ℕ) → k < length xs
    → take (k + 1) xs ≡ take k xs ++ get_or xs k 0 ∷ []
take-more k xs h = (let e : k + 1 ≡ suc k = omega arith in ap (λ n. take n xs) e)
    ∙ take-suc xs k 0 h
