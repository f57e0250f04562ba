-- The sets of a plan, one after another.
use Rattle.std.proofs.Common.{◌≡◌, ◌<◌, ◌≤◌, ◌+◌, ℕ, zero, suc, List, [], ◌∷◌, Bool, true, false, not, cond, length, get_or, drop, nat_lt, Option, Some, None, is_some, Vec, refl, sym, ◌∙◌, ap, ap₂, arith, true≢false, ⊎_elim}
use Rattle.std.specs.Global.{Global}
use Rattle.std.specs.Option.{option_or}
use Rattle.std.specs.List.{list_all}
use Rattle.std.proofs.lemmas.Bool.{false≢true, and_parts, ltb-true, ltb-false}
use Rattle.std.proofs.lemmas.List.{at_drop_more}
use Rattle.mage_instr.specs.declared.instr.Step.{Step}
use Rattle.mage_instr.specs.Trace.{pages_of}
use Rattle.mage_belady.specs.declared.fault.CostFault.TheVariants as faults
use Rattle.mage_belady.specs.Plan.{is_in, AreDistinct, how_many, comes_back, reads_from, Serves}
use Rattle.mage_belady.specs.Rule.{pages_by_step}
use Rattle.mage_belady.specs.Cost.{ascends, fault_at, fault_from, sets_in}
use Rattle.mage_belady.proofs.Counts.{is_in-cons}
use Rattle.mage_belady.proofs.Scans.{touched, touched-more}

below_each : (x : ℕ) (xs : List ℕ) → ascends (x ∷ xs) ≡ true → (q : ℕ) → is_in q xs ≡ true → x < q
below_each x [] h q m = absurd (false≢true m)
below_each x (y ∷ ys) h q m =
    let both = and_parts (nat_lt x y) (ascends (y ∷ ys)) h in
    let l = ltb-true x y both.0 in
    ⊎_elim (λ e. omega (arith, l, e)) (λ k. let r = below_each y ys both.1 q k in omega (arith, l, r)) (is_in-cons q y ys m)

ascends-tail : (x : ℕ) (xs : List ℕ) → ascends (x ∷ xs) ≡ true → ascends xs ≡ true
ascends-tail x [] h = refl
ascends-tail x (y ∷ ys) h = (and_parts (nat_lt x y) (ascends (y ∷ ys)) h).1

-- pages that ascend are distinct
pub AreDistinct-ascends : (xs : List ℕ) → ascends xs ≡ true → AreDistinct xs
AreDistinct-ascends [] h = tt
AreDistinct-ascends (x ∷ xs) h = (go (is_in x xs) refl, AreDistinct-ascends xs (ascends-tail x xs h)) where
  go : (b : Bool) → is_in x xs ≡ b → is_in x xs ≡ false
  go true e = let l = below_each x xs h x e in absurd (omega (arith, l))
  go false e = e

pub record Fine (frames : ℕ) (set pages : List ℕ) : Type 0 where
  pub order : ascends set ≡ true
  pub has : list_all (λ page. is_in page set) pages ≡ true
  pub fits : length set ≤ frames

pub Fine-from_none : (frames t : ℕ) (set pages : List ℕ) → fault_at frames t set pages ≡ None → Fine frames set pages
Fine-from_none frames t set pages h = go (ascends set) (list_all (λ page. is_in page set) pages) (nat_lt frames (length set)) refl refl refl h where
  wrong : {A : Type 0} {X : Type 0} (x : X) → Some x ≡ None → A
  wrong x e = absurd (true≢false (ap is_some e))

  go : (a b c : Bool) → ascends set ≡ a → list_all (λ page. is_in page set) pages ≡ b → nat_lt frames (length set) ≡ c
      → cond (not a) (Some (faults.Order t)) (cond (not b) (Some (faults.Misses t)) (cond c (Some (faults.Over t)) None)) ≡ None → Fine frames set pages
  go false b c ea eb ec e = wrong _ e
  go true false c ea eb ec e = wrong _ e
  go true true true ea eb ec e = wrong _ e
  go true true false ea eb ec e = record { order = ea; has = eb; fits = ltb-false frames (length set) ec }

none_first : {X : Type 0} (a b : Option X) → option_or a b ≡ None → a ≡ None
none_first None b h = refl
none_first (Some x) b h = h

none_second : {X : Type 0} (a b : Option X) → option_or a b ≡ None → b ≡ None
none_second None b h = h
none_second (Some x) b h = absurd (true≢false (ap is_some h))

-- sets without a fault are a plan
pub Serves-from_none : (frames t : ℕ) (plan trace : List (List ℕ)) → length plan ≡ length trace → fault_from frames t plan trace ≡ None → Serves plan trace frames
Serves-from_none frames t [] [] e h = tt
Serves-from_none frames t [] (pages ∷ trace) e h = absurd (omega arith)
Serves-from_none frames t (set ∷ plan) [] e h = absurd (omega arith)
Serves-from_none frames t (set ∷ plan) (pages ∷ trace) e h =
    let fine = Fine-from_none frames t set pages (none_first (fault_at frames t set pages) (fault_from frames (t + 1) plan trace) h) in (
      record { distinct = AreDistinct-ascends set fine.order; has = fine.has; fits = fine.fits },
      Serves-from_none frames (t + 1) plan trace (omega arith) (none_second (fault_at frames t set pages) (fault_from frames (t + 1) plan trace) h),
    )

drop_none : {X : Type 0} (xs : List X) (n : ℕ) → length xs ≤ n → drop n xs ≡ []
drop_none [] zero h = refl
drop_none [] (suc n) h = refl
drop_none (x ∷ xs) zero h = absurd (omega arith)
drop_none (x ∷ xs) (suc n) h = drop_none xs n (omega arith)

pub length-sets_in : (plan : List (Vec ℕ Global)) → length (sets_in plan) ≡ length plan
length-sets_in [] = refl
length-sets_in (set ∷ plan) = ap suc (length-sets_in plan)

pub length-pages_by_step : (trace : List Step) → length (pages_by_step trace) ≡ length trace
length-pages_by_step [] = refl
length-pages_by_step (step ∷ trace) = ap suc (length-pages_by_step trace)

-- past the last set there is no fault
pub no_fault_past : (frames t : ℕ) (plan : List (Vec ℕ Global)) (trace : List (List ℕ)) → length plan ≤ t → fault_from frames t (sets_in (drop t plan)) trace ≡ None
no_fault_past frames t plan trace h = rw (drop_none plan t h) refl

module _ (plan : List (Vec ℕ Global)) (trace : List Step) (t : ℕ) (v : Vec ℕ Global) (d : Step) (set : List ℕ) (in_plan : t < length plan) (in_trace : t < length trace) (at : v ≡ get_or plan t v) (is : set ≡ v.items) where
  set_at : (get_or plan t v).items ≡ set
  set_at = ap (λ w. w.items) (sym at) ∙ sym is

  -- the fault from step t on
  pub fault_more : (frames : ℕ) → fault_from frames t (sets_in (drop t plan)) (pages_by_step (drop t trace)) ≡ option_or (fault_at frames t set (pages_of (get_or trace t d))) (fault_from frames (t + 1) (sets_in (drop (t + 1) plan)) (pages_by_step (drop (t + 1) trace)))
  fault_more frames =
      at_drop_more (λ xs. fault_from frames t (sets_in xs) (pages_by_step (drop t trace))) plan t v in_plan
      ∙ at_drop_more (λ ys. fault_from frames t (sets_in (get_or plan t v ∷ drop (t + 1) plan)) (pages_by_step ys)) trace t d in_trace
      ∙ ap (λ s. option_or (fault_at frames t s (pages_of (get_or trace t d))) (fault_from frames (t + 1) (sets_in (drop (t + 1) plan)) (pages_by_step (drop (t + 1) trace)))) set_at

  -- the reads from step t on
  pub reads_more : (before : List ℕ) → reads_from (touched t trace) before (sets_in (drop t plan)) (pages_by_step (drop t trace)) ≡ how_many (comes_back (touched t trace) before) set + reads_from (touched (t + 1) trace) set (sets_in (drop (t + 1) plan)) (pages_by_step (drop (t + 1) trace))
  reads_more before =
      at_drop_more (λ xs. reads_from (touched t trace) before (sets_in xs) (pages_by_step (drop t trace))) plan t v in_plan
      ∙ at_drop_more (λ ys. reads_from (touched t trace) before (sets_in (get_or plan t v ∷ drop (t + 1) plan)) (pages_by_step ys)) trace t d in_trace
      ∙ ap₂ (λ s seen. how_many (comes_back (touched t trace) before) s + reads_from seen s (sets_in (drop (t + 1) plan)) (pages_by_step (drop (t + 1) trace))) set_at (sym (touched-more trace t d in_trace))
