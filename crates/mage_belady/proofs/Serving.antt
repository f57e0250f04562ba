-- One instruction of the rule's list after another.
use Rattle.std.proofs.Common.{◌≡◌, ◌≢◌, ◌<◌, ◌≤◌, ◌+◌, ℕ, zero, suc, List, [], ◌∷◌, ◌++◌, Bool, true, false, cond, length, get_or, drop, nat_lt, None, IsSomeAnd, slice_index, refl, sym, ◌∙◌, ap, arith, ⊎_elim, append_assoc}
use Rattle.std.specs.List.{slice_get}
use Rattle.std.proofs.lemmas.Bool.{cases_eq, ltb-true, ltb-false}
use Rattle.std.proofs.lemmas.Cmp.{nat_eq_equiv}
use Rattle.std.proofs.lemmas.List.{at_drop_more}
use Rattle.std.proofs.lemmas.Map.Views.{list_any-from_Contains}
use Rattle.std.proofs.lemmas.Option.{slice_get-get_or}
use Rattle.mage_instr.specs.declared.instr.TheConstants.{NEVER}
use Rattle.mage_instr.specs.declared.instr.Instr.{Instr}
use Rattle.mage_instr.specs.declared.instr.Place.{Place}
use Rattle.mage_instr.specs.declared.instr.Step.{Step}
use Rattle.mage_instr.specs.declared.replaced.Job.{Job}
use Rattle.mage_instr.specs.declared.replaced.Replaced.{Replaced}
use Rattle.mage_instr.specs.declared.replaced.Replaced.TheVariants as entry
use Rattle.mage_instr.specs.Trace.{pages_of, IsTrace}
use Rattle.mage_instr.specs.Opcodes.{has_result}
use Rattle.mage_next.specs.Next.{IsNextUse, AreNextUses, first_use}
use Rattle.mage_next.proofs.FirstUses.{IsNextUse-first_use}
use Rattle.mage_belady.specs.Plan.{is_in}
use Rattle.mage_belady.specs.Placed.{StandsIn, FindsValues, FitsTrace}
use Rattle.mage_belady.specs.Rule.{Held, all_brought_in, job_in, written, rule_from, tight_of}
use Rattle.mage_belady.proofs.Fits.{AllFit-from_none}
use Rattle.mage_belady.proofs.Least.{AllFit}

within_some : {X : Type 0} (xs : List X) (k : ℕ) (P : X → Type 0) → IsSomeAnd (slice_get xs k) P
    → k < length xs
within_some [] k P h = absurd h
within_some (x ∷ xs) zero P h = omega arith
within_some (x ∷ xs) (suc k) P h = let rest = within_some xs k P h in omega (arith, rest)

-- a page has one next use
module _ (trace : List Step) (t page : ℕ) (short : length trace ≤ NEVER) where
  not_below : (u v : ℕ) → u < v → IsNextUse trace t page u → IsNextUse trace t page v → ⊥
  not_below u v below a b = ⊎_elim at_end in_trace (cases_eq u NEVER) where
    at_end : u ≡ NEVER → ⊥
    at_end e = let within =
        within_some trace v _ (b.later (λ never. omega (arith, e, never, below))).1 in
        omega (arith, e, below, within, short)

    in_trace : u ≢ NEVER → ⊥
    in_trace n = let used = a.later n in b.least u used.0 below used.1

  IsNextUse-unique : (u v : ℕ) → IsNextUse trace t page u → IsNextUse trace t page v → u ≡ v
  IsNextUse-unique u v a b = ⊎_elim (λ e. e) (λ n. absurd (apart n)) (cases_eq u v) where
    apart : u ≢ v → ⊥
    apart n = go (nat_lt u v) refl where
      go : (c : Bool) → nat_lt u v ≡ c → ⊥
      go true e = not_below u v (ltb-true u v e) a b
      go false e = let above = ltb-false u v e in not_below v u (omega (arith, n, above)) b a

-- the next uses of a step's pages are their first uses after it
pub next_is : (trace : List Step) (nexts : List (List ℕ)) (t k : ℕ) (d : Step) → IsTrace trace
    → AreNextUses trace nexts → t < length trace → k < (get_or trace t d).count
    → slice_index (get_or nexts t []) k
    ≡ first_use (drop (t + 1) trace) (t + 1) (slice_index (get_or trace t d).pages k)
next_is trace nexts t k d is uses within below =
    let here = rw (slice_get-get_or trace t d within) at (uses.each t) in
    IsNextUse-unique trace t _ is.count _ _ (here.next k below) (IsNextUse-first_use trace t _)

-- each step fits the frames
pub AllFit-at : (frames : ℕ) (trace : List Step) (t : ℕ) (d : Step) → AllFit frames trace
    → t < length trace → length (pages_of (get_or trace t d)) ≤ frames
AllFit-at frames [] t d fit h = absurd (omega arith)
AllFit-at frames (step ∷ trace) zero d fit h = fit.1
AllFit-at frames (step ∷ trace) (suc t) d fit h = AllFit-at frames trace t d fit.2 (omega arith)

module _ (frames : ℕ) (places : List Place) (trace : List Step) (nexts : List (List ℕ)) (t : ℕ)
    (d : Step)
    (is : IsTrace trace) (are_nexts : AreNextUses trace nexts)
    (none : tight_of frames 0 trace ≡ None) (within : t < length trace) where
  pub step_fits : length (pages_of (get_or trace t d)) ≤ frames
  step_fits = AllFit-at frames trace t d (AllFit-from_none frames 0 trace is.each none) within

-- the page of a value that stands in a page of the step
pub is_in-stands : (places : List Place) (step : Step) (v : ℕ) (d : Place) → StandsIn places step v
    → is_in (get_or places v d).page (pages_of step) ≡ true
is_in-stands [] step v d h = absurd h
is_in-stands (place ∷ places) step zero d h =
    list_any-from_Contains nat_eq_equiv place.page (pages_of step) h
is_in-stands (place ∷ places) step (suc v) d h = is_in-stands places step v d h

pub FindsValues-at : (instrs : List Instr) (places : List Place) (trace : List Step) (t : ℕ)
    (i : Instr) (d : Step) → FitsTrace instrs places trace → t < length instrs
    → FindsValues places t (get_or instrs t i) (get_or trace t d)
FindsValues-at instrs places trace t i d fits within =
    let in_trace : t < length trace = omega (arith, fits.count, within) in
    rw (slice_get-get_or instrs t i within, slice_get-get_or trace t d in_trace) at (fits.each t)

module _ (frames : ℕ) (instrs : List Instr) (places : List Place) (trace : List Step) (t : ℕ)
    (i : Instr) (d : Step) (in_instrs : t < length instrs) (in_trace : t < length trace) where
  rule_turn : (seen : List ℕ) (held : List Held)
      → rule_from frames places t seen held (drop t instrs) (drop t trace)
      ≡ (all_brought_in frames (first_use (drop (t + 1) trace) (t + 1)) seen
      (pages_of (get_or trace t d)) (pages_of (get_or trace t d)) held).entries
      ++ entry.Do (job_in
      (all_brought_in frames (first_use (drop (t + 1) trace) (t + 1)) seen
      (pages_of (get_or trace t d)) (pages_of (get_or trace t d)) held).held places t
      (get_or instrs t i))
      ∷ rule_from frames places (t + 1) (seen ++ pages_of (get_or trace t d))
      (cond (has_result (get_or instrs t i).op)
      (written (get_or places t (record { page = 0; offset = 0 })).page
      (all_brought_in frames (first_use (drop (t + 1) trace) (t + 1)) seen
      (pages_of (get_or trace t d)) (pages_of (get_or trace t d)) held).held)
      (all_brought_in frames (first_use (drop (t + 1) trace) (t + 1)) seen
      (pages_of (get_or trace t d)) (pages_of (get_or trace t d)) held).held)
      (drop (t + 1) instrs) (drop (t + 1) trace)
  rule_turn seen held =
      at_drop_more (λ xs. rule_from frames places t seen held xs (drop t trace)) instrs t i
      in_instrs
      ∙ at_drop_more
      (λ ys. rule_from frames places t seen held (get_or instrs t i ∷ drop (t + 1) instrs) ys)
      trace t d in_trace

  -- the list after an instruction, and then the rest, is the whole list
  pub rule_more : (seen more : List ℕ) (next : ℕ → ℕ) (held brought after : List Held)
      (list moved done all : List Replaced) (job : Job)
      → list ++ rule_from frames places t seen held (drop t instrs) (drop t trace) ≡ all
      → next ≡ first_use (drop (t + 1) trace) (t + 1)
      → moved ≡ list ++ (all_brought_in frames next seen (pages_of (get_or trace t d))
      (pages_of (get_or trace t d)) held).entries
      → brought ≡ (all_brought_in frames next seen (pages_of (get_or trace t d))
      (pages_of (get_or trace t d)) held).held
      → job ≡ job_in brought places t (get_or instrs t i)
      → done ≡ moved ++ entry.Do job ∷ []
      → after ≡ cond (has_result (get_or instrs t i).op)
      (written (get_or places t (record { page = 0; offset = 0 })).page brought) brought
      → more ≡ seen ++ pages_of (get_or trace t d)
      → done ++ rule_from frames places (t + 1) more after (drop (t + 1) instrs)
      (drop (t + 1) trace) ≡ all
  rule_more seen more next held brought after list moved done all job was uses entries in_memory
      its_job emitted put noted =
      rw (noted, put, emitted, its_job, in_memory, entries, uses) (
      append_assoc (list ++ _) (entry.Do _ ∷ []) _
      ∙ append_assoc list _ _
      ∙ ap (λ m. list ++ m) (sym (rule_turn seen held))
      ∙ was
      )
