-- The first use of a page among the last steps of a trace is its next use after the step before these.
use Rattle.std.proofs.Common.{◌-◌, le-ltb, set, lt-ltb, Option, None, Some, IfSome, slice_index, ltb, ◌≡◌, ◌≢◌, ◌<◌, ◌≤◌, ◌+◌, ◌⊎◌, ℕ, zero, suc, List, [], ◌∷◌, Bool, true, false, cond, length, drop, get_or, inl, inr, refl, sym, ◌∙◌, ap, arith, ⊎_elim}
use Rattle.std.specs.List.{slice_get}
use Rattle.std.proofs.lemmas.Bool.{false≢true}
use Rattle.std.proofs.lemmas.Bool.{cases_eq}
use Rattle.std.proofs.lemmas.List.{at_drop_more, get_or_default, get_or-set_same, get_or-set_other}
use Rattle.std.proofs.lemmas.Map.Views.{Contains-from_any, list_any-from_Contains, exact_unsigned_eq}
use Rattle.std.proofs.lemmas.Cmp.{nat_eq_equiv}
use Rattle.std.proofs.lemmas.Option.{get_or_from_slice_get, slice_get_within}
use Rattle.mage_instr.specs.declared.instr.TheConstants.{NEVER}
use Rattle.mage_instr.specs.declared.instr.Step.{Step}
use Rattle.mage_instr.specs.Trace.{pages_of, Has, IsTrace}
use Rattle.mage_next.specs.Next.{IsNextUse, AreUsesOf, AreNextUses, has_page, first_use, use_of, use_noted}

-- the first use from step n on, by the first use after it
pub first_use_before : (trace : List Step) (n : ℕ) (d : Step) → n < length trace → (q : ℕ) → first_use (drop n trace) n q ≡ use_noted (get_or trace n d) n (first_use (drop (n + 1) trace) (n + 1)) q
first_use_before trace n d h q = at_drop_more (λ xs. first_use xs n q) trace n d h

-- a map that has the first uses from step n + 1 on, and then those of step n
pub first_uses_more : (trace : List Step) (n m : ℕ) (d : Step) (before after : ℕ → ℕ) → n < length trace → m ≡ n + 1 → ((q : ℕ) → before q ≡ first_use (drop m trace) m q) → ((q : ℕ) → after q ≡ use_noted (get_or trace n d) n before q) → (q : ℕ) → after q ≡ first_use (drop n trace) n q
first_uses_more trace n m d before after h e was now q =
    now q ∙ ap (cond (has_page (get_or trace n d) q) n) (rw (← e) (was q)) ∙ sym (first_use_before trace n d h q)

-- entries of the steps from n + 1 on, and then those of step n
pub entries_more : (trace : List Step) (uses : List (List ℕ)) (n m : ℕ) (now : List ℕ) (before : ℕ → ℕ) (e : Step) → n < length trace → length uses ≡ length trace → m ≡ n + 1 → ((q : ℕ) → before q ≡ first_use (drop m trace) m q)
    → ((k : ℕ) → k < 4 → slice_index now k ≡ use_of (get_or trace n e) before k)
    → ((s k : ℕ) (d : Step) → m ≤ s → s < length trace → k < 4 → slice_index (get_or uses s []) k ≡ use_of (get_or trace s d) (first_use (drop (s + 1) trace) (s + 1)) k)
    → (s k : ℕ) (d : Step) → n ≤ s → s < length trace → k < 4 → slice_index (get_or (set uses n now) s []) k ≡ use_of (get_or trace s d) (first_use (drop (s + 1) trace) (s + 1)) k
entries_more trace uses n m now before d' within count e was at_n done s k d from below four = ⊎_elim here there (cases_eq s n) where
  here : s ≡ n → slice_index (get_or (set uses n now) s []) k ≡ use_of (get_or trace s d) (first_use (drop (s + 1) trace) (s + 1)) k
  here is =
      let in_uses : n < length uses = omega arith in
      let same = get_or_default trace n d d' within in
      let first = was (slice_index (get_or trace n d').pages k) in
      rw (is, get_or-set_same uses n now [] in_uses, same, ← e) (at_n k four ∙ ap (λ x. cond (ltb k (get_or trace n d').count) x NEVER) first)

  there : s ≢ n → slice_index (get_or (set uses n now) s []) k ≡ use_of (get_or trace s d) (first_use (drop (s + 1) trace) (s + 1)) k
  there other = rw (get_or-set_other uses n s now [] other) (done s k d (omega arith) below four)

-- u is the first use of the page among steps that are numbered from n
record IsFirst (steps : List Step) (n page u : ℕ) : Type 0 where
  found : (u ≡ NEVER) ⊎ ((j : ℕ) × (u ≡ n + j) × Has steps j page)
  none : (j : ℕ) → n + j < u → ¬ Has steps j page

IsFirst-at : (step : Step) (steps : List Step) (n page : ℕ) → has_page step page ≡ true → IsFirst (step ∷ steps) n page n
IsFirst-at step steps n page h = record {
  found = inr (0, omega arith, Contains-from_any exact_unsigned_eq page (pages_of step) h);
  none = λ j below has. omega arith;
}

IsFirst-after : (step : Step) (steps : List Step) (n page u : ℕ) → has_page step page ≡ false → IsFirst steps (n + 1) page u → IsFirst (step ∷ steps) n page u
IsFirst-after step steps n page u h first = record {
  found = ⊎_elim inl (λ w. inr (suc w.0, omega (arith, w.1), w.2)) first.found;
  none = later;
} where
  later : (j : ℕ) → n + j < u → ¬ Has (step ∷ steps) j page
  later zero below has = false≢true (sym h ∙ list_any-from_Contains nat_eq_equiv page (pages_of step) has)
  later (suc j) below has = first.none j (omega arith) has

by_test : (step : Step) (steps : List Step) (n page : ℕ) (b : Bool) → has_page step page ≡ b → IsFirst steps (n + 1) page (first_use steps (n + 1) page) → IsFirst (step ∷ steps) n page (cond b n (first_use steps (n + 1) page))
by_test step steps n page true h rest = IsFirst-at step steps n page h
by_test step steps n page false h rest = IsFirst-after step steps n page _ h rest

-- `first_use` is the first use
IsFirst-first_use : (steps : List Step) (n page : ℕ) → IsFirst steps n page (first_use steps n page)
IsFirst-first_use [] n page = record { found = inl refl; none = λ j below has. has }
IsFirst-first_use (step ∷ steps) n page = by_test step steps n page (has_page step page) refl (IsFirst-first_use steps (n + 1) page)

slice_get-drop : (steps : List Step) (n j : ℕ) → slice_get (drop n steps) j ≡ slice_get steps (n + j)
slice_get-drop steps zero j = let e : j ≡ 0 + j = omega arith in ap (slice_get steps) e
slice_get-drop [] (suc n) j = refl
slice_get-drop (step ∷ steps) (suc n) j = (let e : suc (n + j) ≡ suc n + j = omega arith in slice_get-drop steps n j ∙ ap (slice_get (step ∷ steps)) e)

-- the first use after step t is the next use after it
pub IsNextUse-first_use : (trace : List Step) (t page : ℕ) → IsNextUse trace t page (first_use (drop (t + 1) trace) (t + 1) page)
IsNextUse-first_use trace t page =
    let u = first_use (drop (t + 1) trace) (t + 1) page in
    let first = IsFirst-first_use (drop (t + 1) trace) (t + 1) page in
    record {
      later = λ used. ⊎_elim (λ e. absurd (used e)) (λ w. (omega (arith, w.1), moved (w.0) u w.1 w.2)) first.found;
      least = λ s after before has. first.none (s - (t + 1)) (omega arith) (back s after has);
    } where
      moved : (j u : ℕ) → u ≡ t + 1 + j → Has (drop (t + 1) trace) j page → Has trace u page
      moved j u e has = rw (e, ← slice_get-drop trace (t + 1) j) has

      back : (s : ℕ) → t < s → Has trace s page → Has (drop (t + 1) trace) (s - (t + 1)) page
      back s after has = let e : t + 1 + (s - (t + 1)) ≡ s = omega arith in rw (slice_get-drop trace (t + 1) (s - (t + 1)), e) has

IfSome-from_ForSome : {X : Type 0} (o : Option X) (P : X → Type 0) → ((x : X) → o ≡ Some x → P x) → IfSome o P
IfSome-from_ForSome None P h = tt
IfSome-from_ForSome (Some x) P h = h x refl

module _ (trace : List Step) (uses : List (List ℕ)) (ok : IsTrace trace) (count : length uses ≡ length trace) (done : (s k : ℕ) (d : Step) → s < length trace → k < 4 → slice_index (get_or uses s []) k ≡ use_of (get_or trace s d) (first_use (drop (s + 1) trace) (s + 1)) k) where
  entry : (t k : ℕ) (step : Step) → slice_get trace t ≡ Some step → k < 4 → slice_index (get_or uses t []) k ≡ use_of step (first_use (drop (t + 1) trace) (t + 1)) k
  entry t k step is h = rw (← get_or_from_slice_get trace t step step is) (done t k step (slice_get_within trace t step is) h)

  uses_at : (t : ℕ) (step : Step) → slice_get trace t ≡ Some step → AreUsesOf trace t step (get_or uses t [])
  uses_at t step is = let four : step.count ≤ 4 = (rw is at (ok.each t)).0 in record {
    next = λ k h. let below : ltb k step.count ≡ true = lt-ltb k step.count h in rw (entry t k step is (omega arith), below) (IsNextUse-first_use trace t _);
    past = λ k h l. let past : ltb k step.count ≡ false = le-ltb k step.count h in rw (entry t k step is l, past) refl;
  }

  -- entries that are the first uses after their steps are the next uses
  pub AreNextUses-from_first_uses : AreNextUses trace uses
  AreNextUses-from_first_uses = record { count = count; each = λ t. IfSome-from_ForSome (slice_get trace t) _ (uses_at t) }
