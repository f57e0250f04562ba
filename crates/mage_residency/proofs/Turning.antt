-- What stands at one place of a program and of its trace, and what the rule makes of it.
use Rattle.std.proofs.Common.{◌≡◌, ◌≢◌, ◌<◌, ◌≤◌, ◌+◌, ◌||◌, ◌⊎◌, inl, inr, zero, suc, ℕ, Bool, true, false, cond, List, [], ◌∷◌, ◌++◌, Option, Some, IfSome, Contains, length, drop, get_or, nat_eq, refl, sym, ◌∙◌, ap, arith, ⊎_elim}
use Rattle.std.specs.Prelude.{slice_get}
use Rattle.std.proofs.lemmas.Bool.{cases_lt, cases_eq, or_cases, or_left, or_right}
use Rattle.std.proofs.lemmas.Cmp.{nat_eq_equiv}
use Rattle.std.proofs.lemmas.List.{at_drop_more}
use Rattle.std.proofs.lemmas.List.Elements.{Contains-append_right, Contains-append_cases}
use Rattle.std.proofs.lemmas.List.Folds.{list_any-append}
use Rattle.std.proofs.lemmas.Map.Views.{list_any-from_Contains, Contains-from_any, exact_unsigned_eq}
use Rattle.std.proofs.lemmas.Option.{slice_get-get_or, slice_get_past}
use Rattle.mage_instr.specs.declared.instr.TheConstants.{NEVER}
use Rattle.mage_instr.specs.declared.instr.Instr.{Instr}
use Rattle.mage_instr.specs.declared.instr.Place.{Place}
use Rattle.mage_instr.specs.declared.instr.Step.{Step}
use Rattle.mage_instr.specs.Opcodes.{has_result}
use Rattle.mage_instr.specs.Sound.{IsSound}
use Rattle.mage_instr.specs.Trace.{pages_of, IsStep}
use Rattle.mage_next.specs.Next.{first_use, has_page}
use Rattle.mage_place.specs.Live.{args_of, values_touched_by}
use Rattle.mage_place.specs.Places.{place_of}
use Rattle.mage_place.specs.Steps.{AreSteps, IsStepOf}
use Rattle.mage_place.proofs.SoundFacts.{no_instr, arg_below}
use Rattle.mage_belady.specs.Plan.{is_in}
use Rattle.mage_belady.specs.Rule.{Held, rule_from}
use Rattle.mage_residency.proofs.Kept.{Known}

-- what a trace has behind its end
abbrev pub no_step : Step
no_step = record { pages = []; count = 0 }

-- an instruction and its step, at place t of both
pub record IsTurn (instrs : List Instr) (places : List Place) (trace : List Step) (t : ℕ) (i : Instr) (step : Step) : Type 0 where
  pub in_trace : t < length trace
  pub is : slice_get instrs t ≡ Some i
  pub here : slice_get trace t ≡ Some step
  pub its : IsStepOf places t i step
  pub front : drop t trace ≡ step ∷ drop (t + 1) trace

module _ (instrs : List Instr) (places : List Place) (trace : List Step) (steps_are : AreSteps instrs places trace) where
  -- there is one at each place of the program
  pub turn_at : (t : ℕ) → t < length instrs → IsTurn instrs places trace t (get_or instrs t no_instr) (get_or trace t no_step)
  turn_at t l =
      let same = steps_are.count in
      let in_trace : t < length trace = omega (arith, l, same) in
      let is : slice_get instrs t ≡ Some (get_or instrs t no_instr) = slice_get-get_or instrs t no_instr l in
      let here : slice_get trace t ≡ Some (get_or trace t no_step) = slice_get-get_or trace t no_step in_trace in
      record {
        in_trace = in_trace;
        is = is;
        here = here;
        its = rw (is, here) at (steps_are.each t);
        front = at_drop_more (λ (rest : List Step). rest) trace t no_step in_trace;
      }

  -- and a trace has steps alone
  pub each_step : (t : ℕ) → IfSome (slice_get trace t) IsStep
  each_step t = ⊎_elim inside past (cases_lt t (length trace)) where
    past : length trace ≤ t → IfSome (slice_get trace t) IsStep
    past l = rw (slice_get_past trace t l) tt

    inside : t < length trace → IfSome (slice_get trace t) IsStep
    inside l =
        let same = steps_are.count in
        let turn = turn_at t (omega (arith, l, same)) in
        rw turn.here turn.its.ok

  -- and the rule goes on from there with that instruction and its step
  pub rule_turns : (frames t : ℕ) (seen : List ℕ) (held : List Held) → t < length instrs →
      rule_from frames places t seen held (drop t instrs) (drop t trace)
      ≡ rule_from frames places t seen held (get_or instrs t no_instr ∷ drop (t + 1) instrs) (get_or trace t no_step ∷ drop (t + 1) trace)
  rule_turns frames t seen held l =
      let turn = turn_at t l in
      at_drop_more (λ xs. rule_from frames places t seen held xs (drop t trace)) instrs t no_instr l
      ∙ ap (λ ys. rule_from frames places t seen held (get_or instrs t no_instr ∷ drop (t + 1) instrs) ys) turn.front

-- what the pages of an instruction's step say, once the steps so far had the page of each value
pub record AddsPages (frames : ℕ) (instrs : List Instr) (places : List Place) (t : ℕ) (i : Instr) (step : Step) (steps : List Step) (seen : List ℕ) : Type 0 where
  -- the step has the page of each value that the instruction touches
  pub needed : (v : ℕ) → Contains (values_touched_by i t) v → is_in (place_of places v).page (pages_of step) ≡ true
  -- a page of the step on which no result is put was had before
  pub had_before : (q : ℕ) → (has_result i.op ≡ true → (place_of places t).page ≢ q) → is_in q (seen ++ pages_of step) ≡ true → is_in q seen ≡ true
  -- a page that is used later is used from here on
  pub used_before : (q : ℕ) → first_use steps (t + 1) q ≢ NEVER → first_use (step ∷ steps) t q ≢ NEVER
  -- and then the steps had the page of each value again
  pub known_more : Known frames instrs places (t + 1) (seen ++ pages_of step)

module _ (frames : ℕ) (instrs : List Instr) (places : List Place) (sound : IsSound instrs) (t : ℕ) (i : Instr) (step : Step) (steps : List Step) (seen : List ℕ)
    (is : slice_get instrs t ≡ Some i) (its : IsStepOf places t i step) (early : t < NEVER) (known : Known frames instrs places t seen) where
  abbrev page_of : ℕ → ℕ
  page_of v = (place_of places v).page

  needed_by : (v : ℕ) → Contains (values_touched_by i t) v → is_in (page_of v) (pages_of step) ≡ true
  needed_by v touched = list_any-from_Contains nat_eq_equiv (page_of v) (pages_of step) ((its.pages (page_of v)).1 (v, touched, refl))

  only : (v : ℕ) → Contains (t ∷ []) v → t ≡ v
  only v c = at c.0 c.1 c.2 where
    at : (n : ℕ) → n < 1 → get_or (t ∷ []) n v ≡ v → t ≡ v
    at zero less e = e
    at (suc n) less e = absurd (omega (arith, less))

  was_had : (q : ℕ) → (has_result i.op ≡ true → page_of t ≢ q) → is_in q (seen ++ pages_of step) ≡ true → is_in q seen ≡ true
  was_had q other h = ⊎_elim (λ e. e) among (or_cases (is_in q seen) (is_in q (pages_of step)) (sym (list_any-append (nat_eq q) seen (pages_of step)) ∙ h)) where
    among : is_in q (pages_of step) ≡ true → is_in q seen ≡ true
    among m =
        let need = (its.pages q).0 (Contains-from_any exact_unsigned_eq q (pages_of step) m) in
        by_value need.0 need.2 (Contains-append_cases (args_of i) _ need.0 need.1)
      where
        by_value : (v : ℕ) → page_of v ≡ q → Contains (args_of i) v ⊎ Contains (cond (has_result i.op) (t ∷ []) []) v → is_in q seen ≡ true
        by_value v on (inl c) = let a = arg_below instrs t v i sound is c in ap (λ x. is_in x seen) (sym on) ∙ known v a.0 a.1
        by_value v on (inr c) = own (has_result i.op) refl c where
          own : (b : Bool) → has_result i.op ≡ b → Contains (cond b (t ∷ []) []) v → is_in q seen ≡ true
          own true e c = absurd (other e (ap page_of (only v c) ∙ on))
          own false e c = absurd (let less = c.1 in omega (arith, less))

  is_used : (q : ℕ) → first_use steps (t + 1) q ≢ NEVER → first_use (step ∷ steps) t q ≢ NEVER
  is_used q later = go (has_page step q) where
    go : (b : Bool) → cond b t (first_use steps (t + 1) q) ≢ NEVER
    go true e = omega (arith, early, e)
    go false e = later e

  are_known : Known frames instrs places (t + 1) (seen ++ pages_of step)
  are_known v less defined = list_any-append (nat_eq (page_of v)) seen (pages_of step) ∙ ⊎_elim own (λ ne. or_left (is_in (page_of v) seen) (is_in (page_of v) (pages_of step)) (known v (omega (arith, less, ne)) defined)) (cases_eq v t) where
    own : v ≡ t → (is_in (page_of v) seen || is_in (page_of v) (pages_of step)) ≡ true
    own e =
        let same : ◌≡◌ {A = Option Instr} (Some i) (Some defined.0) = sym is ∙ ap (slice_get instrs) (sym e) ∙ defined.1 in
        let one : i ≡ defined.0 = same_instr i defined.0 same in
        let has_one : has_result i.op ≡ true = ap (λ (x : Instr). has_result x.op) one ∙ defined.2 in
        let last : Contains (cond (has_result i.op) (t ∷ []) []) t = rw has_one (0, omega arith, refl) in
        or_right (is_in (page_of v) seen) (is_in (page_of v) (pages_of step)) (ap (λ x. is_in (page_of x) (pages_of step)) e ∙ needed_by t (Contains-append_right (args_of i) _ t last))
      where
        same_instr : (x y : Instr) → ◌≡◌ {A = Option Instr} (Some x) (Some y) → x ≡ y
        same_instr x y h = cc

  pub adds_pages : AddsPages frames instrs places t i step steps seen
  adds_pages = record { needed = needed_by; had_before = was_had; used_before = is_used; known_more = are_known }
