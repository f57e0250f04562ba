-- Each page of the trace comes in new once.
use Rattle.std.proofs.Common.{◌≡◌, ◌<◌, ◌≤◌, ◌+◌, ◌||◌, ◌⊎◌, inl, inr, zero, suc, ℕ, Bool, true, false, cond, List, [], ◌∷◌, ◌++◌, None, Some, IfSome, Contains, length, get_or, nat_eq, refl, sym, ◌∙◌, ap, arith, subst, append_assoc}
use Rattle.std.specs.Prelude.{slice_get}
use Rattle.std.specs.List.{flat_map}
use Rattle.std.proofs.lemmas.Bool.{cases_eq, or_cases, or_left, or_right, or_parts, eqb-true, eq-eqb, false≢true, false_from_ne_true}
use Rattle.std.proofs.lemmas.List.{length-map}
use Rattle.std.proofs.lemmas.List.Elements.{Contains-append_cases}
use Rattle.std.proofs.lemmas.List.Folds.{list_any-append}
use Rattle.std.proofs.lemmas.Map.Views.{Contains-from_any, exact_unsigned_eq}
use Rattle.std.proofs.lemmas.Option.{slice_get-get_or, slice_get_within}
use Rattle.mage_instr.specs.declared.instr.Instr.{Instr}
use Rattle.mage_instr.specs.declared.instr.Place.{Place}
use Rattle.mage_instr.specs.declared.instr.Step.{Step}
use Rattle.mage_instr.specs.declared.replaced.Job.{Job}
use Rattle.mage_instr.specs.declared.replaced.Spot.{Spot}
use Rattle.mage_instr.specs.declared.replaced.Replaced.{Replaced}
use Rattle.mage_instr.specs.declared.replaced.Replaced.TheVariants as entry
use Rattle.mage_instr.specs.Opcodes.{arity_of, has_result}
use Rattle.mage_instr.specs.Sound.{arg_of}
use Rattle.mage_instr.specs.Trace.{pages_of}
use Rattle.mage_place.specs.Live.{args_of, values_touched_by}
use Rattle.mage_place.specs.Places.{place_of}
use Rattle.mage_place.specs.Steps.{IsStepOf}
use Rattle.mage_place.proofs.SoundFacts.{no_instr, place_in_front}
use Rattle.mage_place.proofs.Stepped.{IfSome-each, IsTrace-from_steps}
use Rattle.mage_belady.specs.Plan.{is_in, AreDistinct, Serves}
use Rattle.mage_belady.specs.Rule.{taken, sets_from, sets_of, rule_of, pages_by_step}
use Rattle.mage_belady.proofs.Counts.{is_in-cons}
use Rattle.mage_belady.proofs.Fits.{ReadsLeast-rule_of}
use Rattle.mage_sched.specs.Reads.{page_in}
use Rattle.mage_sched.specs.Rule.{came_in, is_saved, AreEntries}
use Rattle.mage_sched.specs.Schedule.{jobs_of}
use Rattle.mage_schedulable.specs.Standing.{IsSpotOf, FindsPlaces, AllFindPlaces}
use Rattle.mage_schedulable.specs.Bringing.{page_new, RuleListsBringOnce}
use Rattle.mage_schedulable.proofs.Entries.{rule_lists_are_replaced, rule_lists_find_places}

-- ---- no page comes in new twice

new_never : (list before : List Replaced) (q : ℕ) → AreEntries before list → is_in q (flat_map page_new list) ≡ true → came_in before q ≡ false
new_never [] before q are m = absurd (false≢true m)
new_never (entry.Fresh frame page ∷ list) before q are m = go (is_in-cons q page (flat_map page_new list) m) (new_never list (entry.Fresh frame page ∷ before) q are.1) where
  go : (q ≡ page) ⊎ (is_in q (flat_map page_new list) ≡ true) → (is_in q (flat_map page_new list) ≡ true → (nat_eq page q || came_in before q) ≡ false) → came_in before q ≡ false
  go (inl e) others = ap (came_in before) e ∙ are.0
  go (inr later) others = (or_parts (nat_eq page q) (came_in before q) (others later)).1
new_never (entry.Load frame page ∷ list) before q are m = (or_parts (nat_eq page q) (came_in before q) (new_never list (entry.Load frame page ∷ before) q are.1 m)).1
new_never (entry.Save frame page ∷ list) before q are m = new_never list (entry.Save frame page ∷ before) q are.1 m
new_never (entry.Do job ∷ list) before q are m = new_never list (entry.Do job ∷ before) q are.1 m

new_once : (list before : List Replaced) → AreEntries before list → AreDistinct (flat_map page_new list)
new_once [] before are = tt
new_once (entry.Fresh frame page ∷ list) before are = (
  false_from_ne_true (is_in page (flat_map page_new list)) (λ m.
      let never = new_never list (entry.Fresh frame page ∷ before) page are.1 m in
      false≢true (sym never ∙ or_left (nat_eq page page) (came_in before page) (eq-eqb page page refl))),
  new_once list (entry.Fresh frame page ∷ before) are.1,
)
new_once (entry.Load frame page ∷ list) before are = new_once list (entry.Load frame page ∷ before) are.1
new_once (entry.Save frame page ∷ list) before are = new_once list (entry.Save frame page ∷ before) are.1
new_once (entry.Do job ∷ list) before are = new_once list (entry.Do job ∷ before) are.1

-- ---- what came in came in new first

record Had (before : List Replaced) (news : List ℕ) : Type 0 where
  came : (q : ℕ) → came_in before q ≡ true → is_in q news ≡ true
  saved : (q : ℕ) → is_saved before q ≡ true → is_in q news ≡ true
  holds : (f q : ℕ) → page_in before f ≡ Some q → is_in q news ≡ true

among_left : (q : ℕ) (xs ys : List ℕ) → is_in q xs ≡ true → is_in q (xs ++ ys) ≡ true
among_left q xs ys m = list_any-append (nat_eq q) xs ys ∙ or_left (is_in q xs) (is_in q ys) m

among_last : (page q : ℕ) (xs : List ℕ) → page ≡ q → is_in q (xs ++ page ∷ []) ≡ true
among_last page q xs e = list_any-append (nat_eq q) xs (page ∷ []) ∙ or_right (is_in q xs) (is_in q (page ∷ [])) (or_left (nat_eq q page) false (eq-eqb q page (sym e)))

none_some : (p : ℕ) → None ≡ Some p → ⊥
none_some p e = cc

some_same : (p q : ℕ) → Some p ≡ Some q → p ≡ q
some_same p q e = cc

-- a page that takes a frame is one of these, and what stood elsewhere is too
taken_among : (frame page f q : ℕ) (before : List Replaced) (news : List ℕ) → is_in page news ≡ true → ((g p : ℕ) → page_in before g ≡ Some p → is_in p news ≡ true)
    → cond (nat_eq frame f) (Some page) (page_in before f) ≡ Some q → is_in q news ≡ true
taken_among frame page f q before news here holds h = go (nat_eq frame f) h where
  go : (b : Bool) → cond b (Some page) (page_in before f) ≡ Some q → is_in q news ≡ true
  go true e = ap (λ (n : ℕ). is_in n news) (sym (some_same page q e)) ∙ here
  go false e = holds f q e

had_new : (frame page : ℕ) (before : List Replaced) (news : List ℕ) → Had before news → Had (entry.Fresh frame page ∷ before) (news ++ page ∷ [])
had_new frame page before news had = record {
  came = λ q m. came q (or_cases (nat_eq page q) (came_in before q) m);
  saved = λ q m. among_left q news (page ∷ []) (had.saved q m);
  holds = λ f q h. taken_among frame page f q before (news ++ page ∷ []) (among_last page page news refl) (λ g p e. among_left p news (page ∷ []) (had.holds g p e)) h;
} where
  came : (q : ℕ) → (nat_eq page q ≡ true) ⊎ (came_in before q ≡ true) → is_in q (news ++ page ∷ []) ≡ true
  came q (inl e) = among_last page q news (eqb-true page q e)
  came q (inr m) = among_left q news (page ∷ []) (had.came q m)

had_again : (frame page : ℕ) (before : List Replaced) (news : List ℕ) → is_saved before page ≡ true → Had before news → Had (entry.Load frame page ∷ before) news
had_again frame page before news saved had = record {
  came = λ q m. came q (or_cases (nat_eq page q) (came_in before q) m);
  saved = had.saved;
  holds = λ f q h. taken_among frame page f q before news (had.saved page saved) had.holds h;
} where
  came : (q : ℕ) → (nat_eq page q ≡ true) ⊎ (came_in before q ≡ true) → is_in q news ≡ true
  came q (inl e) = ap (λ (n : ℕ). is_in n news) (sym (eqb-true page q e)) ∙ had.saved page saved
  came q (inr m) = had.came q m

had_saved : (frame page : ℕ) (before : List Replaced) (news : List ℕ) → page_in before frame ≡ Some page → Had before news → Had (entry.Save frame page ∷ before) news
had_saved frame page before news stands had = record {
  came = had.came;
  saved = λ q m. saved q (or_cases (nat_eq page q) (is_saved before q) m);
  holds = had.holds;
} where
  saved : (q : ℕ) → (nat_eq page q ≡ true) ⊎ (is_saved before q ≡ true) → is_in q news ≡ true
  saved q (inl e) = ap (λ (n : ℕ). is_in n news) (sym (eqb-true page q e)) ∙ had.holds frame page stands
  saved q (inr m) = had.saved q m

-- ---- each page of a step is one that came in

module _ (instrs : List Instr) (places : List Place) (s q : ℕ) (i : Instr) (step : Step) (is : slice_get instrs s ≡ Some i) (its : IsStepOf places s i step) (need : is_in q (pages_of step) ≡ true) where
  stood : (before : List Replaced) (news : List ℕ) (v : ℕ) (spot : Spot) → Had before news → (place_of places v).page ≡ q → IsSpotOf places before v spot → is_in q news ≡ true
  stood before news v spot had on at = ap (λ (n : ℕ). is_in n news) (sym on) ∙ had.holds spot.frame (place_of places v).page at.frame

  only : (v : ℕ) → Contains (s ∷ []) v → s ≡ v
  only v c = at c.0 c.1 c.2 where
    at : (n : ℕ) → n < 1 → get_or (s ∷ []) n v ≡ v → s ≡ v
    at zero less e = e
    at (suc n) less e = absurd (omega (arith, less))

  at_do : (before : List Replaced) (news : List ℕ) (job : Job) → Had before news → FindsPlaces places s i before job → is_in q news ≡ true
  at_do before news job had finds = by_value touched.0 touched.2 (Contains-append_cases (args_of i) _ touched.0 touched.1) where
    touched : (v : ℕ) × Contains (values_touched_by i s) v × ((place_of places v).page ≡ q)
    touched = (its.pages q).0 (Contains-from_any exact_unsigned_eq q (pages_of step) need)

    by_value : (v : ℕ) → (place_of places v).page ≡ q → Contains (args_of i) v ⊎ Contains (cond (has_result i.op) (s ∷ []) []) v → is_in q news ≡ true
    by_value v on (inl c) =
        let arg = place_in_front i.args (arity_of i.op) v c in
        let own : (place_of places (arg_of i arg.0)).page ≡ q = ap (λ (n : ℕ). (place_of places n).page) arg.3 ∙ on in
        stood before news (arg_of i arg.0) _ had own (finds.taken arg.0 arg.1)
    by_value v on (inr c) = own (has_result i.op) refl c where
      own : (b : Bool) → has_result i.op ≡ b → Contains (cond b (s ∷ []) []) v → is_in q news ≡ true
      own true e c = stood before news s _ had (ap (λ (n : ℕ). (place_of places n).page) (only v c) ∙ on) (finds.defined e)
      own false e c = absurd (let less = c.1 in omega (arith, less))

  found : (list before : List Replaced) (news : List ℕ) (t : ℕ) → AreEntries before list → AllFindPlaces instrs places t before list → Had before news → t ≤ s → s < t + jobs_of list
      → is_in q (news ++ flat_map page_new list) ≡ true
  found [] before news t are finds had from below = absurd (omega (arith, from, below))
  found (entry.Fresh frame page ∷ list) before news t are finds had from below =
      ap (is_in q) (sym (append_assoc news (page ∷ []) (flat_map page_new list))) ∙ found list (entry.Fresh frame page ∷ before) (news ++ page ∷ []) t are.1 finds (had_new frame page before news had) from below
  found (entry.Load frame page ∷ list) before news t are finds had from below = found list (entry.Load frame page ∷ before) news t are.1 finds (had_again frame page before news are.0.1 had) from below
  found (entry.Save frame page ∷ list) before news t are finds had from below = found list (entry.Save frame page ∷ before) news t are.1 finds (had_saved frame page before news are.0.0 had) from below
  found (entry.Do job ∷ list) before news t are finds had from below = go (cases_eq t s) (λ l. found list (entry.Do job ∷ before) news (t + 1) are.1 finds.1 (record { came = had.came; saved = had.saved; holds = had.holds }) l (omega (arith, below))) where
    go : (t ≡ s) ⊎ (t ≡ s → ⊥) → (t + 1 ≤ s → is_in q (news ++ flat_map page_new list) ≡ true) → is_in q (news ++ flat_map page_new list) ≡ true
    go (inl e) later =
        let P : ℕ → Type 0 = λ n. IfSome (slice_get instrs n) (λ own. FindsPlaces places n own before job) in
        let here : IfSome (slice_get instrs s) (λ own. FindsPlaces places s own before job) = subst P e finds.0 in
        among_left q news (flat_map page_new list) (at_do before news job had (rw is at here))
    go (inr n) later = later (grind (arith, from, n))

-- ---- a list has as many instructions as steps

jobs_in : (memory : List ℕ) (list : List Replaced) → jobs_of list ≡ length (sets_from memory list)
jobs_in memory [] = refl
jobs_in memory (entry.Fresh frame page ∷ list) = jobs_in (taken frame page memory) list
jobs_in memory (entry.Load frame page ∷ list) = jobs_in (taken frame page memory) list
jobs_in memory (entry.Save frame page ∷ list) = jobs_in memory list
jobs_in memory (entry.Do job ∷ list) = let rest = jobs_in memory list in omega (arith, rest)

as_long : (plan trace : List (List ℕ)) (frames : ℕ) → Serves plan trace frames → length plan ≡ length trace
as_long [] [] frames h = refl
as_long (set ∷ plan) (pages ∷ trace) frames h = let rest = as_long plan trace frames h.1 in omega (arith, rest)
as_long [] (pages ∷ trace) frames h = absurd h
as_long (set ∷ plan) [] frames h = absurd h

pub rule_lists_bring_once : RuleListsBringOnce
rule_lists_bring_once frames instrs places trace sound have steps none = record {
  once = new_once list [] are;
  each = λ t q. IfSome-each (slice_get trace t) _ (λ step here need. each_at t q step here need);
} where
  list : List Replaced
  list = rule_of frames instrs places trace

  are : AreEntries [] (rule_of frames instrs places trace)
  are = rule_lists_are_replaced frames instrs places trace sound steps none

  jobs : jobs_of (rule_of frames instrs places trace) ≡ length trace
  jobs =
      let least = ReadsLeast-rule_of frames instrs places trace (IsTrace-from_steps instrs places trace sound steps) (sym steps.count) none in
      jobs_in [] (rule_of frames instrs places trace) ∙ as_long (sets_of (rule_of frames instrs places trace)) (pages_by_step trace) frames least.serves ∙ length-map trace pages_of

  each_at : (t q : ℕ) (step : Step) → slice_get trace t ≡ Some step → is_in q (pages_of step) ≡ true → is_in q (flat_map page_new (rule_of frames instrs places trace)) ≡ true
  each_at t q step here need =
      let in_trace = slice_get_within trace t step here in
      let same = steps.count in
      let is = slice_get-get_or instrs t no_instr (omega (arith, in_trace, same)) in
      let its : IsStepOf places t (get_or instrs t no_instr) step = rw (is, here) at (steps.each t) in
      found instrs places t q (get_or instrs t no_instr) step is its need (rule_of frames instrs places trace) [] [] 0 are (rule_lists_find_places frames instrs places trace sound have steps none)
      (record { came = λ p m. absurd (false≢true m); saved = λ p m. absurd (false≢true m); holds = λ f p h. absurd (none_some p h) }) (omega arith) (omega (arith, in_trace, jobs))
