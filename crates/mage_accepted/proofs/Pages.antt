-- A worker's values stand on fewer pages than it has instructions.
use Rattle.std.proofs.Common.{◌≡◌, ◌<◌, ◌≤◌, ◌+◌, inl, inr, zero, suc, ℕ, Bool, true, false, List, [], ◌∷◌, Some, length, take, get_or, refl, sym, ◌∙◌, ap, arith, ⊎_elim, subst}
use Rattle.std.specs.Prelude.{slice_get}
use Rattle.std.proofs.lemmas.Bool.{cases_lt}
use Rattle.std.proofs.lemmas.List.{length-take, get_or-take, get_or_past}
use Rattle.std.proofs.lemmas.Map.Views.{Contains-from_any, exact_unsigned_eq}
use Rattle.std.proofs.lemmas.Option.{slice_get-get_or, slice_get_within}
use Rattle.mage_instr.specs.declared.instr.Instr.{Instr}
use Rattle.mage_instr.specs.declared.instr.Place.{Place}
use Rattle.mage_instr.specs.declared.instr.Step.{Step}
use Rattle.mage_instr.specs.Opcodes.{has_result}
use Rattle.mage_instr.specs.Trace.{pages_of}
use Rattle.mage_place.specs.Places.{place_of, nowhere, next_page, IsPlaceIn, IsPlaceOf, ArePlaces}
use Rattle.mage_place.specs.Steps.{IsStepOf, AreSteps}
use Rattle.mage_place.proofs.SoundFacts.{no_instr}
use Rattle.mage_belady.specs.Plan.{is_in}

-- where no page's number is above that of its value, and k more, there are few pages
few_pages : (places : List Place) (k : ℕ) → ((v : ℕ) → v < length places → (place_of places v).page ≤ v + k)
    → next_page places ≤ length places + k
few_pages [] k h = omega arith
few_pages (place ∷ places) k h =
    let first : place.page ≤ 0 + k = h 0 (omega arith) in
    let rest = few_pages places (k + 1) (λ v lt. let one : (place_of places v).page ≤ suc v + k = h (suc v) (omega (arith, lt)) in omega (arith, one)) in
    omega (arith, first, rest)

module _ (instrs : List Instr) (page : ℕ) (places : List Place) (are : ArePlaces instrs page places) where
  -- the place of a result, behind places of which no page has a higher number than its value
  low_in : (t c : ℕ) (place : Place) → t < length places → ((v : ℕ) → v < t → (place_of places v).page ≤ v)
      → IsPlaceIn instrs page (take t places) c place → place.page ≤ t
  low_in t c place lt before (inl on) =
      let lives = on.1.open_page.0 in
      let long : length (take t places) ≡ t = let e = length-take t places in omega (arith, e, lt) in
      let early = lives.1.0.0 in
      let below : lives.0 < t = omega (arith, early, long) in
      let same : (place_of places lives.0).page ≡ place.page = ap (λ (p : Place). p.page) (sym (get_or-take t places lives.0 nowhere below)) ∙ lives.1.1 in
      let low = before lives.0 below in
      omega (arith, low, same, below)
  low_in t c place lt before (inr new) =
      let long : length (take t places) ≡ t = let e = length-take t places in omega (arith, e, lt) in
      let few = few_pages (take t places) 0 (λ v within.
      let below : v < t = omega (arith, within, long) in
      let same : (place_of (take t places) v).page ≡ (place_of places v).page = ap (λ (p : Place). p.page) (get_or-take t places v nowhere below) in
      let low = before v below in
      omega (arith, low, same)) in
      let is = new.1 in
      omega (arith, is, few, long)

  low_at : (t : ℕ) → t < length places → ((v : ℕ) → v < t → (place_of places v).page ≤ v) → (place_of places t).page ≤ t
  low_at t lt before =
      let many = are.count in
      let i = get_or instrs t no_instr in
      let found = slice_get-get_or instrs t no_instr (omega (arith, lt, many)) in
      let its : IsPlaceOf instrs page (take t places) i (place_of places t) = rw found at (are.each t) in
      go i its (has_result i.op) refl
    where
      go : (i : Instr) → IsPlaceOf instrs page (take t places) i (place_of places t) → (b : Bool) → has_result i.op ≡ b
          → (place_of places t).page ≤ t
      go i its true e = low_in t _ (place_of places t) lt before (its.with_result e)
      go i its false e = let none : (place_of places t).page ≡ 0 = ap (λ (p : Place). p.page) (its.without e) in omega (arith, none)

  -- a value's page has no higher number than the value
  low : (t : ℕ) → t ≤ length places → (v : ℕ) → v < t → (place_of places v).page ≤ v
  low zero le v lt = absurd (omega (arith, lt))
  low (suc t) le v lt = ⊎_elim
      (λ early. low t (omega (arith, le)) v early)
      (λ late. let same : t ≡ v = omega (arith, late, lt) in
      subst (λ k. (place_of places k).page ≤ k) same (low_at t (omega (arith, le)) (low t (omega (arith, le)))))
      (cases_lt v t)

  pub low_page : (v : ℕ) → 0 < length instrs → (place_of places v).page < length instrs
  low_page v some = ⊎_elim
      (λ lt. let le = low (length places) (omega arith) v lt in let many = are.count in omega (arith, le, lt, many))
      (λ past. let none : (place_of places v).page ≡ 0 = ap (λ (p : Place). p.page) (get_or_past places v nowhere past) in omega (arith, none, some))
      (cases_lt v (length places))

-- a step has at most four pages, each of them below a number
abbrev pub IsLow : (n : ℕ) → Step → Type 0
IsLow n step = (length (pages_of step) ≤ 4) × ((page : ℕ) → is_in page (pages_of step) ≡ true → page < n)

abbrev pub AreLow : (n : ℕ) → List Step → Type 0
AreLow n [] = Unit {0}
AreLow n (step ∷ steps) = IsLow n step × AreLow n steps

each_low : (n : ℕ) (steps : List Step) → ((t : ℕ) (step : Step) → slice_get steps t ≡ Some step → IsLow n step) → AreLow n steps
each_low n [] h = tt
each_low n (step ∷ steps) h = (h 0 step refl, each_low n steps (λ t other here. h (suc t) other here))

-- so are the steps of a worker's instructions
pub steps_are_low : (instrs : List Instr) (page : ℕ) (places : List Place) (trace : List Step) → ArePlaces instrs page places
    → AreSteps instrs places trace → AreLow (length instrs) trace
steps_are_low instrs page places trace are steps = each_low (length instrs) trace (λ t step here.
    let within = slice_get_within trace t step here in
    let many = steps.count in
    let found = slice_get-get_or instrs t no_instr (omega (arith, within, many)) in
    let its : IsStepOf places t (get_or instrs t no_instr) step = rw (found, here) at (steps.each t) in
    let few = its.ok.0 in
    let long = length-take step.count step.pages in (
      omega (arith, few, long),
      λ page need.
          let touched = (its.pages page).0 (Contains-from_any exact_unsigned_eq page (pages_of step) need) in
          let low = low_page instrs _ places are touched.0 (omega (arith, within, many)) in
          let same = touched.2 in
          omega (arith, low, same),
    ))
