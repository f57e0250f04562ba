-- The pages of a step, and the steps of a list.
use Rattle.std.proofs.Common.{◌≡◌, ◌≢◌, ◌<◌, ◌≤◌, ◌+◌, ◌-◌, ◌++◌, ◌∷◌, [], ◌⊎◌, ◌↔◌, ℕ, List, Bool, true, false, cond, Option, None, Some, IfSome, inl, inr, length, take, get_or, Contains, refl, sym, ap, ◌∙◌, arith, ⊎_elim, subst}
use Rattle.std.specs.List.{slice_get}
use Rattle.std.specs.List.Sorted.{IsStrictlyIncreasing}
use Rattle.std.proofs.lemmas.Bool.{cases_eq, cases_lt}
use Rattle.std.proofs.lemmas.List.{length-take, get_or-take, take_more}
use Rattle.std.proofs.lemmas.List.Elements.{Contains-append_left, Contains-append_right, Contains-append_cases}
use Rattle.std.proofs.lemmas.List.Kept.{AllPairs-from_increasing}
use Rattle.std.proofs.lemmas.Option.{slice_get_within}
use Rattle.mage_instr.specs.declared.instr.Instr.{Instr}
use Rattle.mage_instr.specs.declared.instr.Place.{Place}
use Rattle.mage_instr.specs.declared.instr.Step.{Step}
use Rattle.mage_instr.specs.Opcodes.{has_result}
use Rattle.mage_instr.specs.Sound.{IsSound}
use Rattle.mage_instr.specs.Trace.{IsStep, IsTrace}
use Rattle.mage_place.specs.Live.{args_of, values_touched_by}
use Rattle.mage_place.specs.Places.{place_of}
use Rattle.mage_place.specs.Steps.{IsStepOf, AreSteps}
use Rattle.mage_place.proofs.Members.{some_at}
use Rattle.mage_place.proofs.SoundFacts.{place_in_front, in_front, arg_below}

pub IfSome-each : {X : Type 0} (o : Option X) (P : X → Type 0) → ((x : X) → o ≡ Some x → P x) → IfSome o P
IfSome-each None P h = tt
IfSome-each (Some x) P h = h x refl

-- numbers of which the first n ascend
pub ascending_at : (xs : List ℕ) (n i j : ℕ) → IsStrictlyIncreasing (take n xs) → i < j → j < n → j < length xs → get_or xs i 0 < get_or xs j 0
ascending_at xs n i j inc less below inside =
    let inside_front : j < length (take n xs) = omega (arith, length-take n xs) in
    let h = AllPairs-from_increasing (take n xs) inc i j 0 less inside_front in
    let at_i = get_or-take n xs i 0 (omega arith) in let at_j = get_or-take n xs j 0 below in
    omega (arith, h, at_i, at_j)

-- xs with one number more at its place among the first n, which ascend
module _ (xs ys : List ℕ) (n at page : ℕ) (four : length xs ≡ 4) (four' : length ys ≡ 4) (room : n < 4) (within : at ≤ n) (inc : IsStrictlyIncreasing (take n xs))
    (below : (k : ℕ) → k < at → get_or xs k 0 < page) (above : (k : ℕ) → at ≤ k → k < n → page ≤ get_or xs k 0) (other : at < n → get_or xs at 0 ≢ page)
    (before : (k : ℕ) → k < at → get_or ys k 0 ≡ get_or xs k 0) (here : get_or ys at 0 ≡ page) (behind : (k : ℕ) → at ≤ k → k < n → get_or ys (k + 1) 0 ≡ get_or xs k 0) where
  strictly : (k : ℕ) → at ≤ k → k < n → page < get_or xs k 0
  strictly k l m = ⊎_elim same later (cases_eq k at) where
    same : k ≡ at → page < get_or xs k 0
    same e = let ne = other (omega (arith, e)) in let le = above at (omega arith) (omega (arith, e)) in rw e (omega (arith, ne, le))

    later : k ≢ at → page < get_or xs k 0
    later ne = let up = ascending_at xs n at k inc (omega (arith, ne)) m (omega (arith, four)) in let le = above at (omega arith) (omega arith) in omega (arith, up, le)

  raw : (k : ℕ) → k < n → get_or ys k 0 < get_or ys (k + 1) 0
  raw k h = ⊎_elim front back (cases_lt k at) where
    front : k < at → get_or ys k 0 < get_or ys (k + 1) 0
    front l = ⊎_elim
        (λ m. let up = ascending_at xs n k (k + 1) inc (omega arith) (omega arith) (omega (arith, four)) in let a = before k l in let b = before (k + 1) m in omega (arith, up, a, b))
        (λ m. let e : k + 1 ≡ at = omega arith in let b : get_or ys (k + 1) 0 ≡ page = rw e here in let a = before k l in let low = below k l in omega (arith, a, b, low))
        (cases_lt (k + 1) at)

    back : at ≤ k → get_or ys k 0 < get_or ys (k + 1) 0
    back l = ⊎_elim
        (λ e. let a : get_or ys k 0 ≡ page = rw e here in let b = behind k l h in let up = strictly k l h in omega (arith, a, b, up))
        (λ ne. let m : at ≤ k - 1 = omega (arith, ne) in let one : k - 1 + 1 ≡ k = omega (arith, ne) in
        let a : get_or ys k 0 ≡ get_or xs (k - 1) 0 = subst (λ x. get_or ys x 0 ≡ get_or xs (k - 1) 0) one (behind (k - 1) m (omega arith)) in
        let b = behind k l h in let up = ascending_at xs n (k - 1) k inc (omega (arith, one)) h (omega (arith, four)) in omega (arith, a, b, up))
        (cases_eq k at)

  pub increases : IsStrictlyIncreasing (take (n + 1) ys)
  increases k l =
      let inside : k + 1 < n + 1 = omega (arith, length-take (n + 1) ys) in
      let a = get_or-take (n + 1) ys k 0 (omega arith) in let b = get_or-take (n + 1) ys (k + 1) 0 inside in let up = raw k (omega arith) in
      omega (arith, a, b, up)

  pub members : (q : ℕ) → Contains (take (n + 1) ys) q ↔ (Contains (take n xs) q ⊎ (q ≡ page))
  members q = (to, from) where
    old : (k : ℕ) → k < n → get_or xs k 0 ≡ q → Contains (take n xs) q
    old k l e = subst (Contains (take n xs)) e (in_front xs n k l (omega (arith, four)))

    new : (k : ℕ) → k < n + 1 → get_or ys k 0 ≡ q → Contains (take (n + 1) ys) q
    new k l e = subst (Contains (take (n + 1) ys)) e (in_front ys (n + 1) k l (omega (arith, four')))

    to : Contains (take (n + 1) ys) q → Contains (take n xs) q ⊎ (q ≡ page)
    to h = by_place w.0 w.1 w.3 where
      w : (k : ℕ) × (k < n + 1) × (k < length ys) × (get_or ys k 0 ≡ q)
      w = place_in_front ys (n + 1) q h

      by_place : (k : ℕ) → k < n + 1 → get_or ys k 0 ≡ q → Contains (take n xs) q ⊎ (q ≡ page)
      by_place k l e = ⊎_elim (λ m. inl (old k (omega arith) (sym (before k m) ∙ e)))
          (λ m. ⊎_elim (λ is. inr (sym e ∙ rw is here))
          (λ ne. let one : k - 1 + 1 ≡ k = omega (arith, ne) in let m' : at ≤ k - 1 = omega (arith, ne) in
          inl (old (k - 1) (omega (arith, one)) (sym (behind (k - 1) m' (omega (arith, one))) ∙ ap (λ x. get_or ys x 0) one ∙ e)))
          (cases_eq k at)) (cases_lt k at)

    from : (Contains (take n xs) q ⊎ (q ≡ page)) → Contains (take (n + 1) ys) q
    from h = ⊎_elim was now h where
      was : Contains (take n xs) q → Contains (take (n + 1) ys) q
      was c = by_place w.0 w.1 w.3 where
        w : (k : ℕ) × (k < n) × (k < length xs) × (get_or xs k 0 ≡ q)
        w = place_in_front xs n q c

        by_place : (k : ℕ) → k < n → get_or xs k 0 ≡ q → Contains (take (n + 1) ys) q
        by_place k l e = ⊎_elim (λ m. new k (omega arith) (before k m ∙ e)) (λ m. new (k + 1) (omega arith) (behind k m l ∙ e)) (cases_lt k at)

      now : q ≡ page → Contains (take (n + 1) ys) q
      now e = new at (omega arith) (here ∙ sym e)

-- the pages of one value more
pub needs_more : (places : List Place) (values : List ℕ) (k q : ℕ) (A B : Type 0) → k < length values
    → A ↔ ((v : ℕ) × Contains (take k values) v × ((place_of places v).page ≡ q)) → B ↔ (A ⊎ (q ≡ (place_of places (get_or values k 0)).page))
    → B ↔ ((v : ℕ) × Contains (take (k + 1) values) v × ((place_of places v).page ≡ q))
needs_more places values k q A B h a b = (to, from) where
  more : take (k + 1) values ≡ take k values ++ get_or values k 0 ∷ []
  more = take_more values k 0 h

  to : B → (v : ℕ) × Contains (take (k + 1) values) v × ((place_of places v).page ≡ q)
  to x = ⊎_elim (λ y. let w = a.0 y in (w.0, rw more (Contains-append_left (take k values) (get_or values k 0 ∷ []) w.0 w.1), w.2))
      (λ e. (get_or values k 0, rw more (Contains-append_right (take k values) (get_or values k 0 ∷ []) (get_or values k 0) (0, omega arith, refl)), sym e)) (b.0 x)

  from : (v : ℕ) × Contains (take (k + 1) values) v × ((place_of places v).page ≡ q) → B
  from w = ⊎_elim (λ c. b.1 (inl (a.1 (w.0, c, w.2)))) (λ c. b.1 (inr (sym w.2 ∙ ap (λ x. (place_of places x).page) (only c)))) (Contains-append_cases (take k values) (get_or values k 0 ∷ []) w.0 (rw more at w.1)) where
    only : Contains (get_or values k 0 ∷ []) w.0 → w.0 ≡ get_or values k 0
    only c = let zeroth : c.0 ≡ 0 = omega (arith, c.1) in sym (subst (λ j. get_or (get_or values k 0 ∷ []) j w.0 ≡ w.0) zeroth c.2)

-- an instruction touches no later value
pub touched_below : (instrs : List Instr) (t v : ℕ) (i : Instr) → IsSound instrs → slice_get instrs t ≡ Some i → Contains (values_touched_by i t) v → v < t + 1
touched_below instrs t v i ok is among = ⊎_elim (λ c. let b = (arg_below instrs t v i ok is c).0 in omega (arith, b)) own (Contains-append_cases (args_of i) (cond (has_result i.op) (t ∷ []) []) v among) where
  by_case : (b : Bool) → Contains (cond b (t ∷ []) []) v → v < t + 1
  by_case true c = let zeroth : c.0 ≡ 0 = omega (arith, c.1) in let e : t ≡ v = subst (λ k. get_or (t ∷ []) k v ≡ v) zeroth c.2 in omega (arith, e)
  by_case false c = absurd (omega (arith, c.1))

  own : Contains (cond (has_result i.op) (t ∷ []) []) v → v < t + 1
  own c = by_case (has_result i.op) c

pub AreSteps-from : (instrs : List Instr) (places : List Place) (trace : List Step) → length trace ≡ length instrs
    → ((s : ℕ) (i : Instr) (step : Step) → s < length instrs → slice_get instrs s ≡ Some i → slice_get trace s ≡ Some step → IsStepOf places s i step) → AreSteps instrs places trace
AreSteps-from instrs places trace count each = record {
  count = count;
  each = λ s. IfSome-each (slice_get instrs s) _ (λ i at. IfSome-each (slice_get trace s) _ (λ step here. each s i step (slice_get_within instrs s i at) at here));
}

pub IsTrace-from_steps : (instrs : List Instr) (places : List Place) (trace : List Step) → IsSound instrs → AreSteps instrs places trace → IsTrace trace
IsTrace-from_steps instrs places trace ok steps = record {
  count = omega (arith, ok.count, steps.count);
  each = λ s. IfSome-each (slice_get trace s) IsStep (at_step s);
} where
  at_step : (s : ℕ) (step : Step) → slice_get trace s ≡ Some step → IsStep step
  at_step s step here =
      let within = slice_get_within trace s step here in
      let i = some_at instrs s (omega (arith, within, steps.count)) in
      let fact : IsStepOf places s i.0 step = rw (i.1, here) at (steps.each s) in
      fact.ok
