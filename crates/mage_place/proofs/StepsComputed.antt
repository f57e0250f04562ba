-- The steps that the definition computes are those of the instructions, and no others are.
use Rattle.std.proofs.Common.{◌≡◌, ◌<◌, ◌≤◌, ◌+◌, ◌-◌, ◌∷◌, [], ℕ, List, map, replicate, Bool, true, false, cond, eqb, Some, length, get_or, Contains, refl, sym, ap, ◌∙◌, arith, ⊎_elim, subst}
use Rattle.std.specs.List.{slice_get, list_any, enumerate_from}
use Rattle.std.specs.List.Sorted.{IsStrictlyIncreasing}
use Rattle.std.proofs.lemmas.Bool.{cases_lt, eqb-true, eq-eqb}
use Rattle.std.proofs.lemmas.List.{length-append, length-take, length-map, length-replicate, get_or-map, get_or-take, get_or-replicate, get_or-append_right, ext_get_or}
use Rattle.std.proofs.lemmas.List.FromFn.{length-enumerate_from, get_or-enumerate_from}
use Rattle.std.proofs.lemmas.List.Kept.{IsStrictlyIncreasing-filter}
use Rattle.std.proofs.lemmas.Option.{get_or_from_slice_get}
use Rattle.std.proofs.Math.Seq.{take-append_seam}
use Rattle.mage_instr.specs.declared.instr.Instr.{Instr}
use Rattle.mage_instr.specs.declared.instr.Place.{Place}
use Rattle.mage_instr.specs.declared.instr.Step.{Step}
use Rattle.mage_instr.specs.declared.op.Op.{Op}
use Rattle.mage_instr.specs.declared.op.Op.TheVariants as variants
use Rattle.mage_instr.specs.Opcodes.{arity_of, has_result}
use Rattle.mage_instr.specs.Sound.{IsSound}
use Rattle.mage_instr.specs.Trace.{pages_of}
use Rattle.mage_place.specs.Live.{args_of, values_touched_by}
use Rattle.mage_place.specs.Places.{place_of, next_page}
use Rattle.mage_place.specs.Steps.{Needs, IsPadded, IsStepOf, AreSteps}
use Rattle.mage_place.specs.Placing.{below, needed_pages, step_for, trace_of}
use Rattle.mage_place.proofs.Ascending.{in_map, in_filter, from_filter, below_ascends, one_ascending, no_more}
use Rattle.mage_place.proofs.Below.{below_has}
use Rattle.mage_place.proofs.Members.{any_found, any_finds}
use Rattle.mage_place.proofs.PlacesComputed.{page_below}
use Rattle.mage_place.proofs.SoundFacts.{no_instr}
use Rattle.mage_place.proofs.Stepped.{touched_below, AreSteps-from}

at_most_three : (o : Op) → arity_of o ≤ 3
at_most_three variants.Mux = omega arith
at_most_three _ = omega arith

at_most_one : (b : Bool) (t : ℕ) → length (cond b (t ∷ []) []) ≤ 1
at_most_one true t = omega arith
at_most_one false t = omega arith

touched_four : (i : Instr) (t : ℕ) → length (values_touched_by i t) ≤ 4
touched_four i t = omega (arith, length-append (args_of i) (cond (has_result i.op) (t ∷ []) []), length-take (arity_of i.op) i.args, at_most_three i.op, at_most_one (has_result i.op) t)

-- ---- the step of one instruction
module _ (places : List Place) (t : ℕ) (i : Instr) where
  needs_from : (q : ℕ) → Contains (needed_pages places t i) q → Needs places t i q
  needs_from q c =
      let test = from_filter (λ q. list_any (λ v. eqb (place_of places v).page q) (values_touched_by i t)) (below (next_page places)) q c in
      let w = any_found (λ v. eqb (place_of places v).page q) (values_touched_by i t) test.1 in
      (w.0, w.1, eqb-true (place_of places w.0).page q w.2)

  from_needs : ((v : ℕ) → Contains (values_touched_by i t) v → v < length places) → (q : ℕ) → Needs places t i q → Contains (needed_pages places t i) q
  from_needs known q w =
      let within : q < next_page places = subst (λ r. r < next_page places) w.2 (page_below places w.0 (known w.0 w.1)) in
      in_filter (λ q. list_any (λ v. eqb (place_of places v).page q) (values_touched_by i t)) (below (next_page places)) q (below_has (next_page places) q within)
      (any_finds (λ v. eqb (place_of places v).page q) (values_touched_by i t) w.0 w.1 (eq-eqb (place_of places w.0).page q w.2))

  ascends : IsStrictlyIncreasing (needed_pages places t i)
  ascends = IsStrictlyIncreasing-filter (λ q. list_any (λ v. eqb (place_of places v).page q) (values_touched_by i t)) (below (next_page places)) (below_ascends (next_page places))

  four : length (needed_pages places t i) ≤ 4
  four =
      let page = λ (v : ℕ). (place_of places v).page in
      let values = values_touched_by i t in
      let fewer = no_more (needed_pages places t i) (map page values) ascends (λ q c. let w = needs_from q c in subst (Contains (map page values)) w.2 (in_map page values w.0 w.1)) in
      omega (arith, fewer, length-map values page, touched_four i t)

  pub length-step_for : length (step_for places t i).pages ≡ 4
  length-step_for = omega (arith, four, length-append (needed_pages places t i) (replicate (4 - length (needed_pages places t i)) 0), length-replicate {A = ℕ} (4 - length (needed_pages places t i)) 0)

  front : pages_of (step_for places t i) ≡ needed_pages places t i
  front = take-append_seam (needed_pages places t i) (replicate (4 - length (needed_pages places t i)) 0)

  padded : IsPadded (step_for places t i)
  padded k l m =
      let pages = needed_pages places t i in
      get_or-append_right pages (replicate (4 - length pages) 0) (length pages) k 0 refl l
      ∙ get_or-replicate (4 - length pages) (k - length pages) 0 0 (omega (arith, l, m))

  pub IsStepOf-computed : ((v : ℕ) → Contains (values_touched_by i t) v → v < length places) → IsStepOf places t i (step_for places t i)
  IsStepOf-computed known = record {
    ok = (four, subst IsStrictlyIncreasing (sym front) ascends);
    pages = λ q. (λ c. needs_from q (subst (λ xs. Contains xs q) front c), λ w. subst (λ xs. Contains xs q) (sym front) (from_needs known q w));
    padded = padded;
  }

  same_step : (x y : Step) → x.pages ≡ y.pages → x.count ≡ y.count → x ≡ y
  same_step x y pages count = ap with_pages pages ∙ ap with_count count where
    with_pages : List ℕ → Step
    with_pages qs = record { pages = qs; count = x.count }

    with_count : ℕ → Step
    with_count n = record { pages = y.pages; count = n }

  -- one step has the pages that the instruction needs
  pub one_step : (x y : Step) → length x.pages ≡ 4 → length y.pages ≡ 4 → IsStepOf places t i x → IsStepOf places t i y → x ≡ y
  one_step x y x_four y_four f g = same_step x y (ext_get_or 0 x.pages y.pages (x_four ∙ sym y_four) each) count where
    same : pages_of x ≡ pages_of y
    same = one_ascending (pages_of x) (pages_of y) f.ok.1 g.ok.1 (λ q c. (g.pages q).1 ((f.pages q).0 c)) (λ q c. (f.pages q).1 ((g.pages q).0 c))

    count : x.count ≡ y.count
    count = omega (arith, ap length same, length-take x.count x.pages, length-take y.count y.pages, x_four, y_four, f.ok.0, g.ok.0)

    each : (k : ℕ) → k < length x.pages → get_or x.pages k 0 ≡ get_or y.pages k 0
    each k h = ⊎_elim
        (λ l. sym (get_or-take x.count x.pages k 0 l) ∙ ap (λ xs. get_or xs k 0) same ∙ get_or-take y.count y.pages k 0 (omega (arith, l, count)))
        (λ m. f.padded k m (omega (arith, h, x_four)) ∙ sym (g.padded k (omega (arith, m, count)) (omega (arith, h, x_four))))
        (cases_lt k x.count)

-- ---- all steps
module _ (instrs : List Instr) (places : List Place) where
  pub length-trace_of : length (trace_of instrs places) ≡ length instrs
  unfolding trace_of
  length-trace_of = length-map (enumerate_from 0 instrs) (λ p. step_for places p.0 p.1) ∙ length-enumerate_from 0 instrs

  pub trace_at : (t : ℕ) (d : Step) → t < length instrs → get_or (trace_of instrs places) t d ≡ step_for places t (get_or instrs t no_instr)
  unfolding trace_of
  trace_at t d h =
      let listed = length-enumerate_from 0 instrs in
      let pair = get_or-enumerate_from 0 instrs t (0, no_instr) h in
      let zeroth : 0 + t ≡ t = omega arith in
      get_or-map (λ p. step_for places p.0 p.1) (enumerate_from 0 instrs) t (0, no_instr) d (omega (arith, listed, h))
      ∙ ap (λ p. step_for places p.0 p.1) pair
      ∙ ap (λ n. step_for places n (get_or instrs t no_instr)) zeroth

  pub AreSteps-computed : IsSound instrs → length places ≡ length instrs → AreSteps instrs places (trace_of instrs places)
  AreSteps-computed ok count = AreSteps-from instrs places (trace_of instrs places) length-trace_of each where
    each : (s : ℕ) (i : Instr) (step : Step) → s < length instrs → slice_get instrs s ≡ Some i → slice_get (trace_of instrs places) s ≡ Some step → IsStepOf places s i step
    each s i step h at here =
        let i_is = get_or_from_slice_get instrs s i no_instr at in
        let is : step_for places s i ≡ step = ap (step_for places s) (sym i_is) ∙ sym (trace_at s step h) ∙ get_or_from_slice_get (trace_of instrs places) s step step here in
        subst (IsStepOf places s i) is (IsStepOf-computed places s i (λ v among. let below = touched_below instrs s v i ok at among in omega (arith, below, h, count)))
