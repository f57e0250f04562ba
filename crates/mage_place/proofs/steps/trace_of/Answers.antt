use Rattle.std.proofs.Common.{◌≡◌, ◌≢◌, ◌<◌, ◌≤◌, ◌+◌, ◌++◌, ◌∷◌, [], ℕ, List, Some, length, take, get_or, arith, sym, ap, ◌∙◌, ⊎_elim, subst}
use Rattle.std.specs.List.{slice_get}
use Rattle.std.proofs.lemmas.Bool.{cases_eq}
use Rattle.std.proofs.lemmas.List.{length_push, take_all, take_more}
use Rattle.std.proofs.lemmas.Option.{slice_get-get_or}
use Rattle.mage_instr.specs.declared.instr.Instr.{Instr}
use Rattle.mage_instr.specs.declared.instr.Place.{Place}
use Rattle.mage_instr.specs.declared.instr.Step.{Step}
use Rattle.mage_place.specs.Placing.{step_for, trace_of}
use Rattle.mage_place.specs.Steps.{IsStepOf}
use Rattle.mage_place.proofs.At.{slice_get-push_same, slice_get-push_left}
use Rattle.mage_place.proofs.SoundFacts.{no_instr}
use Rattle.mage_place.proofs.Stepped.{touched_below, AreSteps-from}
use Rattle.mage_place.proofs.StepsComputed.{length-trace_of, trace_at}
use Rattle.mage_place.proofs.steps.trace_of.Goals as goal

some_same : {X : Type 0} {x y : X} → Some x ≡ Some y → x ≡ y
some_same e = cc

each_more : (instrs : List Instr) (places : List Place) (trace : List Step) (t : ℕ) (now : Step) (i : Instr) → slice_get instrs t ≡ Some i → length trace ≡ t → IsStepOf places t i now
    → ((s : ℕ) (j : Instr) (step : Step) → s < t → slice_get instrs s ≡ Some j → slice_get trace s ≡ Some step → IsStepOf places s j step)
    → (s : ℕ) (j : Instr) (step : Step) → s < t + 1 → slice_get instrs s ≡ Some j → slice_get (trace ++ now ∷ []) s ≡ Some step → IsStepOf places s j step
each_more instrs places trace t now i is count new was s j step h at here = ⊎_elim same before (cases_eq s t) where
  same : s ≡ t → IsStepOf places s j step
  same e =
      let instr : i ≡ j = some_same (sym is ∙ subst (λ x. slice_get instrs x ≡ Some j) e at) in
      let last : s ≡ length trace = e ∙ sym count in
      let value : now ≡ step = some_same (sym (slice_get-push_same trace now) ∙ subst (λ x. slice_get (trace ++ now ∷ []) x ≡ Some step) last here) in
      rw (e, ← instr, ← value) new

  before : s ≢ t → IsStepOf places s j step
  before ne = let less : s < t = omega arith in was s j step less at (sym (slice_get-push_left trace now s (omega (arith, count, less))) ∙ here)

traced_more : (instrs : List Instr) (places : List Place) (trace : List Step) (t : ℕ) (now : Step) → t < length instrs → now ≡ step_for places t (get_or instrs t no_instr) → trace ≡ take t (trace_of instrs places) → trace ++ now ∷ [] ≡ take (t + 1) (trace_of instrs places)
traced_more instrs places trace t now h is was =
    let inside : t < length (trace_of instrs places) = omega (arith, length-trace_of instrs places, h) in
    ap (λ xs. xs ++ now ∷ []) was ∙ ap (λ step. take t (trace_of instrs places) ++ step ∷ []) (is ∙ sym (trace_at instrs places t now h)) ∙ sym (take_more (trace_of instrs places) t now inside)

pub step_of-requires : goal.step_of-requires
step_of-requires c =
    let t = c.loop-t.t in let instrs = c.args.instrs.now in
    let is = slice_get-get_or instrs t no_instr (omega arith) in
    λ v among. let below = touched_below instrs t v (get_or instrs t no_instr) c.requires.sound is among in omega (arith, below, c.requires.count)

pub loop-t-preserved : goal.loop-t-preserved
loop-t-preserved c =
    let t = c.loop-t.t in let instrs = c.args.instrs.now in
    let is = slice_get-get_or instrs t no_instr (omega arith) in
    rw c.in_ok-push.ensures.items (record {
      count = length_push c.loop-t.trace.items c.step_of.result ∙ ap (λ n. n + 1) c.loop-t.invariant.count;
      traced = traced_more instrs c.args.places.now c.loop-t.trace.items t c.step_of.result (omega arith) c.step_of.ensures.computed c.loop-t.invariant.traced;
      each = each_more instrs c.args.places.now c.loop-t.trace.items t c.step_of.result (get_or instrs t no_instr) is c.loop-t.invariant.count c.step_of.ensures.step c.loop-t.invariant.each;
    })

pub returns-clause-steps : goal.returns-clause-steps
returns-clause-steps c =
    let whole : c.loop-t.t ≡ length c.args.instrs.now = omega arith in
    AreSteps-from c.args.instrs.now c.args.places.now c.loop-t.trace.items (c.loop-t.invariant.count ∙ whole) (λ s i step h at here. c.loop-t.invariant.each s i step (omega (arith, whole, h)) at here)

pub returns-clause-traced : goal.returns-clause-traced
returns-clause-traced c =
    let instrs = c.args.instrs.now in let places = c.args.places.now in
    let whole : length (trace_of instrs places) ≤ c.loop-t.t = omega (arith, length-trace_of instrs places) in
    c.loop-t.invariant.traced ∙ take_all c.loop-t.t (trace_of instrs places) whole
