use Rattle.std.proofs.Common.{◌≡◌, ◌<◌, ◌↔◌, ℕ, length, get_or, take, Contains, arith, ap, ◌∙◌, subst}
use Rattle.mage_instr.specs.Trace.{pages_of}
use Rattle.mage_place.specs.Live.{values_touched_by}
use Rattle.mage_place.specs.Places.{place_of}
use Rattle.mage_place.specs.Placing.{step_for}
use Rattle.mage_place.proofs.SoundFacts.{in_front}
use Rattle.mage_place.proofs.Stepped.{needs_more}
use Rattle.mage_place.proofs.StepsComputed.{one_step, length-step_for, IsStepOf-computed}
use Rattle.mage_place.proofs.steps.step_of.Goals as goal

pub bounds-places-touched : goal.bounds-places-touched
bounds-places-touched c =
    let touched = c.touched_values-touched.result in
    let inside : c.loop-k.k < length touched.values = omega (arith, c.touched_values-touched.ensures.four) in
    let among : Contains (values_touched_by c.args.instr c.args.t) (get_or touched.values c.loop-k.k 0) = rw (← c.touched_values-touched.ensures.values) (in_front touched.values touched.count c.loop-k.k (omega arith) inside) in
    c.requires _ among

pub loop-k-preserved : goal.loop-k-preserved
loop-k-preserved c =
    let values = c.touched_values-touched.result.values in
    let inside : c.loop-k.k < length values = omega (arith, c.touched_values-touched.ensures.four) in
    let e = c.with_page-step.ensures in
    record {
      four = e.four;
      ok = e.ok;
      padded = e.padded;
      count = omega (arith, e.count, c.loop-k.invariant.count);
      pages = λ q. needs_more c.args.places.now values c.loop-k.k q (Contains (pages_of c.loop-k.step) q) (Contains (pages_of c.with_page-step.result) q) inside (c.loop-k.invariant.pages q) (e.pages q);
    }

pub returns-clause-step : goal.returns-clause-step
returns-clause-step c =
    let values = c.touched_values-touched.result.values in
    let whole : c.loop-k.k ≡ c.touched_values-touched.result.count = omega arith in
    let all : take c.loop-k.k values ≡ values_touched_by c.args.instr c.args.t = ap (λ n. take n values) whole ∙ c.touched_values-touched.ensures.values in
    record {
      ok = c.loop-k.invariant.ok;
      pages = subst (λ xs. (q : ℕ) → Contains (pages_of c.loop-k.step) q ↔ ((v : ℕ) × Contains xs v × ((place_of c.args.places.now v).page ≡ q))) all c.loop-k.invariant.pages;
      padded = c.loop-k.invariant.padded;
    }

pub returns-clause-computed : goal.returns-clause-computed
returns-clause-computed c =
    let places = c.args.places.now in let t = c.args.t in let i = c.args.instr in
    one_step places t i c.loop-k.step (step_for places t i) c.loop-k.invariant.four (length-step_for places t i) (returns-clause-step c) (IsStepOf-computed places t i c.requires)
