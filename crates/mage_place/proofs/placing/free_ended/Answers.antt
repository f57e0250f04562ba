use Rattle.std.proofs.Common.{◌<◌, length, get_or, Contains, arith, ◌∙◌}
use Rattle.mage_place.specs.Live.{values_touched_by}
use Rattle.mage_place.specs.Places.{place_of}
use Rattle.mage_place.proofs.SoundFacts.{in_front}
use Rattle.mage_place.proofs.Ended.{IsOn-moved, FreesEnded-ends, FreesEnded-stays}
use Rattle.mage_place.proofs.placing.free_ended.Goals as goal
use Rattle.mage_place.proofs.placing.free_ended.Goals.{then-last-value+in_ok-free, else-last-value}

pub bounds-last-value : goal.bounds-last-value
bounds-last-value c =
    let touched = c.touched_values-touched.result in
    let inside : c.loop-k.k < length touched.values = omega (arith, c.touched_values-touched.ensures.four) in
    let among : Contains (values_touched_by c.args.instr c.args.t) (get_or touched.values c.loop-k.k 0) = rw (← c.touched_values-touched.ensures.values) (in_front touched.values touched.count c.loop-k.k (omega arith) inside) in
    (c.requires.values _ among).1

pub bounds-places-value : goal.bounds-places-value
bounds-places-value c =
    let touched = c.touched_values-touched.result in
    let inside : c.loop-k.k < length touched.values = omega (arith, c.touched_values-touched.ensures.four) in
    let among : Contains (values_touched_by c.args.instr c.args.t) (get_or touched.values c.loop-k.k 0) = rw (← c.touched_values-touched.ensures.values) (in_front touched.values touched.count c.loop-k.k (omega arith) inside) in
    (c.requires.values _ among).0

pub free-requires-clause-place : goal.free-requires-clause-place
free-requires-clause-place c =
    let touched = c.touched_values-touched.result in
    let inside : c.loop-k.k < length touched.values = omega (arith, c.touched_values-touched.ensures.four) in
    let among : Contains (values_touched_by c.args.instr c.args.t) (get_or touched.values c.loop-k.k 0) = rw (← c.touched_values-touched.ensures.values) (in_front touched.values touched.count c.loop-k.k (omega arith) inside) in
    let fact = c.requires.values _ among in
    IsOn-moved c.args.pool.now.pages.items c.loop-k.pool.pages.items (place_of c.args.places.now (get_or touched.values c.loop-k.k 0)) c.loop-k.invariant.freed.count c.loop-k.invariant.freed.classes fact.2

pub loop-k-preserved : goal.loop-k-preserved
loop-k-preserved c =
    let touched = c.touched_values-touched.result in
    let inside : c.loop-k.k < length touched.values = omega (arith, c.touched_values-touched.ensures.four) in
    let among : Contains (values_touched_by c.args.instr c.args.t) (get_or touched.values c.loop-k.k 0) = rw (← c.touched_values-touched.ensures.values) (in_front touched.values touched.count c.loop-k.k (omega arith) inside) in
    let values = touched.values in let k = c.loop-k.k in let old = c.args.pool.now in
    let fact = c.requires.values _ among in let kept = c.loop-k.invariant in
    elim c.if-last-value.branch [
      | then-last-value+in_ok-free w ↦ record {
        pool = rw w.pool-is w.in_ok-free.ensures.pool;
        wires = rw w.pool-is (w.in_ok-free.ensures.wires ∙ kept.wires);
        freed = rw w.pool-is (FreesEnded-ends old.pages.items c.loop-k.pool.pages.items c.args.places.now c.args.last.now c.args.t values k inside kept.freed w.free.new.pool.pages.items w.if-last-value.true w.in_ok-free.ensures.freed);
      }
      | else-last-value w ↦ record {
        pool = rw w.pool-is kept.pool;
        wires = rw w.pool-is kept.wires;
        freed = rw w.pool-is (FreesEnded-stays old.pages.items c.loop-k.pool.pages.items c.args.places.now c.args.last.now c.args.t values k inside kept.freed w.if-last-value.false);
      }
    ]
