use Rattle.std.proofs.Common.{rules, ◌≡◌, ◌<◌, length, length-set, ◌∙◌, arith}
use Rattle.mage_instr.specs.Trace.{pages_of}
use Rattle.mage_belady.proofs.Walking.{part, Under-more, IsServed-under}
use Rattle.mage_belady.proofs.paging.Paging.bring_missing.Goals as goal

pub loop-k-preserved : goal.loop-k-preserved
loop-k-preserved g c =
    let four : length c.args.step.pages ≡ 4 = search rules in
    let k = c.loop-k.k in
    let kept = c.loop-k.invariant in
    let slots = kept.four in
    let below : c.loop-k.k < c.args.step.count =
    omega (arith, c.loop-k-test.true, c.from-k-end.ensures) in
    let one = c.in_ok-at.ensures.counted in
    let few = c.requires.step.0 in
    record {
      counted = (let was = kept.counted in omega (arith, one, was));
      four = length-set c.loop-k.at c.loop-k.k c.in_ok-at.field-0 ∙ slots;
      under = λ m first found.
          let so_far = kept.under m first found in
          let now = c.in_ok-at.ensures.brings
          (part c.args.frames (pages_of c.args.step) _ m) so_far.kept
          (so_far.left c.loop-k.k (omega arith) below) in
          Under-more c.args.frames c.args.step m c.args.self.now c.args.found c.requires.few
          c.requires.step
          (omega (arith, four, few)) c.loop-k.k below c.loop-k.self c.visit.new.self c.loop-k.at
          c.in_ok-at.field-0 (omega (arith, slots, below, few)) so_far now;
    }

pub returns-clause-served : goal.returns-clause-served
returns-clause-served g c =
    let four : length c.args.step.pages ≡ 4 = search rules in
    let few = c.requires.step.0 in
    let all : c.loop-k.k ≡ c.args.step.count = search rules in
    λ m first found. IsServed-under c.args.frames c.args.step m c.args.self.now c.args.found
    c.requires.few c.requires.step
    (omega (arith, four, few)) c.loop-k.self c.loop-k.at c.loop-k.k all first
    (c.loop-k.invariant.under m first found)
