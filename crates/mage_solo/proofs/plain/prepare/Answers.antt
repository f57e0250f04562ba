use Rattle.std.proofs.Common.{rules, ◌≡◌, ◌++◌, ◌∷◌, [], ◌∙◌}
use Rattle.mage_solo.proofs.Preparing.{one_more}
use Rattle.mage_solo.proofs.plain.prepare.Goals as goal

pub loop-worker-preserved : goal.loop-worker-preserved
loop-worker-preserved c =
    let i = c.loop-worker.invariant in
    let pushed : c.push.new.self.items ≡ c.loop-worker.drivers.items ++ c.in_ok-driver_for.field-0 ∷ [] = search rules in
    record {
      made = one_more c.args.parts.now c.loop-worker.garbler.items c.loop-worker.evaluator.items c.loop-worker.worker c.loop-worker.drivers.items
          c.push.new.self.items c.in_ok-driver_for.field-0 c.index-parts-worker.result c.index_mut.result.now c.index_mut-in-loop-worker.result.now
          c.driver_for.new.garbler c.driver_for.new.evaluator c.loop-worker-test.true i.garbler i.evaluator c.index-parts-worker.is
          c.index_mut.ensures.value c.index_mut-in-loop-worker.ensures.value c.in_ok-driver_for.ensures pushed ∙ i.made;
      garbler = search rules;
      evaluator = search rules;
    }
