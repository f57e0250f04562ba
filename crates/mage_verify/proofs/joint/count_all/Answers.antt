use Rattle.std.proofs.Common.{arith}
use Rattle.mage_verify.specs.Joint.{count_all}
use Rattle.mage_verify.proofs.Together.{count_next, few_at}
use Rattle.mage_verify.proofs.joint.count_all.Goals as goal

pub loop-directives-preserved : goal.loop-directives-preserved
loop-directives-preserved c =
    let few = few_at c.args.workers.now c.loop-directives.directives-index c.directives-item.result c.requires.parts c.loop-directives-test.true c.directives-item.is in
    let len = c.len.ensures in
    let small = c.loop-directives.invariant.small in record {
      sum = rw c.len.ensures (count_next c.args.workers.now c.loop-directives.directives-index c.loop-directives.count (count_all c.args.workers.now)
          c.directives-item.result c.loop-directives-test.true c.directives-item.is c.loop-directives.invariant.sum);
      small = omega (arith, few, len, small);
    }
