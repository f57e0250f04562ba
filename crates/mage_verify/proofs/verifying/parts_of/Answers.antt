use Rattle.std.proofs.Common.{rules, ◌≡◌, [], ◌∷◌, ◌++◌, arith}
use Rattle.mage_verify.specs.Parts.{part_of}
use Rattle.mage_verify.proofs.Walked.{first_safe, left_moved, part_moved}
use Rattle.mage_verify.proofs.verifying.parts_of.Goals as goal

pub remove-directives-requires : goal.remove-directives-requires
remove-directives-requires c = let left = c.loop-worker.invariant.left in omega (arith, left)

pub from_fields-requires-clause-safe : goal.from_fields-requires-clause-safe
from_fields-requires-clause-safe c =
    let both = first_safe c.args.limits c.args.stores.now c.loop-worker.worker c.loop-worker.workers c.remove-directives.result c.remove-directives.ensures.item c.loop-worker.invariant.safe in
    both.0

pub loop-worker-preserved : goal.loop-worker-preserved
loop-worker-preserved c =
    let both = first_safe c.args.limits c.args.stores.now c.loop-worker.worker c.loop-worker.workers c.remove-directives.result c.remove-directives.ensures.item c.loop-worker.invariant.safe in
    let pushed : c.push.new.self.items ≡ c.loop-worker.parts.items ++ part_of c.args.limits c.args.stores.now c.loop-worker.worker c.remove-directives.result ∷ [] = search rules in
    record {
      left = rw c.remove-directives.ensures.rest (left_moved c.args.limits c.args.stores.now c.loop-worker.worker c.loop-worker.workers c.remove-directives.result c.remove-directives.ensures.item _ c.loop-worker.invariant.left);
      safe = rw c.remove-directives.ensures.rest both.1;
      whole = rw (c.remove-directives.ensures.rest, pushed)
          (part_moved c.args.limits c.args.stores.now c.loop-worker.worker c.loop-worker.workers c.remove-directives.result c.remove-directives.ensures.item c.loop-worker.parts.items _ c.loop-worker.invariant.whole);
    }
