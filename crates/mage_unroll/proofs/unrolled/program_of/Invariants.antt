use Rattle.std.proofs.Common.{◌≡◌, map}
use Rattle.mage_linked.specs.Emission.{own_instrs}
use Rattle.mage_linked.specs.Workers.{below}
use Rattle.mage_unroll.proofs.unrolled.program_of.Given as goal

abbrev pub invariant-loop-worker : goal.invariant-loop-worker
invariant-loop-worker l = l.lists ≡ map (own_instrs l.emitted) (below l.worker)
