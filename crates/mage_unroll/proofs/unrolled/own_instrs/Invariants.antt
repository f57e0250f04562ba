use Rattle.std.proofs.Common.{◌≡◌, ◌++◌, drop}
use Rattle.mage_linked.specs.Emission.{own_instrs}
use Rattle.mage_unroll.proofs.unrolled.own_instrs.Given as goal

abbrev pub invariant-loop-entry : goal.invariant-loop-entry
invariant-loop-entry l = l.instrs ++ own_instrs (drop l.entry-index l.emitted) l.worker ≡ own_instrs l.emitted l.worker
