-- The parts so far in front of those of the workers that are left are those of all.
use Rattle.std.proofs.Common.{◌≡◌, ◌+◌, ◌++◌, length}
use Rattle.mage_verify.specs.Parts.{parts_from}
use Rattle.mage_verify.specs.Runs.{AreSafe}
use Rattle.mage_verify.proofs.verifying.parts_of.Given as goal

abbrev pub invariant-loop-worker : goal.invariant-loop-worker
invariant-loop-worker l = record {
  left : l.worker + length l.workers ≡ length l.fn.workers;
  safe : AreSafe (parts_from l.limits l.stores l.worker l.workers);
  whole : l.parts.items ++ parts_from l.limits l.stores l.worker l.workers ≡ parts_from l.limits l.stores 0 l.fn.workers;
}
