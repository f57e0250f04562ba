-- The fault of the workers that are left is that of all.
use Rattle.std.proofs.Common.{◌≡◌, drop}
use Rattle.mage_verify.specs.Faults.{own_fault, lowest}
use Rattle.mage_verify.specs.Parts.{parts_from}
use Rattle.mage_verify.proofs.verifying.check_parts.Given as goal

abbrev pub invariant-loop-worker : goal.invariant-loop-worker
invariant-loop-worker l = lowest own_fault (parts_from l.limits l.stores l.worker (drop l.worker l.workers)) ≡ lowest own_fault (parts_from l.limits l.stores 0 l.workers)
