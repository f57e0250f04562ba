-- The fault of the directives that are left, in the state of the tables, is that of all.
use Rattle.std.proofs.Common.{◌≡◌, drop}
use Rattle.mage_verify.specs.Faults.{fault_from}
use Rattle.mage_verify.specs.State.{opening}
use Rattle.mage_verify.specs.Tables.{AreKept, state_in}
use Rattle.mage_verify.proofs.verifying.check_part.Given as goal

abbrev pub invariant-loop-d : goal.invariant-loop-d
invariant-loop-d l = record {
  kept : AreKept l.limits.buffer l.swaps;
  rest : fault_from l.limits l.pages l.worker l.d (state_in l.swaps) (drop l.d l.directives) ≡ fault_from l.limits l.pages l.worker 0 opening l.directives;
}
