-- The run so far leads to what the whole leads to.
use Rattle.std.proofs.Common.{◌≡◌, length}
use Rattle.mage_verify.specs.Joint.{lists_at}
use Rattle.mage_verify.specs.Turns.{done_in}
use Rattle.mage_verify.proofs.Together.{IsRun}
use Rattle.mage_verify.proofs.joint.run.Given as goal

abbrev pub invariant-loop : goal.invariant-loop
invariant-loop l = record {
  counted : length l.done ≡ length l.workers;
  run : IsRun (lists_at l.workers) (length l.workers) l.turns l.counter (done_in l.initial.done) (done_in l.done) l.lowest;
}
