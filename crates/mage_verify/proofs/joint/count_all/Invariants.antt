-- Those so far and those that are left are all, and each worker has few.
use Rattle.std.proofs.Common.{◌≡◌, ◌≤◌, ◌+◌, ◌*◌, drop}
use Rattle.mage_verify.specs.Joint.{count_all}
use Rattle.mage_verify.proofs.joint.count_all.Given as goal

abbrev pub invariant-loop-directives : goal.invariant-loop-directives
invariant-loop-directives l = record {
  sum : l.count + count_all (drop l.directives-index l.workers) ≡ count_all l.workers;
  small : l.count ≤ l.directives-index * 4294967296;
}
