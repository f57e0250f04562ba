-- The reads so far, and then those of the rest, are all.
use Rattle.std.proofs.Common.{◌≡◌, ◌++◌, drop}
use Rattle.mage_sched.specs.Reads.{timed_from, timed_of}
use Rattle.mage_sched.proofs.Issues.{issue_before}
use Rattle.mage_sched.proofs.reads.timed_of.Given as goal

abbrev pub invariant-loop-i : goal.invariant-loop-i
invariant-loop-i l = record {
  issue : l.issue ≡ issue_before l.buffer l.ahead l.reads l.i;
  timed : l.timed.items ++ timed_from l.buffer l.ahead l.reads l.i (drop l.i l.reads) ≡ timed_of l.buffer l.ahead l.reads;
}
