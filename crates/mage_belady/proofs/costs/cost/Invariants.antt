-- The sets so far have no fault, and their reads and those of the rest are the reads of all.
use Rattle.std.proofs.Common.{◌≡◌, ◌≤◌, ◌+◌, ◌*◌, ℕ, drop, nat_eq, length}
use Rattle.std.specs.HashSet.{contains}
use Rattle.mage_belady.specs.Plan.{is_in, reads_from, reads_of}
use Rattle.mage_belady.specs.Rule.{pages_by_step}
use Rattle.mage_belady.specs.Cost.{fault_from, sets_in}
use Rattle.mage_belady.proofs.Scans.{touched}
use Rattle.mage_belady.proofs.costs.cost.Given as goal

abbrev pub invariant-loop-t : goal.invariant-loop-t
invariant-loop-t l = record {
  same : length l.plan ≡ length l.trace;
  seen : (page : ℕ) → contains nat_eq l.seen page ≡ is_in page (touched l.t l.trace);
  fine : fault_from l.frames l.t (sets_in (drop l.t l.plan)) (pages_by_step (drop l.t l.trace))
      ≡ fault_from l.frames 0 (sets_in l.plan) (pages_by_step l.trace);
  counted : l.reads + reads_from (touched l.t l.trace) l.before (sets_in (drop l.t l.plan))
      (pages_by_step (drop l.t l.trace)) ≡ reads_of (sets_in l.plan) (pages_by_step l.trace);
  bound : l.reads ≤ l.t * 4294967295;
}
