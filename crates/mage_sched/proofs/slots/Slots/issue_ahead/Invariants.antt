-- What was emitted, and then what the rest of the reads give, is what all reads give.
use Rattle.std.proofs.Common.{◌≡◌, ◌≤◌, ◌+◌, ◌++◌, length}
use Rattle.mage_sched.specs.Schedule.{issued_ahead}
use Rattle.mage_sched.specs.Slots.{all_done}
use Rattle.mage_sched.specs.Views.{buffer_of, AreBefore}
use Rattle.mage_sched.proofs.Ahead.{ahead_from}
use Rattle.mage_sched.proofs.slots.Slots.issue_ahead.Given as goal

abbrev pub invariant-loop-k : goal.invariant-loop-k
invariant-loop-k l = record {
  count : length l.self.table.items ≡ length l.initial.self.table.items;
  list : l.self.list.items ++ (all_done (ahead_from l.reads l.gap l.k) (buffer_of l.self)).directives ≡ l.initial.self.list.items ++ (all_done (issued_ahead l.reads l.gap) (buffer_of l.initial.self)).directives;
  buffer : (all_done (ahead_from l.reads l.gap l.k) (buffer_of l.self)).buffer ≡ (all_done (issued_ahead l.reads l.gap) (buffer_of l.initial.self)).buffer;
  from : l.next ≤ l.k;
  before : AreBefore l.reads l.k (l.gap + 1);
}
