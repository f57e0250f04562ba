-- What was emitted, and then what the rest gives, is the schedule.
use Rattle.std.proofs.Common.{◌≡◌, ◌≤◌, ◌+◌, ◌++◌, length, drop}
use Rattle.mage_instr.specs.declared.instr.TheConstants.{NEVER}
use Rattle.mage_sched.specs.Schedule.{jobs_of, moves_from, schedule_of}
use Rattle.mage_sched.specs.Slots.{all_done}
use Rattle.mage_sched.specs.Views.{buffer_of, AreBefore, AreFrom}
use Rattle.mage_sched.proofs.Walks.{loads_of}
use Rattle.mage_sched.proofs.scheduling.directives_of.Given as goal

abbrev pub invariant-loop-k : goal.invariant-loop-k
invariant-loop-k l = record {
  count : length l.slots.table.items ≡ l.buffer;
  list : l.slots.list.items ++ (all_done (moves_from l.reads.items l.gap l.loads (drop l.k l.list)) (buffer_of l.slots)).directives ≡ schedule_of l.buffer l.ahead l.list;
  loads : l.loads + loads_of (drop l.k l.list) ≡ length l.reads.items;
  room : l.gap + jobs_of (drop l.k l.list) ≤ NEVER;
  within : l.next ≤ length l.reads.items;
  before : AreBefore l.reads.items l.next l.gap;
  after : AreFrom l.reads.items l.next l.gap;
}
