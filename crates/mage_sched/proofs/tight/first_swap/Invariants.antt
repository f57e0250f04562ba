-- The first swap is the first of the rest, and the instructions so far and those of the rest fit 32 bits.
use Rattle.std.proofs.Common.{◌≡◌, ◌≤◌, ◌+◌, drop}
use Rattle.mage_instr.specs.declared.instr.TheConstants.{NEVER}
use Rattle.mage_sched.specs.Schedule.{jobs_of, first_swap}
use Rattle.mage_sched.proofs.tight.first_swap.Given as goal

abbrev pub invariant-loop-k : goal.invariant-loop-k
invariant-loop-k l = record {
  rest : first_swap l.instr (drop l.k l.list) ≡ first_swap 0 l.list;
  room : l.instr + jobs_of (drop l.k l.list) ≤ NEVER;
}
