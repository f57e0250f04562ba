-- What is known is that of some entries, and the reads so far, and then those of the rest behind these entries, are all.
use Rattle.std.proofs.Common.{◌≡◌, ◌≤◌, ◌+◌, ◌++◌, List, drop}
use Rattle.mage_instr.specs.declared.instr.TheConstants.{NEVER}
use Rattle.mage_instr.specs.declared.replaced.Replaced.{Replaced}
use Rattle.mage_sched.specs.Reads.{gap_after, reads_from, reads_of}
use Rattle.mage_sched.specs.Schedule.{jobs_of}
use Rattle.mage_sched.specs.Views.{Knows}
use Rattle.mage_sched.proofs.reads.reads_of.Given as goal

abbrev pub invariant-loop-k : goal.invariant-loop-k
invariant-loop-k l =
    (before : List Replaced)
    × Knows l.past before
    × (l.reads.items ++ reads_from before (drop l.k l.list) ≡ reads_of l.list)
    × (gap_after before + jobs_of (drop l.k l.list) ≤ NEVER)
