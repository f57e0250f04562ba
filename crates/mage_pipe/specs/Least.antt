-- What it means that so many reads are the fewest.
use Rattle.std.specs.Prelude.{◌≡◌, List, Ok}
use Rattle.mage_instr.specs.declared.instr.Instr.{Instr}
use Rattle.mage_instr.specs.declared.replaced.Limits.{Limits}
use Rattle.mage_instr.specs.Limits.{AreInRange}
use Rattle.mage_instr.specs.Sound.{IsSound}
use Rattle.mage_schedulable.specs.PlanOf.{IsLeast}
use Rattle.mage_pipe.specs.declared.stats.WorkerStats.{WorkerStats}
use Rattle.mage_pipe.specs.Summary.{trace_for, worker_stats_of}

-- the reads that the definitions give are the fewest
abbrev pub ReadsAreLeast : Type 0
ReadsAreLeast =
    (limits : Limits) (instrs : List Instr) (stats : WorkerStats)
    → AreInRange limits → IsSound instrs → worker_stats_of limits instrs ≡ Ok stats
    → IsLeast (trace_for limits instrs) limits.frames stats.reads
