-- How often a memory program reads and writes the stores of its workers.
use Rattle.std.specs.Prelude.{◌≡◌, ℕ, List, length, map, Ok}
use Rattle.std.specs.List.{flat_map}
use Rattle.mage_instr.specs.declared.directive.MemProgram.{MemProgram}
use Rattle.mage_instr.specs.declared.replaced.Limits.{Limits}
use Rattle.mage_sched.specs.Scheduled.{page_read, page_written}
use Rattle.mage_pipe.specs.declared.loaded.Loaded.{Loaded}
use Rattle.mage_pipe.specs.declared.stats.WorkerStats.{WorkerStats}
use Rattle.mage_pipe.specs.Loading.{loaded_of}
use Rattle.mage_pipe.specs.MemoryProgram.{memory_program_of}
use Rattle.mage_pipe.specs.Summary.{stats_of}

-- how many pages of a worker's store are read, and how many are written
pub record Moves : Type 0 where
  pub reads : ℕ
  pub writes : ℕ

-- those of a memory program, worker by worker: each issue moves one page
abbrev pub moves_of : MemProgram → List Moves
moves_of plan = map (λ part. record { reads = length (flat_map page_read part); writes = length (flat_map page_written part) }) plan.workers

-- those that a summary says
abbrev pub counted_in : List WorkerStats → List Moves
counted_in workers = map (λ stats. record { reads = stats.reads; writes = stats.writes }) workers

-- The memory program of a source reads and writes as many pages as the summary says, the fewest reads that any plan has.
abbrev pub PlansMoveAsCounted : Type 0
PlansMoveAsCounted =
    (limits : Limits) (text : List ℕ) (loaded : Loaded) (plan : MemProgram) (stats : List WorkerStats)
    → loaded_of text ≡ Ok loaded → memory_program_of limits loaded.program.workers ≡ Ok plan → stats_of limits loaded.program.workers ≡ Ok stats
    → moves_of plan ≡ counted_in stats
