-- That a plan and its costs fail alike.
use Rattle.std.specs.Prelude.{◌≡◌, ◌↔◌, List, Err}
use Rattle.mage_instr.specs.declared.instr.Instr.{Instr}
use Rattle.mage_instr.specs.declared.replaced.Limits.{Limits}
use Rattle.mage_pipe.specs.declared.fault.PlanFault.{PlanFault}
use Rattle.mage_pipe.specs.MemoryProgram.{memory_program_of}
use Rattle.mage_pipe.specs.Summary.{stats_of}

-- there is no memory program just where there are no costs, and for the same reason
abbrev pub PlansFailAsCosts : Type 0
PlansFailAsCosts =
    (limits : Limits) (workers : List (List Instr)) (fault : PlanFault)
    → (memory_program_of limits workers ≡ Err fault) ↔ (stats_of limits workers ≡ Err fault)
