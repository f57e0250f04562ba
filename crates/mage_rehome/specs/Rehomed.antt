-- A memory program whose transfers name store pages in place of the pages that they named.
use Rattle.std.specs.Prelude.{◌≡◌, ◌↔◌, List, map, None}
use Rattle.mage_instr.specs.declared.instr.Program.{Program}
use Rattle.mage_instr.specs.declared.directive.MemProgram.{MemProgram}
use Rattle.mage_carry.specs.declared.carry.Carry.TheVariants as carry
use Rattle.mage_carry.specs.Carrying.{carries_of}
use Rattle.mage_sched.specs.Homes.{Homed, homed_of}
use Rattle.mage_schedulable.specs.Planning.{program_of}
use Rattle.mage_verify.specs.Faults.{fault_of}
use Rattle.mage_verify.specs.Parts.{WorkerPart}

-- each worker's transfers name the homes of their pages, and its store has as many pages as are held at once
abbrev pub rehomed_of : MemProgram → MemProgram
rehomed_of plan = program_of plan.limits (map homed_of plan.workers)

-- the same of some parts
abbrev pub homed_parts : List WorkerPart → List Homed
homed_parts parts = map (λ (part : WorkerPart). homed_of part.directives) parts

-- A memory program without a fault carries a program exactly where the one with store pages does.
abbrev pub RenamingKeepsCarried : Type 0
RenamingKeepsCarried =
    (program : Program) (plan : MemProgram)
    → fault_of plan ≡ None
    → (carries_of program (rehomed_of plan) ≡ carry.Yes) ↔ (carries_of program plan ≡ carry.Yes)

-- And then the one with store pages has none either.
abbrev pub RenamingMakesNoFault : Type 0
RenamingMakesNoFault = (plan : MemProgram) → (fault_of plan ≡ None) → fault_of (rehomed_of plan) ≡ None
