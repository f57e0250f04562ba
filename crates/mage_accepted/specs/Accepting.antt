-- That the verifier accepts a memory program that carries a linked program.
use Rattle.std.specs.Prelude.{◌≡◌, ◌≤◌, ◌*◌, ℕ, List, length, map, None}
use Rattle.std.specs.List.{sum_by}
use Rattle.mage_instr.specs.declared.instr.Instr.{Instr}
use Rattle.mage_instr.specs.declared.directive.Directive.{Directive}
use Rattle.mage_instr.specs.declared.directive.MemProgram.{MemProgram}
use Rattle.mage_instr.specs.declared.replaced.Limits.{Limits}
use Rattle.mage_instr.specs.Limits.{AreInRange}
use Rattle.mage_instr.specs.Opcodes.{most_workers}
use Rattle.mage_linked.specs.declared.emitted.Emitted.{Emitted}
use Rattle.mage_linked.specs.Emission.{program_of}
use Rattle.mage_linked.specs.Linked.{AreLinked}
use Rattle.mage_carry.specs.declared.carry.Carry.TheVariants as carry
use Rattle.mage_carry.specs.Carrying.{break_of, store_of, carries_of}
use Rattle.mage_schedulable.specs.Planning.{program_of as memory_program_of}
use Rattle.mage_schedulable.specs.PlanOf.{AllCanBePlanned, passed}
use Rattle.mage_directives.specs.Directives.{most_pages, IsMemProgram}
use Rattle.mage_verify.specs.Faults.{own_fault, fault_of}
use Rattle.mage_verify.specs.Parts.{part_of}

-- A worker's directives that break no rule of the walk, and leave nothing over, have no fault by themselves.
abbrev pub CarryingPartsHaveNoFault : Type 0
CarryingPartsHaveNoFault =
    (limits : Limits) (stores : List ℕ) (worker : ℕ) (instrs : List Instr) (part : List Directive)
    → break_of limits (store_of stores worker) instrs part ≡ None
    → own_fault (part_of limits stores worker part) ≡ None

-- A memory program that carries a program whose workers are linked has no fault, by itself and together.
abbrev pub CarryingPlansHaveNoFault : Type 0
CarryingPlansHaveNoFault =
    (count : ℕ) (emitted : List Emitted) (plan : MemProgram)
    → AreLinked count emitted → carries_of (program_of count emitted) plan ≡ carry.Yes
    → fault_of plan ≡ None

-- the verifier accepts a memory program: each of its fields is in its range, and it has no fault
pub record IsAccepted (plan : MemProgram) : Type 0 where
  pub fields : IsMemProgram plan
  pub none : fault_of plan ≡ None

-- What the passes make of a program whose workers are linked is accepted, within limits in their ranges that suffice.
abbrev pub PassedPlansAreAccepted : Type 0
PassedPlansAreAccepted =
    (limits : Limits) (count : ℕ) (emitted : List Emitted)
    → AreInRange limits → 1 ≤ count → count ≤ most_workers → length emitted ≤ most_pages
    → AreLinked count emitted → AllCanBePlanned limits (program_of count emitted).workers
    → IsAccepted (memory_program_of limits (map (passed limits) (program_of count emitted).workers))

-- how many directives a memory program has, all workers together
abbrev pub directives_in : MemProgram → ℕ
directives_in plan = sum_by (λ part. length part) plan.workers

-- What the passes make of a program whose workers are linked has at most 18 directives for each of its instructions, all workers
-- together.
abbrev pub PassedPlansAreShort : Type 0
PassedPlansAreShort =
    (limits : Limits) (count : ℕ) (emitted : List Emitted)
    → AreLinked count emitted → AllCanBePlanned limits (program_of count emitted).workers
    → directives_in (memory_program_of limits (map (passed limits) (program_of count emitted).workers)) ≤ 18 * length emitted
