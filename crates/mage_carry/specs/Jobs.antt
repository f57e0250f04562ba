-- What holds of each instruction that a memory program does, where it carries a program.
use Rattle.std.specs.Prelude.{◌≡◌, ◌<◌, ◌+◌, ℕ, List, [], ◌∷◌, length, take, slice_get, slice_index_or, Some, Ok, IsSomeAnd}
use Rattle.mage_instr.specs.declared.instr.Instr.{Instr}
use Rattle.mage_instr.specs.declared.instr.Program.{Program}
use Rattle.mage_instr.specs.declared.replaced.Job.{Job}
use Rattle.mage_instr.specs.declared.replaced.Spot.{Spot}
use Rattle.mage_instr.specs.declared.replaced.Limits.{Limits}
use Rattle.mage_instr.specs.declared.directive.Directive.{Directive}
use Rattle.mage_instr.specs.declared.directive.Directive.TheVariants as entry
use Rattle.mage_instr.specs.declared.directive.MemProgram.{MemProgram}
use Rattle.mage_instr.specs.Opcodes.{arity_of}
use Rattle.mage_instr.specs.Sound.{arg_of}
use Rattle.mage_carry.specs.declared.carry.Carry.TheVariants as carry
use Rattle.mage_carry.specs.State.{Content, State}
use Rattle.mage_carry.specs.Steps.{no_spot}
use Rattle.mage_carry.specs.Carrying.{start, walked, store_of, carries_of}

-- how many instructions some directives do
abbrev pub jobs_of : List Directive → ℕ
jobs_of [] = 0
jobs_of (entry.Do job ∷ part) = 1 + jobs_of part
jobs_of (_ ∷ part) = jobs_of part

-- the variable stands at the spot
abbrev pub IsAt : List Content → (variable : ℕ) → Spot → Type 0
IsAt frames variable spot = IsSomeAnd (slice_get frames spot.frame) (λ content. content spot.offset ≡ Some variable)

-- a job is an instruction, and finds each of its arguments
pub record Does (frames : List Content) (job : Job) (i : Instr) : Type 0 where
  pub op : job.op ≡ i.op
  pub width : job.width ≡ i.width
  pub imm : job.imm ≡ i.imm
  pub args : (k : ℕ) → k < arity_of i.op → IsAt frames (arg_of i k) (slice_index_or job.args k no_spot)

-- some directives keep to the rules, and a job after them does the instruction that comes next
pub record DoesNext (limits : Limits) (store : ℕ) (instrs : List Instr) (before : List Directive) (job : Job) : Type 0 where
  pub state : State
  pub reached : walked instrs limits.page store 0 (start limits.frames limits.buffer) before ≡ Ok state
  pub does : IsSomeAnd (slice_get instrs (jobs_of before)) (Does state.frames job)

-- in each worker's part of a memory program that carries a program, each job does the instruction that comes next
abbrev pub EachJobDoesNext : Type 0
EachJobDoesNext =
    (program : Program) (plan : MemProgram) (worker d : ℕ) (instrs : List Instr) (part : List Directive) (job : Job)
    → carries_of program plan ≡ carry.Yes
    → slice_get program.workers worker ≡ Some instrs → slice_get plan.workers worker ≡ Some part
    → slice_get part d ≡ Some (entry.Do job)
    → DoesNext plan.limits (store_of plan.stores worker) instrs (take d part) job

-- and all instructions are done
abbrev pub AllAreDone : Type 0
AllAreDone =
    (program : Program) (plan : MemProgram) (worker : ℕ) (instrs : List Instr) (part : List Directive)
    → carries_of program plan ≡ carry.Yes
    → slice_get program.workers worker ≡ Some instrs → slice_get plan.workers worker ≡ Some part
    → jobs_of part ≡ length instrs
