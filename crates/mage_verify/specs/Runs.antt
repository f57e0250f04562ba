-- What a directive of a part without a fault meets.
use Rattle.std.specs.Prelude.{◌≡◌, ◌≤◌, ◌<◌, ◌+◌, ℕ, List, [], ◌∷◌, ◌++◌, length, slice_get, slice_index_or, true, IfSome, None}
use Rattle.mage_instr.specs.declared.directive.Directive.{Directive}
use Rattle.mage_instr.specs.declared.directive.Directive.TheVariants as entry
use Rattle.mage_instr.specs.declared.directive.MemProgram.{MemProgram}
use Rattle.mage_instr.specs.declared.replaced.Job.{Job}
use Rattle.mage_instr.specs.declared.replaced.Limits.{Limits}
use Rattle.mage_instr.specs.declared.replaced.Spot.{Spot}
use Rattle.mage_directives.specs.Directives.{no_spot, most_pages, IsPart, IsMemProgram}
use Rattle.mage_instr.specs.Limits.{AreInRange}
use Rattle.mage_instr.specs.Opcodes.{arity_of, has_result, width_of_result, width_of_arg}
use Rattle.mage_verify.specs.declared.slot.Slot.TheVariants as does
use Rattle.mage_verify.specs.declared.turn.Turn.{Turn}
use Rattle.mage_verify.specs.declared.turn.Turn.TheVariants as turn
use Rattle.mage_verify.specs.Joint.{lists_at, next_of, width_at, after_turns, none_done, order_of, done_of}
use Rattle.mage_verify.specs.Faults.{own_fault, fault_in}
use Rattle.mage_verify.specs.Parts.{WorkerPart, parts_of}
use Rattle.mage_verify.specs.State.{State, state_before}

-- a value's frame is there, and the value ends within its page
abbrev pub Fits : Limits → (width : ℕ) → Spot → Type 0
Fits limits width spot = (spot.frame < limits.frames) × (spot.offset + width ≤ limits.page)

-- each value of an instruction fits
pub record ValuesFit (limits : Limits) (job : Job) : Type 0 where
  pub result : has_result job.op ≡ true → Fits limits (width_of_result job.op job.width) job.out
  pub args : (k : ℕ) → k < arity_of job.op → Fits limits (width_of_arg job.op job.width job.imm k) (slice_index_or job.args k no_spot)

-- no slot of the buffer reads or writes the page
abbrev pub IsStill : (buffer : ℕ) → State → (page : ℕ) → Type 0
IsStill buffer state page = (s : ℕ) → s < buffer → (state.slot s ≡ does.Reading page → ⊥) × (state.slot s ≡ does.Writing page → ⊥)

-- what a directive meets: each index in range, its slot doing what it asks for, and its page standing still
abbrev pub Meets : Limits → (pages : ℕ) → State → Directive → Type 0
Meets limits pages state (entry.Fresh frame page) = frame < limits.frames
Meets limits pages state (entry.IssueIn slot page) =
    (slot < limits.buffer) × (page < pages) × (state.slot slot ≡ does.Idle) × IsStill limits.buffer state page × (state.stored page ≡ true)
Meets limits pages state (entry.FinishIn slot frame) =
    (slot < limits.buffer) × (frame < limits.frames) × ((page : ℕ) × (state.slot slot ≡ does.Reading page))
Meets limits pages state (entry.IssueOut slot frame page) =
    (slot < limits.buffer) × (frame < limits.frames) × (page < pages) × (state.slot slot ≡ does.Idle) × IsStill limits.buffer state page
Meets limits pages state (entry.FinishOut slot) =
    (slot < limits.buffer) × ((page : ℕ) × (state.slot slot ≡ does.Writing page))
Meets limits pages state (entry.Do job) = ValuesFit limits job

-- each directive of a part meets what it asks for, and each slot is idle at the end
pub record Runs (part : WorkerPart) : Type 0 where
  pub each : (d : ℕ) → IfSome (slice_get part.directives d) (Meets part.limits part.pages (state_before part.directives d))
  pub idle : (s : ℕ) → s < part.limits.buffer → (state_before part.directives (length part.directives)).slot s ≡ does.Idle

-- a part whose fields are in their ranges, and that has no fault by itself
pub record IsSafe (part : WorkerPart) : Type 0 where
  pub worker : part.worker < 16
  pub limits : AreInRange part.limits
  pub pages : part.pages ≤ most_pages
  pub fields : IsPart 16 part.worker part.directives
  pub none : own_fault part ≡ None

-- each of some parts is safe
abbrev pub AreSafe : List WorkerPart → Type 0
AreSafe [] = Unit {0}
AreSafe (part ∷ parts) = IsSafe part × AreSafe parts

-- the parts of a memory program that has no fault
pub record AreVerified (parts : List WorkerPart) : Type 0 where
  pub whole : (plan : MemProgram) × IsMemProgram plan × (parts ≡ parts_of plan)
  pub none : fault_in parts ≡ None

-- All workers together: the joint run ends, and each value is received in the width in which it is sent.
pub record RunTogether (workers : List (List Directive)) : Type 0 where
  pub ends : (w : ℕ) → w < length workers → length (lists_at workers w) ≤ done_of workers w
  pub widths : (before others : List Turn) (source target : ℕ) → order_of workers ≡ before ++ turn.Hands source target ∷ others
      → width_at (next_of (lists_at workers) (after_turns before none_done) source) ≡ width_at (next_of (lists_at workers) (after_turns before none_done) target)
