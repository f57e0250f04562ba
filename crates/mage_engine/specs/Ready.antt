-- When a machine can be made, what holds of it at each place, and which links it needs.
use Rattle.std.specs.Prelude.{◌≡◌, ◌≤◌, ◌<◌, ◌*◌, ℕ, length, replicate, Bool, true, if◌then◌else◌, IsTrue, Option, None, Some, IfSome, slice_get}
use Rattle.mage_instr.specs.declared.directive.Directive.{Directive}
use Rattle.mage_instr.specs.declared.directive.Directive.TheVariants as entry
use Rattle.mage_instr.specs.declared.fault.MachineFault.{MachineFault}
use Rattle.mage_instr.specs.declared.op.Op.{Op}
use Rattle.mage_instr.specs.declared.op.Op.TheVariants as op
use Rattle.mage_driver.specs.Rules.{Rules}
use Rattle.mage_driver.specs.declared.standing.Standing.TheVariants as standing
use Rattle.mage_driver.specs.Calls.{Told}
use Rattle.mage_link.specs.Links.{LinkTold}
use Rattle.mage_port.specs.Port.{PortTold, SlotState, Idle, AskedRead, AskedWrite, HasFailed, IsDamaged, IsUnused, slot_state, is_held}
use Rattle.mage_steps.specs.Frames.{cleared}
use Rattle.mage_verify.specs.declared.slot.Slot.{Slot}
use Rattle.mage_verify.specs.declared.slot.Slot.TheVariants as does
use Rattle.mage_verify.specs.Parts.{WorkerPart}
use Rattle.mage_verify.specs.Runs.{IsSafe, Runs}
use Rattle.mage_verify.specs.State.{State, state_before}
use Rattle.mage_engine.specs.Seen.{Seen, directive_at, IsEnded}

-- the bytes of a page of a part over wires of so many bytes
abbrev pub page_bytes_of : (wire_bytes : ℕ) → WorkerPart → ℕ
page_bytes_of wire_bytes part = part.limits.page * wire_bytes

-- the page that a directive moves
abbrev pub page_moved : Directive → Option ℕ
page_moved (entry.IssueIn slot page) = Some page
page_moved (entry.IssueOut slot frame page) = Some page
page_moved _ = None

-- each page that a part moves is taken
abbrev pub Takes : (takes : ℕ → Bool) → WorkerPart → Type 0
Takes takes part = (d : ℕ) → IfSome (slice_get part.directives d)
    (λ directive. IfSome (page_moved directive) (λ page. IsTrue (takes page)))

-- The port has the part's slots, of which none was asked, pages of the part's length, and takes each page that the part moves.
pub record Serves (wire_bytes : ℕ) (port : PortTold) (part : WorkerPart) : Type 0 where
  pub unused : IsUnused port
  pub slots : length port.slots ≡ part.limits.buffer
  pub bytes : port.page_bytes ≡ page_bytes_of wire_bytes part
  pub takes : Takes port.takes part

-- a machine before its first directive: each frame is filled with zeros
abbrev pub opened : {W : Type 0} (rules : Rules W) → WorkerPart → Told rules.State → PortTold → Seen rules.State
opened rules part driver port = record {
  part = part;
  driver = driver;
  port = port;
  place = 0;
  wire = 0;
  bank = λ frame. cleared rules part.limits.page;
  lengths = replicate part.limits.frames (page_bytes_of rules.wire_bytes part);
  fault = None;
}

-- it has no fault, and stands at this directive
pub record IsAt {S : Type 0} (machine : Seen S) (directive : Directive) : Type 0 where
  pub sound : machine.fault ≡ None
  pub here : directive_at machine ≡ Some directive

-- ---- links

-- the worker to which a directive sends
abbrev pub sent_by : Op → (imm : ℕ) → Option ℕ
sent_by op.Send imm = Some imm
sent_by _ imm = None

abbrev pub target_of : Directive → Option ℕ
target_of (entry.Do job) = sent_by job.op job.imm
target_of _ = None

abbrev pub target_at : Option Directive → Option ℕ
target_at (Some directive) = target_of directive
target_at None = None

-- the worker from which it receives
abbrev pub received_by : Op → (imm : ℕ) → Option ℕ
received_by op.Recv imm = Some imm
received_by _ imm = None

abbrev pub source_of : Directive → Option ℕ
source_of (entry.Do job) = received_by job.op job.imm
source_of _ = None

abbrev pub source_at : Option Directive → Option ℕ
source_at (Some directive) = source_of directive
source_at None = None

-- The part's worker may use the port of links, and each worker that the part names is there.
pub record Connects (link : LinkTold) (part : WorkerPart) : Type 0 where
  pub within : part.worker < link.workers
  pub allowed : IsTrue (link.may_be_me part.worker)
  pub targets : (d : ℕ) → IfSome (slice_get part.directives d)
      (λ directive. IfSome (target_of directive) (λ other. other < link.workers))
  pub sources : (d : ℕ) → IfSome (slice_get part.directives d)
      (λ directive. IfSome (source_of directive) (λ other. other < link.workers))

-- ---- what holds at each place

-- what a slot in this state does, as the verifier has it; a slot that stopped does nothing that it knows
abbrev pub does_of : SlotState → Option Slot
does_of Idle = Some does.Idle
does_of (AskedRead page) = Some (does.Reading page)
does_of (AskedWrite page bytes) = Some (does.Writing page)
does_of (HasFailed page) = None
does_of (IsDamaged damage) = None

-- how many wires an instruction hands over: one at a time
abbrev pub wires_of_op : Op → (width : ℕ) → ℕ
wires_of_op op.Send width = width
wires_of_op op.Recv width = width
wires_of_op _ width = 1

abbrev pub wires_of : Option Directive → ℕ
wires_of (Some (entry.Do job)) = wires_of_op job.op job.width
wires_of _ = 1

-- the state of the slots and of the store in which the verifier comes to the place
abbrev pub state_at : {S : Type 0} → Seen S → State
state_at machine = state_before machine.part.directives machine.place

-- A machine without a fault can go on: its slots and its store are as the verifier has them, its frames are as long as a
-- page, and its driver runs until it is finished, which is past the last directive.
pub record IsReady {S : Type 0} (wire_bytes : ℕ) (finished : Bool) (machine : Seen S) : Type 0 where
  pub safe : IsSafe machine.part
  pub runs : Runs machine.part
  pub within : machine.place ≤ length machine.part.directives
  pub wire : machine.wire < wires_of (directive_at machine)
  pub lengths : machine.lengths ≡ replicate machine.part.limits.frames (page_bytes_of wire_bytes machine.part)
  pub bytes : machine.port.page_bytes ≡ page_bytes_of wire_bytes machine.part
  pub count : length machine.port.slots ≡ machine.part.limits.buffer
  pub takes : Takes machine.port.takes machine.part
  pub slots : (slot : ℕ) → does_of (slot_state machine.port slot) ≡ Some ((state_at machine).slot slot)
  pub held : (page : ℕ) → (state_at machine).stored page ≡ true → IsTrue (is_held machine.port page)
  pub standing : machine.driver.standing ≡ (if finished then standing.Finished else standing.Running)
  pub early : finished ≡ true → directive_at machine ≡ None

-- a machine holds what it needs, or has stopped for good before its end
abbrev pub Stands : {S : Type 0} → (wire_bytes : ℕ) → (finished : Bool) → Option MachineFault → Seen S → Type 0
Stands wire_bytes finished None machine = IsReady wire_bytes finished machine
Stands wire_bytes finished (Some fault) machine = IsEnded machine → ⊥
