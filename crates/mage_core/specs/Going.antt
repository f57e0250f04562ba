-- The workers of a run as they were handed in, and how far each has come.
use Rattle.std.specs.Prelude.{length, ◌≤◌, ◌≡◌, ◌+◌, ◌<◌, ℕ, List, [], ◌∷◌, take, Bool, true, false, Option, None, Some, IfSome, IsTrue, slice_get}
use Rattle.mage_base.specs.Store.{StoreTold}
use Rattle.mage_instr.specs.declared.directive.Directive.{Directive}
use Rattle.mage_instr.specs.declared.directive.Directive.TheVariants as entry
use Rattle.mage_driver.specs.Rules.{Rules}
use Rattle.mage_driver.specs.Calls.{Told}
use Rattle.mage_link.specs.Queues.{QueueState, queue_told}
use Rattle.mage_port.specs.Port.{SlotState, Idle, AskedRead, AskedWrite, HasFailed, IsDamaged, slot_state}
use Rattle.mage_verify.specs.Parts.{WorkerPart}
use Rattle.mage_verify.specs.Runs.{IsSafe, Runs}
use Rattle.mage_engine.specs.Seen.{Seen, directive_at, IsEnded}
use Rattle.mage_engine.specs.Ready.{Connects, wires_of}
use Rattle.mage_engine.specs.Steps.{GoesAlong, first_worker}
use Rattle.mage_core.specs.declared.fault.RunFault.{RunFault}
use Rattle.mage_core.specs.Ports.{RunMachine, first_of}
use Rattle.mage_core.specs.Stores.{KeepsStore}
use Rattle.mage_core.specs.Turns.{Falls}
use Rattle.mage_core.specs.Paging.{AllRight, KeepsPages, GoesOverPages, first_paged}

-- a worker as it was handed in: its part, and what its driver and its store told
pub record Start (S : Type 0) : Type 0 where
  pub part : WorkerPart
  pub driver : Told S
  pub store : StoreTold

-- the finishes of reads, and of writes, among some directives
abbrev pub read_in : Directive → ℕ
read_in (entry.FinishIn slot frame) = 1
read_in _ = 0

abbrev pub reads_of : List Directive → ℕ
reads_of [] = 0
reads_of (directive ∷ directives) = reads_of directives + read_in directive

abbrev pub write_in : Directive → ℕ
write_in (entry.FinishOut slot) = 1
write_in _ = 0

abbrev pub writes_of : List Directive → ℕ
writes_of [] = 0
writes_of (directive ∷ directives) = writes_of directives + write_in directive

-- a slot that hasn't stopped
abbrev pub is_sound : SlotState → Bool
is_sound Idle = true
is_sound (AskedRead _) = true
is_sound (AskedWrite _ _) = true
is_sound (HasFailed _) = false
is_sound (IsDamaged _) = false

-- How far the machine of a worker has come, which has no fault: what its driver and its port counted since they were handed in,
-- and where its driver is told, that it went along its own run.
pub record IsGoing {W : Type 0} (rules : Rules W) (start : Start rules.State) (worker : ℕ) (links : QueueState)
    (machine : Seen rules.State) : Type 0 where
  pub part : machine.part ≡ start.part
  pub number : start.part.worker ≡ worker
  pub safe : IsSafe start.part
  pub runs : Runs start.part
  pub sound : machine.fault ≡ None
  pub wire : machine.wire < wires_of (directive_at machine)
  pub faults : machine.driver.faults ≡ start.driver.faults
  pub told : machine.driver.told ≡ start.driver.told
  pub handed : machine.port.handed_in ≡ start.store ∷ []
  pub reads : machine.port.reads ≡ start.store.reads + reads_of (take machine.place start.part.directives)
  pub writes : machine.port.writes ≡ start.store.writes + writes_of (take machine.place start.part.directives)
  pub slots : (slot : ℕ) → is_sound (slot_state machine.port slot) ≡ true
  pub store : KeepsStore start.part start.store machine.port
  pub connects : Connects (queue_told links) start.part
  pub along : IsTrue start.driver.told → GoesAlong rules (first_worker rules start.part.limits.page start.driver.state)
      machine (queue_told links)
  -- what its port keeps of pages; and as long as its answers are right, it went along its own run over pages
  pub keeps : KeepsPages machine.port.pages (slot_state machine.port) machine.port.finished
  pub over : IsTrue start.driver.told → AllRight machine.port.finished →
      GoesOverPages rules (first_paged rules start.part.limits.page start.driver.state) machine (queue_told links)

-- a worker as it stands at its machine before the first step
abbrev pub start_of : {D S X : Type 0} → (D → Told X) → (S → StoreTold) → RunMachine D S → Start X
start_of driver_tells store_tells machine = record {
  part = machine.part;
  driver = driver_tells machine.driver;
  store = store_tells (first_of machine);
}

module _ {W : Type 0} (rules : Rules W) (starts : List (Start rules.State)) where
  -- the machine of a worker has come some way from where it started
  pub record HasGone (worker : ℕ) (links : QueueState) (machine : Seen rules.State) : Type 0 where
    pub start : Start rules.State
    pub from : slice_get starts worker ≡ Some start
    pub going : IsGoing rules start worker links machine

  -- each machine has
  abbrev pub AllGo : List (Seen rules.State) → QueueState → Type 0
  AllGo machines links = (w : ℕ) → IfSome (slice_get machines w) (HasGone w links)

  -- nobody beside the workers sends
  abbrev pub NoOthersSend : QueueState → Type 0
  NoOthersSend links = (source target : ℕ) → length starts ≤ source → (queue_told links).sent source target ≡ []

  -- How a run ends: each machine has ended, or one stopped, and the others have come some way.
  abbrev pub EndsAs : List (Seen rules.State) → QueueState → Option RunFault → Type 0
  EndsAs machines links None =
      AllGo machines links × ((w : ℕ) → IfSome (slice_get machines w) IsEnded) × NoOthersSend links
  EndsAs machines links (Some found) =
      (before : List (Seen rules.State)) × (old : QueueState) × AllGo before old × Falls rules before machines old links found × NoOthersSend old
