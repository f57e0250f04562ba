-- A world as its callers see it: for each worker what its driver tells and its state in the core, and the links.
use Rattle.std.specs.Prelude.{◌≡◌, ◌<◌, ◌≤◌, ◌*◌, ℕ, List, Bool, true, if◌then◌else◌, length, Option, None, Some, IfSome, slice_get}
use Rattle.mage_instr.specs.declared.directive.Directive.{Directive}
use Rattle.mage_instr.specs.declared.directive.Directive.TheVariants as entry
use Rattle.mage_instr.specs.declared.fault.DriverFault.{DriverFault}
use Rattle.mage_driver.specs.declared.standing.Standing.{Standing}
use Rattle.mage_driver.specs.declared.standing.Standing.TheVariants as standing
use Rattle.mage_driver.specs.Rules.{Rules}
use Rattle.mage_driver.specs.Calls.{Told}
use Rattle.mage_bank.specs.Bank.{contents, bank_of, AreOf}
use Rattle.mage_network.specs.Slots as net
use Rattle.mage_steps.specs.Frames.{cleared}
use Rattle.mage_steps.specs.Engines.{Engine}
use Rattle.mage_verify.specs.Parts.{WorkerPart}
use Rattle.mage_verify.specs.Runs as verifier
use Rattle.mage_directives.specs.Directives.{IsDirective}
use Rattle.mage_world.specs.declared.worker.Worker.{Worker}
use Rattle.mage_world.specs.Slots.{slots_of, slot_at, page_at, AreLong, AreWithin}

-- a worker as plain data: how many directives are done, and how many wires of the one that comes next; whether its
-- driver is finished, and the fault that it answered; its frames, its slots and its pages
pub record WorkerState : Type 0 where
  pub place : ℕ
  pub wire : ℕ
  pub finished : Bool
  pub fault : Option DriverFault
  pub frames : List (List ℕ)
  pub slots : List (net.Slot (List ℕ))
  pub pages : List (List ℕ)

abbrev pub state_of : Worker → WorkerState
state_of worker = record {
  place = worker.place;
  wire = worker.wire;
  finished = worker.finished;
  fault = worker.fault;
  frames = contents worker.frames.items;
  slots = slots_of worker.slots.items;
  pages = contents worker.pages.items;
}

-- a worker with its driver: what this one tells, the fault that it answered, and the worker's state in the core
pub record Seat (S : Type 0) : Type 0 where
  pub driver : Told S
  pub fault : Option DriverFault
  pub core : net.Paged (Engine S) (List ℕ)

abbrev pub seat_of : {W : Type 0} (rules : Rules W) → (page : ℕ) → Told rules.State → WorkerState → Seat rules.State
seat_of rules page driver worker = record {
  driver = driver;
  fault = worker.fault;
  core = record {
    engine = record {
      place = worker.place;
      wire = worker.wire;
      driver = driver.state;
      is_finished = worker.finished;
      bank = bank_of worker.frames;
    };
    slots = slot_at worker.slots;
    pages = page_at (cleared rules page) worker.pages;
  };
}

-- ---- what holds of each worker

-- the bytes of a page of a part over wires of so many bytes
abbrev pub page_bytes : (wire_bytes : ℕ) → WorkerPart → ℕ
page_bytes wire_bytes part = part.limits.page * wire_bytes

-- fewer wires of an instruction's value are done than it has
abbrev pub IsWire : (wire : ℕ) → Directive → Type 0
IsWire wire (entry.Do job) = wire < job.width
IsWire wire _ = Unit {0}

-- A worker has the room that its part asks for, and each slot in flight names a page that is there.
pub record IsWorker (wire_bytes : ℕ) (part : WorkerPart) (worker : Worker) : Type 0 where
  pub frames : AreOf part.limits.frames (page_bytes wire_bytes part) (contents worker.frames.items)
  pub count : length worker.slots.items ≡ part.limits.buffer
  pub long : AreLong (page_bytes wire_bytes part) worker.slots.items
  pub named : AreWithin part.pages worker.slots.items
  pub pages : AreOf part.pages (page_bytes wire_bytes part) (contents worker.pages.items)
  pub within : worker.place ≤ length part.directives
  pub wire : IfSome (slice_get part.directives worker.place) (IsWire worker.wire)
  pub early : worker.finished ≡ true → slice_get part.directives worker.place ≡ None

-- a driver without a fault runs until it is finished
abbrev pub Runs : Option DriverFault → (finished : Bool) → Standing → Type 0
Runs None finished stands = stands ≡ (if finished then standing.Finished else standing.Running)
Runs (Some fault) finished stands = Unit {0}

-- A worker of a verified part, with its driver, is ready for its next turn, unless the driver has failed.
pub record Stands {W : Type 0} (rules : Rules W) (part : WorkerPart) (driver : Told rules.State)
    (worker : Worker) : Type 0 where
  pub safe : verifier.IsSafe part
  pub runs : verifier.Runs part
  pub worker_is : IsWorker rules.wire_bytes part worker
  pub driver_runs : Runs worker.fault worker.finished driver.standing

-- it has no fault, and stands at this directive
pub record IsAt (part : WorkerPart) (worker : Worker) (directive : Directive) : Type 0 where
  pub sound : worker.fault ≡ None
  pub here : slice_get part.directives worker.place ≡ Some directive

-- each link that a part's directives name is there, among so many workers
pub record IsLinked (workers : ℕ) (part : WorkerPart) : Type 0 where
  pub within : part.worker < workers
  pub each : (d : ℕ) → IfSome (slice_get part.directives d) (IsDirective workers part.worker)
