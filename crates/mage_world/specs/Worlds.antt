-- A world: all workers with their drivers, and the links between them; and what an event does.
use Rattle.std.specs.Prelude.{◌≡◌, ℕ, List, [], ◌∷◌, length, set, None, Some, Result, Ok, Err, slice_get}
use Rattle.mage_instr.specs.declared.fault.DriverFault.{DriverFault}
use Rattle.mage_driver.specs.declared.standing.Standing.TheVariants as standing
use Rattle.mage_driver.specs.Rules.{Rules}
use Rattle.mage_driver.specs.Calls.{Told}
use Rattle.mage_link.specs.Queues.{LinkState, place_at, unused_link}
use Rattle.mage_network.specs.Slots.{Paged, Service, Claims, Serves, becomes, idle}
use Rattle.mage_steps.specs.Engines as engines
use Rattle.mage_steps.specs.Frames.{cleared}
use Rattle.mage_verify.specs.Parts.{WorkerPart}
use Rattle.mage_verify.specs.Runs.{AreVerified}
use Rattle.mage_world.specs.declared.event.Event.{Event}
use Rattle.mage_world.specs.declared.event.Event.TheVariants as event
use Rattle.mage_world.specs.declared.event.Kind.{Kind}
use Rattle.mage_world.specs.declared.event.Kind.TheVariants as kind
use Rattle.mage_world.specs.declared.event.ApplyError.{ApplyError}
use Rattle.mage_world.specs.declared.event.ApplyError.TheVariants as error
use Rattle.mage_world.specs.declared.worker.Worker.{Worker}
use Rattle.mage_world.specs.Seats.{WorkerState, Seat, seat_of, Stands}
use Rattle.mage_world.specs.Turns.{Wires, IsEnabled, Did, Fails}

-- a world as plain data
pub record WorldState (D : Type 0) : Type 0 where
  pub parts : List WorkerPart
  pub drivers : List D
  pub workers : List WorkerState
  -- how many wires a link holds at most, and the links, by who sends and then by who receives
  pub capacity : ℕ
  pub links : List (List LinkState)

-- the same, by what the drivers tell
pub record Seen (S : Type 0) : Type 0 where
  pub parts : List WorkerPart
  pub seats : List (Seat S)
  pub capacity : ℕ
  pub wires : Wires

-- each worker with its driver
abbrev pub seats_of : {D W : Type 0} (rules : Rules W) → (D → Told rules.State) → List WorkerPart → List D →
    List WorkerState → List (Seat rules.State)
seats_of rules tells (part ∷ parts) (driver ∷ drivers) (worker ∷ workers) =
    seat_of rules part.limits.page (tells driver) worker ∷ seats_of rules tells parts drivers workers
seats_of rules tells _ _ _ = []

abbrev pub wires_of : List (List LinkState) → Wires
wires_of links source target = (place_at unused_link links source target).lying

abbrev pub seen : {D W : Type 0} (rules : Rules W) → (D → Told rules.State) → WorldState D → Seen rules.State
seen rules tells world = record {
  parts = world.parts;
  seats = seats_of rules tells world.parts world.drivers world.workers;
  capacity = world.capacity;
  wires = wires_of world.links;
}

-- the seats before the first event
abbrev pub seats_opened : {D W : Type 0} (rules : Rules W) → (D → Told rules.State) → List WorkerPart → List D →
    List (Seat rules.State)
seats_opened rules tells (part ∷ parts) (driver ∷ drivers) =
    record {
      driver = tells driver;
      fault = None;
      core = idle (engines.opened rules part.limits.page (tells driver).state) (λ page. cleared rules part.limits.page);
    } ∷ seats_opened rules tells parts drivers
seats_opened rules tells _ _ = []

-- a world before its first event: no slot is in flight, no page was written, and no wire lies in a link
abbrev pub opened : {D W : Type 0} (rules : Rules W) → (D → Told rules.State) → List WorkerPart → List D →
    (capacity : ℕ) → Seen rules.State
opened rules tells parts drivers capacity = record {
  parts = parts;
  seats = seats_opened rules tells parts drivers;
  capacity = capacity;
  wires = λ source target. [];
}

-- ---- what holds of a world

-- each worker of the world with its driver
abbrev pub Each : {D W : Type 0} (rules : Rules W) → (D → Told rules.State) → List WorkerPart → List D → List Worker → Type 0
Each {D} rules tells parts drivers workers = (n : ℕ) (part : WorkerPart) (driver : D) (worker : Worker) →
    slice_get parts n ≡ Some part → slice_get drivers n ≡ Some driver → slice_get workers n ≡ Some worker →
    Stands rules part (tells driver) worker

-- The parts are those of a memory program without a fault, each has a driver and a worker, and each two a link.
pub record IsWorld {D W : Type 0} (rules : Rules W) (tells : D → Told rules.State) (parts : List WorkerPart)
    (drivers : List D) (workers : List Worker) (links : ℕ) : Type 0 where
  pub verified : AreVerified parts
  pub as_many_drivers : length drivers ≡ length parts
  pub as_many_workers : length workers ≡ length parts
  pub as_many_links : links ≡ length parts
  pub each : Each rules tells parts drivers workers

-- each of some drivers runs
abbrev pub AllRun : {D S : Type 0} → (D → Told S) → List D → Type 0
AllRun {D} tells drivers = (n : ℕ) (driver : D) → slice_get drivers n ≡ Some driver →
    (tells driver).standing ≡ standing.Running

-- ---- events

-- What a service comes to: it was done where it can be, and else nothing changed.
abbrev pub Served : {S : Type 0} → Service → (old new : Seat S) → Result (Unit {0}) ApplyError → Type 0
Served one old new (Ok _) =
    (becomes one old.core ≡ Some new.core) × (new ≡ record old { core = new.core })
Served one old new (Err error.NotEnabled) = (becomes one old.core ≡ None) × (new ≡ old)
Served one old new (Err (error.Driver fault)) = ⊥

-- an event is a turn of a kind, or a service
pub data What : Type 0 where
  IsTurn : Kind → What
  IsService : Service → What

abbrev pub worker_in : Event → ℕ
worker_in (event.Do w) = w
worker_in (event.Ask w) = w
worker_in (event.Claim w slot) = w
worker_in (event.Serve w slot) = w
worker_in (event.Finish w) = w
worker_in (event.Push w) = w
worker_in (event.Pop w) = w

abbrev pub what_in : Event → What
what_in (event.Do w) = IsTurn kind.Do
what_in (event.Ask w) = IsTurn kind.Ask
what_in (event.Claim w slot) = IsService (Claims slot)
what_in (event.Serve w slot) = IsService (Serves slot)
what_in (event.Finish w) = IsTurn kind.Finish
what_in (event.Push w) = IsTurn kind.Push
what_in (event.Pop w) = IsTurn kind.Pop

module _ {W : Type 0} (rules : Rules W) where
  -- it can be done at a worker with this part, in these links
  abbrev pub CanBe : What → (capacity : ℕ) → WorkerPart → Seat rules.State → Wires → Type 0
  CanBe (IsTurn one) capacity part seat wires = IsEnabled rules part one capacity seat wires
  CanBe (IsService one) capacity part seat wires =
      (after : Paged _ _) × (becomes one seat.core ≡ Some after)

  -- it was done
  abbrev pub WasDone : What → (capacity : ℕ) → WorkerPart → (old new : Seat rules.State) → (before after : Wires) → Type 0
  WasDone (IsTurn one) capacity part old new before after = Did rules part capacity old new before after
  WasDone (IsService one) capacity part old new before after =
      (becomes one old.core ≡ Some new.core) × (new ≡ record old { core = new.core }) × (after ≡ before)

  -- a driver's fault stopped it
  abbrev pub WasStopped : What → (capacity : ℕ) → WorkerPart → (old new : Seat rules.State) → (before after : Wires) → DriverFault → Type 0
  WasStopped (IsTurn one) capacity part old new before after fault = Fails rules part capacity old new before after fault
  WasStopped (IsService one) capacity part old new before after fault = ⊥

  -- it is enabled at worker n, who is there
  abbrev pub CanHappenAt : Seen rules.State → (n : ℕ) → What → Type 0
  CanHappenAt world n one = (part : WorkerPart) × (seat : Seat rules.State)
      × (slice_get world.parts n ≡ Some part) × (slice_get world.seats n ≡ Some seat)
      × CanBe one world.capacity part seat world.wires

  -- One worker changed, and maybe links.
  pub record Changes (old new : Seen rules.State) (n : ℕ) (part : WorkerPart) (was is : Seat rules.State) : Type 0 where
    pub part_is : slice_get old.parts n ≡ Some part
    pub was_is : slice_get old.seats n ≡ Some was
    pub rest : new ≡ record old { seats = set old.seats n is; wires = new.wires }

  -- it is enabled at worker n, and was done
  abbrev pub IsDone : (old new : Seen rules.State) → (n : ℕ) → What → Type 0
  IsDone old new n one =
      CanHappenAt old n one × (part : WorkerPart) × (was is : Seat rules.State)
      × Changes old new n part was is × WasDone one old.capacity part was is old.wires new.wires

  -- What is asked for at worker n comes to: it was done where it is enabled, or stopped by a fault of the worker's
  -- driver; and where it isn't enabled, nothing changed.
  abbrev pub HappensAt : (old new : Seen rules.State) → (n : ℕ) → What → Result (Unit {0}) ApplyError → Type 0
  HappensAt old new n one (Ok _) = IsDone old new n one
  HappensAt old new n one (Err error.NotEnabled) = (CanHappenAt old n one → ⊥) × (new ≡ old)
  HappensAt old new n one (Err (error.Driver fault)) =
      CanHappenAt old n one × (part : WorkerPart) × (was is : Seat rules.State)
      × Changes old new n part was is × WasStopped one old.capacity part was is old.wires new.wires fault

  -- an event is enabled
  abbrev pub CanHappen : Seen rules.State → Event → Type 0
  CanHappen world one = CanHappenAt world (worker_in one) (what_in one)

  -- what an event comes to
  abbrev pub Applies : (old new : Seen rules.State) → Event → Result (Unit {0}) ApplyError → Type 0
  Applies old new one result = HappensAt old new (worker_in one) (what_in one) result
