-- A machine as its callers see it, and the workers that it stands for.
use Rattle.std.specs.Prelude.{◌≡◌, ℕ, List, Bool, true, false, drop, slice_get, Option, None, Some}
use Rattle.mage_instr.specs.declared.directive.Directive.{Directive}
use Rattle.mage_instr.specs.declared.fault.MachineFault.{MachineFault}
use Rattle.mage_network.specs.Slots.{Transfer, Reads, Writes}
use Rattle.mage_network.specs.Reading.{Flying}
use Rattle.mage_driver.specs.declared.standing.Standing.{Standing}
use Rattle.mage_driver.specs.declared.standing.Standing.TheVariants as standing
use Rattle.mage_driver.specs.Calls.{Told}
use Rattle.mage_port.specs.Port.{PortTold, SlotState, Idle, AskedRead, AskedWrite, HasFailed, IsDamaged, slot_state}
use Rattle.mage_bank.specs.Bank.{bank_of, lengths_of}
use Rattle.mage_steps.specs.Engines.{Engine}
use Rattle.mage_verify.specs.Leaving.{is_left}
use Rattle.mage_verify.specs.Parts.{WorkerPart}

-- a machine's course: how many directives are done, and how many wires of the Send or Recv that comes next; the
-- bytes of its frames; and the fault that stopped it
pub record CourseState (D P : Type 0) : Type 0 where
  pub part : WorkerPart
  pub driver : D
  pub port : P
  pub place : ℕ
  pub wire : ℕ
  pub frames : List (List ℕ)
  pub fault : Option MachineFault

-- a machine: the same, and the port as it was handed in
pub record MachineState (D P : Type 0) : Type 0 where
  pub part : WorkerPart
  pub driver : D
  pub port : P
  pub place : ℕ
  pub wire : ℕ
  pub frames : List (List ℕ)
  pub fault : Option MachineFault
  pub first : P

-- a machine, by what its driver and its port tell, with its frames by their numbers and their lengths
pub record Seen (S : Type 0) : Type 0 where
  pub part : WorkerPart
  pub driver : Told S
  pub port : PortTold
  pub place : ℕ
  pub wire : ℕ
  pub bank : ℕ → List ℕ
  pub lengths : List ℕ
  pub fault : Option MachineFault

abbrev pub seen : {D P S : Type 0} → (D → Told S) → (P → PortTold) → MachineState D P → Seen S
seen driver_tells port_tells machine = record {
  part = machine.part;
  driver = driver_tells machine.driver;
  port = port_tells machine.port;
  place = machine.place;
  wire = machine.wire;
  bank = bank_of machine.frames;
  lengths = lengths_of machine.frames;
  fault = machine.fault;
}

-- the same of a course
abbrev pub course_seen : {D P S : Type 0} → (D → Told S) → (P → PortTold) → CourseState D P → Seen S
course_seen driver_tells port_tells course = record {
  part = course.part;
  driver = driver_tells course.driver;
  port = port_tells course.port;
  place = course.place;
  wire = course.wire;
  bank = bank_of course.frames;
  lengths = lengths_of course.frames;
  fault = course.fault;
}

-- the directive at which it stands; none past the last one
abbrev pub directive_at : {S : Type 0} → Seen S → Option Directive
directive_at machine = slice_get machine.part.directives machine.place

abbrev pub is_finished : Standing → Bool
is_finished standing.Running = false
is_finished standing.Finished = true
is_finished (standing.Failed _) = false

-- each directive is done, and the driver is finished
pub record IsEnded {S : Type 0} (machine : Seen S) : Type 0 where
  pub past : directive_at machine ≡ None
  pub finished : machine.driver.standing ≡ standing.Finished

-- what a slot in this state has in flight
abbrev pub flight_of : SlotState → Option (Transfer (List ℕ))
flight_of Idle = None
flight_of (AskedRead page) = Some (Reads page)
flight_of (AskedWrite page bytes) = Some (Writes page bytes)
flight_of (HasFailed page) = None
flight_of (IsDamaged damage) = None

-- what each slot has in flight
abbrev pub flights_in : PortTold → ℕ → Option (Transfer (List ℕ))
flights_in port slot = flight_of (slot_state port slot)

-- the machine's engine, with these frames
abbrev pub engine_with : {S : Type 0} → Seen S → (bank : ℕ → List ℕ) → Engine S
engine_with machine bank = record {
  place = machine.place;
  wire = machine.wire;
  driver = machine.driver.state;
  is_finished = is_finished machine.driver.standing;
  bank = bank;
}

-- A worker without its pages that stands where the machine stands, with these frames.
abbrev pub worker_with : {S : Type 0} → Seen S → (bank : ℕ → List ℕ) → Flying (Engine S) (List ℕ)
worker_with machine bank =
    record { engine = engine_with machine bank; flights = flights_in machine.port }

-- These frames hold what the machine's hold, but for those that are left: the next directive which names such a frame
-- gives it another page, or none does.
abbrev pub HoldSame : {S : Type 0} → Seen S → (bank : ℕ → List ℕ) → Type 0
HoldSame machine bank = (frame : ℕ) →
    is_left frame (drop machine.place machine.part.directives) ≡ false →
    bank frame ≡ machine.bank frame
