-- How far a world is, and where it is at its end.
use Rattle.std.specs.Prelude.{◌≡◌, ◌<◌, ℕ, List, true, length, Option, None, Some, slice_get}
use Rattle.mage_instr.specs.declared.fault.DriverFault.{DriverFault}
use Rattle.mage_network.specs.Laws.{IsCapacity}
use Rattle.mage_network.specs.Slots as net
use Rattle.mage_steps.specs.Orderly.{Flight, Reading, Writing, flights_before}
use Rattle.mage_verify.specs.Parts.{WorkerPart}
use Rattle.mage_verify.specs.Runs.{AreVerified}
use Rattle.mage_progress.specs.Stands.{Stand, Held, at_first, IsReached}
use Rattle.mage_world.specs.Seats.{Seat}
use Rattle.mage_world.specs.Turns.{Wires}
use Rattle.mage_world.specs.Worlds.{Seen}

-- ---- how far it is

-- how far a worker is
abbrev pub stand_of : {S : Type 0} → Seat S → Stand
stand_of seat = record {
  place = seat.core.engine.place;
  wire = seat.core.engine.wire;
  finished = seat.core.engine.is_finished;
}

-- beside the workers nothing is done
abbrev pub stand_in : {S : Type 0} → Option (Seat S) → Stand
stand_in (Some seat) = stand_of seat
stand_in None = at_first

abbrev pub stands_of : {S : Type 0} → List (Seat S) → (n : ℕ) → Stand
stands_of seats n = stand_in (slice_get seats n)

-- how many wires lie on each link
abbrev pub held_in : Wires → Held
held_in wires source target = length (wires source target)

-- the page that a slot reads or writes
abbrev pub flight_of : net.Transfer (List ℕ) → Flight
flight_of (net.Reads page) = Reading page
flight_of (net.Writes page bytes) = Writing page

abbrev pub flight_in : net.Slot (List ℕ) → Option Flight
flight_in net.Idle = None
flight_in (net.Asked transfer) = Some (flight_of transfer)
flight_in (net.Busy transfer) = Some (flight_of transfer)
flight_in (net.Served transfer bytes) = Some (flight_of transfer)

-- each slot has in flight what the directives say that are done
abbrev pub IsInFlight : {S : Type 0} → WorkerPart → Seat S → Type 0
IsInFlight part seat = (slot : ℕ) →
    flight_in (seat.core.slots slot) ≡ flights_before part.directives seat.core.engine.place slot

-- A world of a memory program without a fault, to which some events led: its workers stand where steps of theirs, in some
-- order, lead, as many wires lie on the links, and the transfers in flight are those that were issued and not finished.
pub record IsOnItsWay {S : Type 0} (world : Seen S) : Type 0 where
  pub verified : AreVerified world.parts
  pub room : IsCapacity world.capacity
  pub count : length world.seats ≡ length world.parts
  pub reached : IsReached world.parts (stands_of world.seats) (held_in world.wires)
  pub flights : (n : ℕ) (part : WorkerPart) (seat : Seat S) → slice_get world.parts n ≡ Some part →
      slice_get world.seats n ≡ Some seat → IsInFlight part seat

-- ---- the end

-- A worker is through: each directive is done, the driver is finished, and no slot is in flight.
pub record IsThrough {S : Type 0} (part : WorkerPart) (seat : Seat S) : Type 0 where
  pub past : slice_get part.directives seat.core.engine.place ≡ None
  pub finished : seat.core.engine.is_finished ≡ true
  pub idle : (slot : ℕ) → seat.core.slots slot ≡ net.Idle

-- each worker is through
abbrev pub IsFinal : {S : Type 0} → Seen S → Type 0
IsFinal {S} world = (n : ℕ) → n < length world.parts → (part : WorkerPart) × (seat : Seat S)
    × (slice_get world.parts n ≡ Some part) × (slice_get world.seats n ≡ Some seat) × IsThrough part seat

-- the driver of some worker has failed
abbrev pub HasFailed : {S : Type 0} → Seen S → Type 0
HasFailed {S} world = (n : ℕ) × (seat : Seat S) × (fault : DriverFault)
    × (slice_get world.seats n ≡ Some seat) × (seat.fault ≡ Some fault)
