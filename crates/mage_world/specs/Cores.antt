-- A world beside the core's network, whose pasts it doesn't keep.
use Rattle.std.specs.Prelude.{◌≡◌, ℕ, List, IsTrue, Option, None, Some, slice_get}
use Rattle.mage_instr.specs.declared.directive.MemProgram.{MemProgram}
use Rattle.mage_driver.specs.Rules.{Rules}
use Rattle.mage_driver.specs.Calls.{Call, Told}
use Rattle.mage_network.specs.Network.{Network}
use Rattle.mage_network.specs.Waiting.{Event, Turn, Happens}
use Rattle.mage_network.specs.Slots.{Service}
use Rattle.mage_steps.specs.Core.{Core, core_at_first}
use Rattle.mage_verify.specs.Parts.{parts_of}
use Rattle.mage_world.specs.Seats.{Seat}
use Rattle.mage_world.specs.Worlds.{Seen, What, IsTurn, IsService}

-- what the core has for it: the turn of a worker, or a thing that happens to it
abbrev pub core_what : (n : ℕ) → What → Event Service
core_what n (IsTurn kind) = Turn n
core_what n (IsService service) = Happens n service

-- the networks of the core
abbrev pub CoreNetwork : {W : Type 0} (rules : Rules W) → MemProgram → Type 0
CoreNetwork {W} rules plan = Network (Core rules plan) (Call rules.State W) (List ℕ)

module _ {W : Type 0} (rules : Rules W) (plan : MemProgram) (drivers : ℕ → rules.State) where
  -- a worker's state in the core; beside the workers that of the core's opening
  abbrev pub core_of_seat : Option (Seat rules.State) → (n : ℕ) → Core rules plan
  core_of_seat (Some seat) n = seat.core
  core_of_seat None n = core_at_first rules plan drivers n

  -- The world's workers and links are as those of the network.
  pub record Shows (world : Seen rules.State)
      (network : Network (Core rules plan) (Call rules.State W) (List ℕ)) : Type 0 where
    pub parts : world.parts ≡ parts_of plan
    pub each : (n : ℕ) → (network.workers n).state ≡ core_of_seat (slice_get world.seats n) n
    pub links : network.links ≡ world.wires

-- the driver of a worker is told
abbrev pub IsTold : {S : Type 0} → Seen S → (n : ℕ) → Type 0
IsTold {S} world n = (seat : Seat S) → slice_get world.seats n ≡ Some seat → IsTrue seat.driver.told

-- these are the states of some drivers, by their numbers
abbrev pub AreStates : {D S : Type 0} → (D → Told S) → List D → (ℕ → S) → Type 0
AreStates {D} tells drivers states = (n : ℕ) (driver : D) → slice_get drivers n ≡ Some driver →
    (tells driver).state ≡ states n
