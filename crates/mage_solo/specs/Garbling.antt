-- A run that garbles.
use Rattle.std.specs.Prelude.{◌≡◌, ◌≤◌, ◌+◌, ◌++◌, ℕ, List, [], ◌∷◌, length, map, Vec, IfSome, IsTrue, Some, slice_get, unwrap_or}
use Rattle.std.specs.Global.{Global}
use Rattle.std.specs.Option.{option_map}
use Rattle.mage_base.specs.Faults.{Rose}
use Rattle.mage_base.specs.Sink.{SinkTold}
use Rattle.mage_base.specs.Store.{StoreTold}
use Rattle.mage_driver.specs.declared.standing.Standing.TheVariants as standing
use Rattle.mage_driver.specs.Calls.{Told}
use Rattle.mage_instr.specs.declared.fault.DriverFault.TheVariants as broken
use Rattle.mage_verify.specs.Parts.{WorkerPart}
use Rattle.mage_core.specs.declared.fault.RunFault.{RunFault}
use Rattle.mage_core.specs.declared.fault.RunFault.TheVariants as fault
use Rattle.mage_garble.specs.Rule.{Garbling, FailsAtItsSink, garbling_from}
use Rattle.mage_garble.specs.Sending.{tells_taken}
use Rattle.mage_solo.specs.Stores.{HasBroken, HasDamaged}
use Rattle.mage_solo.specs.Plain.{lists_of}

-- what the sink of a worker told before a run, and what it tells after it
pub record Sunk (before after : List SinkTold) (worker : ℕ) : Type 0 where
  pub old : SinkTold
  pub new : SinkTold
  pub old_so : slice_get before worker ≡ Some old
  pub new_so : slice_get after worker ≡ Some new

-- each sink tells what it has taken
abbrev pub AllTellTaken : List SinkTold → Type 0
AllTellTaken sinks = (w : ℕ) → IfSome (slice_get sinks w) (λ sink. IsTrue (tells_taken sink))

-- A sink is steady and has room for these bytes.
pub record HasRoomFor (sink : SinkTold) (bytes : List ℕ) : Type 0 where
  pub steady : IsTrue sink.steady
  pub room : length bytes ≤ sink.room

-- each sink has room for the stream of its worker
abbrev pub AllHaveRoom : List SinkTold → (stream : ℕ → List ℕ) → Type 0
AllHaveRoom sinks stream = (w : ℕ) → IfSome (slice_get sinks w) (λ sink. HasRoomFor sink (stream w))

-- A sink took these bytes more, and never failed.
pub record TookAll (old new : SinkTold) (bytes : List ℕ) : Type 0 where
  pub taken : new.taken ≡ option_map (λ earlier. earlier ++ bytes) old.taken
  pub faults : new.faults ≡ old.faults

-- A sink took nothing and never failed.
pub record TookNone (old new : SinkTold) : Type 0 where
  pub taken : IsTrue (tells_taken old) → new.taken ≡ old.taken
  pub faults : new.faults ≡ old.faults

module _ (before after : List SinkTold) where
  -- each sink took the stream of its worker
  abbrev pub AllTook : (stream : ℕ → List ℕ) → Type 0
  AllTook stream = (w : ℕ) (sink : Sunk before after w) → TookAll sink.old sink.new (stream w)

  -- no sink took anything
  abbrev pub NoneTook : Type 0
  NoneTook = (w : ℕ) (sink : Sunk before after w) → TookNone sink.old sink.new

  -- no sink failed
  abbrev pub NoneFailed : Type 0
  NoneFailed = (w : ℕ) (sink : Sunk before after w) → sink.new.faults ≡ sink.old.faults

  -- each sink that told what it had taken tells it still
  abbrev pub TellStill : Type 0
  TellStill = (w : ℕ) (sink : Sunk before after w) → IsTrue (tells_taken sink.old)
      → IsTrue (tells_taken sink.new)

  -- the sink of a worker failed
  abbrev pub HasStopped : ℕ → Type 0
  HasStopped w = (sink : Sunk before after w)
      × (sink.old.faults ≤ sink.new.faults) × Rose sink.old.faults sink.new.faults

-- Why a run that garbles stopped: a store failed, or brought back another page than it was given, or a sink failed.
abbrev pub GarbleStops : List WorkerPart → (before after : List (List StoreTold)) → (sinks sinks' : List SinkTold) → RunFault → Type 0
GarbleStops parts before after sinks sinks' (fault.Store worker) = HasBroken parts before after worker
GarbleStops parts before after sinks sinks' (fault.Driver worker f) = (f ≡ broken.Sink) × HasStopped sinks sinks' worker
GarbleStops parts before after sinks sinks' (fault.Damaged worker damage) = HasDamaged parts before after worker damage
GarbleStops parts before after sinks sinks' fault.Memory = Unit {0}

-- No store stopped a run that garbles: there was no memory, or a sink failed.
abbrev pub IsOfNoStore : RunFault → Type 0
IsOfNoStore (fault.Store worker) = ⊥
IsOfNoStore (fault.Driver worker f) = f ≡ broken.Sink
IsOfNoStore (fault.Damaged worker damage) = ⊥
IsOfNoStore fault.Memory = Unit {0}

-- the driver of a worker before its first call
abbrev pub garbler_opening : (seed : List ℕ) → (worker : ℕ) → (values : List ℕ) → SinkTold → Told Garbling
garbler_opening seed worker values sink = record {
  state = garbling_from seed worker values 0 0 sink;
  standing = standing.Running;
  faults = sink.faults;
  told = tells_taken sink;
}

-- the drivers of workers, numbered from one on
abbrev pub garbler_openings : (seed : List ℕ) → (worker : ℕ) → (values : List (List ℕ)) → List SinkTold → List (Told Garbling)
garbler_openings seed worker (own ∷ values) (sink ∷ sinks) =
    garbler_opening seed worker own sink ∷ garbler_openings seed (worker + 1) values sinks
garbler_openings seed worker _ _ = []

-- what a driver's sink tells that was handed back
pub record IsClosed (driver : Told Garbling) (sink : SinkTold) : Type 0 where
  pub stream : driver.state.sending.stream ≡ unwrap_or sink.taken []
  pub told : IsTrue driver.told → IsTrue (tells_taken sink)
  pub faults : driver.faults ≡ sink.faults
  pub failing : FailsAtItsSink driver.standing

-- the same of each driver, in order
abbrev pub AreClosed : List (Told Garbling) → List SinkTold → Type 0
AreClosed [] [] = Unit {0}
AreClosed (driver ∷ drivers) (sink ∷ sinks) = IsClosed driver sink × AreClosed drivers sinks
AreClosed _ _ = ⊥

-- Drivers were taken apart: behind these sinks stand those that were handed back.
pub record HandsBack {K : Type 0} (tells : K → SinkTold) (drivers : List (Told Garbling)) (before after : List K) : Type 0 where
  pub back : List K
  pub whole : after ≡ before ++ back
  pub closed : AreClosed drivers (map tells back)

-- Drivers were made over the last sinks, with the last values; those in front are left. They are numbered from the first that was made.
pub record AreMadeOf {K : Type 0} (tells : K → SinkTold) (seed : List ℕ) (values : List (Vec ℕ Global)) (all left : List K) (drivers : List (Told Garbling)) :
    Type 0 where
  pub taken : List K
  pub used : List (Vec ℕ Global)
  pub unused : List (Vec ℕ Global)
  pub sinks : all ≡ left ++ taken
  pub values_are : values ≡ unused ++ used
  pub together : length unused ≡ length left
  pub made : drivers ≡ garbler_openings seed (length left) (lists_of used) (map tells taken)
