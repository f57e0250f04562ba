-- What a run leaves of each worker.
use Rattle.std.specs.Prelude.{◌≡◌, ◌≤◌, ◌+◌, ◌++◌, ◌∷◌, ℕ, List, [], Option, None, Some, slice_get}
use Rattle.std.specs.Option.{option_map}
use Rattle.mage_base.specs.Faults.{Rose}
use Rattle.mage_base.specs.Store.{StoreTold, Transfer}
use Rattle.mage_driver.specs.declared.standing.Standing.TheVariants as standing
use Rattle.mage_driver.specs.Calls.{Told, RoseFor}
use Rattle.mage_store.specs.SealedPort.{EndInDamage}
use Rattle.mage_store.specs.SerialPort.{transfers_of}
use Rattle.mage_verify.specs.Parts.{WorkerPart}
use Rattle.mage_core.specs.declared.fault.RunFault.{RunFault}
use Rattle.mage_core.specs.declared.fault.RunFault.TheVariants as fault
use Rattle.mage_core.specs.Going.{Start, reads_of, writes_of}

-- the workers as they are handed in, each with one store
abbrev pub starts_of : {S : Type 0} → List WorkerPart → List (Told S) → List (List StoreTold) → List (Start S)
starts_of (part ∷ parts) (driver ∷ drivers) ((store ∷ rest) ∷ stores) =
    record { part = part; driver = driver; store = store } ∷ starts_of parts drivers stores
starts_of _ _ _ = []

-- a worker as it was handed in, and what its driver and its store tell in the end
pub record Back {S : Type 0} (starts : List (Start S)) (drivers : List (Told S)) (stores : List (List StoreTold)) (worker : ℕ) : Type 0 where
  pub start : Start S
  pub driver : Told S
  pub store : StoreTold
  pub starts_so : slice_get starts worker ≡ Some start
  pub driver_so : slice_get drivers worker ≡ Some driver
  pub store_so : slice_get stores worker ≡ Some (store ∷ [])

-- A worker has ended: its driver is finished, nothing of it failed, and its store was read and written as often as its part
-- finishes reads and writes.
pub record IsDone {S : Type 0} (start : Start S) (driver : Told S) (store : StoreTold) : Type 0 where
  pub finished : driver.standing ≡ standing.Finished
  pub driver_faults : driver.faults ≡ start.driver.faults
  pub store_faults : store.faults ≡ start.store.faults
  pub reads : store.reads ≡ start.store.reads + reads_of start.part.directives
  pub writes : store.writes ≡ start.store.writes + writes_of start.part.directives

-- these transfers are what the log of a store gained, where it is told
abbrev pub Gained : (before after : StoreTold) → List Transfer → Type 0
Gained before after made = after.log ≡ option_map (λ earlier. earlier ++ made) before.log

-- What a store tells grew: no count fell, and its log only gained transfers.
pub record Grew (before after : StoreTold) : Type 0 where
  pub reads : before.reads ≤ after.reads
  pub writes : before.writes ≤ after.writes
  pub faults : before.faults ≤ after.faults
  pub log : (made : List Transfer) × Gained before after made

-- What stays of a worker, however a run ends: what its store tells grew, and its driver tells as much as before.
pub record Stays {S : Type 0} (start : Start S) (driver : Told S) (store : StoreTold) : Type 0 where
  pub grew : Grew start.store store
  pub told : driver.told ≡ start.driver.told

-- the same of each worker
abbrev pub AllStay : {S : Type 0} → (starts : List (Start S)) → (drivers : List (Told S)) → (stores : List (List StoreTold)) → Type 0
AllStay starts drivers stores = (w : ℕ) (back : Back starts drivers stores w) → Stays back.start back.driver back.store

-- the worker that a fault names
abbrev pub worker_of : RunFault → Option ℕ
worker_of (fault.Store worker) = Some worker
worker_of (fault.Driver worker f) = Some worker
worker_of (fault.Damaged worker damage) = Some worker
worker_of fault.Memory = None

-- Why a worker stopped: its store failed; its driver has this fault; or among the transfers of a page the last is a read that was
-- answered with the digest found, where the last write before it has the digest kept, which is another.
abbrev pub CausedBy : {S : Type 0} → (start : Start S) → (driver : Told S) → (store : StoreTold) → RunFault → Type 0
CausedBy start driver store (fault.Store worker) = (start.store.faults ≤ store.faults) × Rose start.store.faults store.faults
CausedBy start driver store (fault.Driver worker f) =
    (driver.standing ≡ standing.Failed f) × RoseFor f start.driver.faults driver.faults
CausedBy start driver store (fault.Damaged worker damage) =
    (made : List Transfer) × Gained start.store store made × EndInDamage damage (transfers_of made damage.page)
CausedBy start driver store fault.Memory = ⊥

-- what a run comes to, but for want of memory
abbrev pub ComesTo : {S : Type 0} → (starts : List (Start S)) → (drivers : List (Told S)) → (stores : List (List StoreTold)) → Option RunFault → Type 0
ComesTo starts drivers stores None = (w : ℕ) (back : Back starts drivers stores w) → IsDone back.start back.driver back.store
ComesTo starts drivers stores (Some fault.Memory) = Unit {0}
ComesTo starts drivers stores (Some (fault.Store worker)) =
    (back : Back starts drivers stores worker) × CausedBy back.start back.driver back.store (fault.Store worker)
ComesTo starts drivers stores (Some (fault.Driver worker f)) =
    (back : Back starts drivers stores worker) × CausedBy back.start back.driver back.store (fault.Driver worker f)
ComesTo starts drivers stores (Some (fault.Damaged worker damage)) =
    (back : Back starts drivers stores worker) × CausedBy back.start back.driver back.store (fault.Damaged worker damage)
