-- Machines that were made, and the drivers and the stores that they hold.
use Rattle.std.specs.Prelude.{reverse, ◌≡◌, ◌≤◌, ◌+◌, ◌*◌, ℕ, List, [], ◌∷◌, ◌++◌, length, map, take, drop, Vec}
use Rattle.std.specs.Vec.{vec_capacity}
use Rattle.std.specs.List.{All}
use Rattle.std.specs.Global.{Global}
use Rattle.mage_base.specs.Store.{StoreTold}
use Rattle.mage_driver.specs.declared.standing.Standing.TheVariants as standing
use Rattle.mage_driver.specs.Rules.{Rules}
use Rattle.mage_driver.specs.Calls.{Told}
use Rattle.mage_port.specs.Port.{IsUnused}
use Rattle.mage_verify.specs.Parts.{WorkerPart}
use Rattle.mage_verify.specs.Runs.{IsSafe, Runs}
use Rattle.mage_engine.specs.Seen.{seen}
use Rattle.mage_engine.specs.Ready.{opened}
use Rattle.mage_core.specs.Ports.{RunMachine, port_tells, store_of, first_of}

-- the stores of each worker
abbrev pub shelves : {S : Type 0} → List (Vec S Global) → List (List S)
shelves stores = map (λ shelf. shelf.items) stores

-- a machine before its first step, over a store that was just handed in
pub record IsNew {W D S : Type 0} (rules : Rules W) (driver_tells : D → Told rules.State) (store_tells : S → StoreTold)
    (machine : RunMachine D S) : Type 0 where
  pub opens : seen driver_tells (port_tells store_tells) machine
      ≡ opened rules machine.part (driver_tells machine.driver) (port_tells store_tells machine.port)
  pub unused : IsUnused (port_tells store_tells machine.port)
  pub running : (driver_tells machine.driver).standing ≡ standing.Running
  pub first : first_of machine ≡ store_of machine
  pub bytes : (port_tells store_tells machine.port).page_bytes ≡ (store_tells (first_of machine)).page_bytes
  pub safe : IsSafe machine.part
  pub runs : Runs machine.part

-- a shelf whose store a machine has, with room for it
pub record IsEmptied {S : Type 0} (shelf : Vec S Global) : Type 0 where
  pub empty : shelf.items ≡ []
  pub room : 1 ≤ vec_capacity shelf

-- one store, whose pages are as long as those of the part
pub record HasStoreOf {S : Type 0} (wire_bytes : ℕ) (tells : S → StoreTold) (part : WorkerPart) (stores : List S) : Type 0 where
  pub one : length stores ≡ 1
  pub bytes : All (λ store. (tells store).page_bytes ≡ part.limits.page * wire_bytes) stores

-- The machines of the last workers, from the last one on, hold the drivers and the stores that are missing from these lists
-- of all drivers and of each worker's stores.
pub record Hold {D S : Type 0} (drivers : List D) (stores : List (Vec S Global)) (machines : List (RunMachine D S))
    (all_drivers : List D) (all_stores : List (List S)) : Type 0 where
  pub count : length stores ≡ length drivers + length machines
  pub drivers_are : drivers ++ reverse (map (λ machine. machine.driver) machines) ≡ all_drivers
  pub stores_are : shelves (take (length drivers) stores) ++ reverse (map (λ machine. store_of machine ∷ []) machines) ≡ all_stores
  pub emptied : All IsEmptied (drop (length drivers) stores)
