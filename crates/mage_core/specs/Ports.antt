-- The ports of a run: a sealed port over a serial port over the store of a worker.
use Rattle.std.specs.Prelude.{◌≡◌, ◌++◌, ℕ, List}
use Rattle.std.specs.List.{All, flat_map}
use Rattle.std.specs.Option.{option_to_list}
use Rattle.mage_base.specs.Store.{StoreTold}
use Rattle.mage_port.specs.Port.{PortTold}
use Rattle.mage_store.specs.SerialPort as serial
use Rattle.mage_store.specs.SerialPort.{SerialState, CameFrom}
use Rattle.mage_store.specs.SealedPort as sealed
use Rattle.mage_store.specs.SealedPort.{SealedState, StandsOver}
use Rattle.mage_instr.specs.declared.directive.Directive.{Directive}
use Rattle.mage_engine.specs.Seen.{MachineState}
use Rattle.mage_engine.specs.Ready.{page_moved}

abbrev pub RunPort : (S : Type 0) → Type 0
RunPort S = SealedState (SerialState S)

abbrev pub RunMachine : (D S : Type 0) → Type 0
RunMachine D S = MachineState D (RunPort S)

-- what the port tells, over a store that tells so
abbrev pub port_tells : {S : Type 0} → (S → StoreTold) → RunPort S → PortTold
port_tells tells = sealed.port_told (serial.port_told tells)

-- the store below a machine, and the one that was handed in
abbrev pub store_of : {D S : Type 0} → RunMachine D S → S
store_of machine = machine.port.port.store

abbrev pub first_of : {D S : Type 0} → RunMachine D S → S
first_of machine = machine.port.port.first

-- the pages that some directives move, in order
abbrev pub pages_moved : List Directive → List ℕ
pages_moved directives = flat_map (λ directive. option_to_list (page_moved directive)) directives

-- How the store stands to what the machine's port tells: the port stands over a serial port, whose store came from the one
-- that was handed in.
pub record CameBy {D S : Type 0} (tells : S → StoreTold) (machine : RunMachine D S) : Type 0 where
  pub over : StandsOver (port_tells tells machine.port) (serial.port_told tells machine.port.port)
  pub came : CameFrom (tells (first_of machine)) (tells (store_of machine)) machine.port.port.slots machine.port.port.made

-- These machines stand in front of others, which were taken apart, and their stores came by them.
pub record LeftOf {D S : Type 0} (tells : S → StoreTold) (now all : List (RunMachine D S)) : Type 0 where
  pub later : List (RunMachine D S)
  pub whole : now ++ later ≡ all
  pub came : All (CameBy tells) later
