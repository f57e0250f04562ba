-- Calls of a driver in a row, and what they leave in it.
use Rattle.std.specs.Prelude.{◌≡◌, ◌≤◌, ℕ, List, [], ◌∷◌, ◌⊎◌, Bool, IsTrue, None, Result, Ok, Err}
use Rattle.mage_base.specs.Faults.{Rose}
use Rattle.mage_instr.specs.declared.fault.DriverFault.{DriverFault}
use Rattle.mage_instr.specs.declared.fault.DriverFault.TheVariants as fault
use Rattle.mage_instr.specs.declared.party.Party.{Party}
use Rattle.mage_driver.specs.declared.standing.Standing.{Standing}
use Rattle.mage_driver.specs.declared.standing.Standing.TheVariants as standing
use Rattle.mage_driver.specs.Rules.{Rules}

-- what a driver tells
pub record Told (S : Type 0) : Type 0 where
  pub state : S
  -- whether it runs, has finished, or has failed
  pub standing : Standing
  -- how often its sources and sinks have failed
  pub faults : ℕ
  -- whether its sources tell what they have left, and its sinks what they took; where they don't, nothing
  -- is known of the state that a call leaves
  pub told : Bool

-- what a driver is asked
pub data Ask (W : Type 0) : Type 0 where
  And : (left right : W) → Ask W
  Input : (party : Party) (count : ℕ) → Ask W
  Output : (wires : List W) → Ask W
  Finish : Ask W

-- a call, and the state in which it is made
pub record Call (S W : Type 0) : Type 0 where
  pub state : S
  pub ask : Ask W

-- how a driver stands after a call that is answered Ok
abbrev pub standing_after : {W : Type 0} → Ask W → Standing
standing_after (And left right) = standing.Running
standing_after (Input party count) = standing.Running
standing_after (Output wires) = standing.Running
standing_after Finish = standing.Finished

-- a count of faults of the outside after a fault: it rose where the fault is one of the outside
abbrev pub RoseFor : DriverFault → (before now : ℕ) → Type 0
RoseFor fault.Sink before now = (before ≤ now) × Rose before now
RoseFor fault.Source before now = (before ≤ now) × Rose before now
RoseFor (fault.Short at) before now = before ≤ now
RoseFor (fault.Long at) before now = before ≤ now
RoseFor (fault.Colour at) before now = before ≤ now

module _ {W : Type 0} (rules : Rules W) where
  -- the state after a call that is answered Ok
  abbrev pub reached : rules.State → Ask W → rules.State
  reached state (And left right) = (rules.and state left right).0
  reached state (Input party count) = (rules.input state party count).0
  reached state (Output wires) = rules.output state wires
  reached state Finish = rules.finish state

  abbrev pub led_to : Call rules.State W → rules.State
  led_to call = reached call.state call.ask

  -- no fault is due in any of the calls
  abbrev pub NoneIsDue : List (Call rules.State W) → Type 0
  NoneIsDue [] = Unit {0}
  NoneIsDue (call ∷ calls) = (rules.due call.state (led_to call) ≡ None) × NoneIsDue calls

  -- one of the calls may answer the fault, after Ok from those before it, and leave this state
  abbrev pub SomeStops : List (Call rules.State W) → DriverFault → rules.State → Type 0
  SomeStops [] f after = ⊥
  SomeStops (call ∷ calls) f after =
      rules.Stops call.state (led_to call) f after ⊎ SomeStops calls f after

  -- the driver stands at a fault that one of the calls answered
  pub record Fell (calls : List (Call rules.State W)) (before : Told rules.State) (f : DriverFault)
      (after : Told rules.State) : Type 0 where
    pub stopped : IsTrue before.told → SomeStops calls f after.state
    pub failed : after.standing ≡ standing.Failed f
    pub counted : RoseFor f before.faults after.faults
    pub told : after.told ≡ before.told

  abbrev pub call_of : rules.State → Ask W → Call rules.State W
  call_of state ask = record { state = state; ask = ask }

  -- a call was answered Ok: where the state is told, no fault was due, and it is the one to be reached
  pub record Answered (ask : Ask W) (before after : Told rules.State) : Type 0 where
    pub passed : IsTrue before.told → NoneIsDue (call_of before.state ask ∷ [])
    pub state : IsTrue before.told → after.state ≡ reached before.state ask
    pub rest : after ≡ record before { state = after.state; standing = standing_after ask }

  -- what a single call leaves in a driver
  abbrev pub Asked : {X : Type 0} → Ask W → (before after : Told rules.State) →
      Result X DriverFault → Type 0
  Asked ask before after (Ok _) = Answered ask before after
  Asked ask before after (Err f) = Fell (call_of before.state ask ∷ []) before f after
