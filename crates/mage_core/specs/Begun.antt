-- How far each driver has come, also where a run has a fault.
use Rattle.std.specs.Prelude.{◌≡◌, ◌++◌, ℕ, List, Option, Some}
use Rattle.mage_base.specs.Store.{StoreTold, Transfer}
use Rattle.mage_instr.specs.declared.directive.MemProgram.{MemProgram}
use Rattle.mage_instr.specs.declared.fault.DriverFault.{DriverFault}
use Rattle.mage_network.specs.Workers.{said_in}
use Rattle.mage_driver.specs.Rules.{Rules, Grows}
use Rattle.mage_driver.specs.Calls.{Told, Call, NoneIsDue, SomeStops}
use Rattle.mage_store.specs.SerialPort.{transfers_of}
use Rattle.mage_steps.specs.Core.{answered_after, joint_after}
use Rattle.mage_verified_runs.specs.Turns.{verified_turns}
use Rattle.mage_engine.specs.Steps.{heard_in}
use Rattle.mage_core.specs.declared.fault.RunFault.{RunFault}
use Rattle.mage_core.specs.declared.fault.RunFault.TheVariants as fault
use Rattle.mage_core.specs.Going.{Start}
use Rattle.mage_core.specs.Results.{Back, Gained}

-- what a driver put out and wrote grew since the first state, and begins what it is in the last
pub record StandsBetween {W : Type 0} (rules : Rules W) (first now last : rules.State) : Type 0 where
  pub since : Grows rules first now
  pub until : Grows rules now last

-- The driver stopped at one of these calls, which answered the fault and left this state. It is one of the calls of one step, and
-- in none of the calls of the steps before was a fault due.
pub record StopsFirst {W : Type 0} (rules : Rules W) (calls : List (Call rules.State W)) (f : DriverFault) (after : rules.State) : Type 0 where
  pub before : List (Call rules.State W)
  pub step : List (Call rules.State W)
  pub later : List (Call rules.State W)
  pub are : calls ≡ before ++ (step ++ later)
  pub passed : NoneIsDue rules before
  pub stopped : SomeStops rules step f after

-- Each driver stands between its first state and the end of the joint run whose reads take these answers: for each page of a
-- worker, in order, what its store answered among the transfers that its log gained. One that was stopped was so in a call of
-- that run.
pub record BeginsAnswered {W : Type 0} (rules : Rules W) (plan : MemProgram) (states : ℕ → rules.State)
    (starts : List (Start rules.State)) (drivers : List (Told rules.State)) (stores : List (List StoreTold)) (found : Option RunFault) : Type 0 where
  pub answers : (worker page : ℕ) → List (List ℕ)
  pub given : (w : ℕ) (back : Back starts drivers stores w) →
      (made : List Transfer) × Gained back.start.store back.store made × (answers w ≡ heard_in (transfers_of made))
  pub grows : (w : ℕ) (back : Back starts drivers stores w) → StandsBetween rules back.start.driver.state back.driver.state
      (answered_after rules plan states answers (verified_turns plan.workers) w).state.state.engine.driver
  pub caused : (w : ℕ) (f : DriverFault) → found ≡ Some (fault.Driver w f) → (back : Back starts drivers stores w) →
      SomeStops rules (said_in (answered_after rules plan states answers (verified_turns plan.workers) w).past) f back.driver.state

-- The same of the joint run over pages, in which a read brings what was last written.
pub record BeginsJoint {W : Type 0} (rules : Rules W) (plan : MemProgram) (states : ℕ → rules.State)
    (starts : List (Start rules.State)) (drivers : List (Told rules.State)) (stores : List (List StoreTold)) (found : Option RunFault) : Type 0 where
  pub grows : (w : ℕ) (back : Back starts drivers stores w) → StandsBetween rules back.start.driver.state back.driver.state
      (joint_after rules plan states (verified_turns plan.workers) w).state.engine.driver
  pub caused : (w : ℕ) (f : DriverFault) → found ≡ Some (fault.Driver w f) → (back : Back starts drivers stores w) →
      StopsFirst rules (said_in (joint_after rules plan states (verified_turns plan.workers) w).past) f back.driver.state
