-- The joint run over pages, and stores that answered with other bytes than were written.
use Rattle.std.specs.Prelude.{◌≡◌, ◌≢◌, ◌++◌, ◌∷◌, ℕ, List, None}
use Rattle.mage_base.specs.Store.{StoreTold, Transfer, Answered}
use Rattle.sha2.specs.Sha256.{sha256}
use Rattle.mage_instr.specs.declared.directive.MemProgram.{MemProgram}
use Rattle.mage_driver.specs.Rules.{Rules}
use Rattle.mage_network.specs.Workers.{said_in}
use Rattle.mage_driver.specs.Calls.{Told, NoneIsDue}
use Rattle.mage_port.specs.Port.{last_written}
use Rattle.mage_store.specs.SerialPort.{transfers_of}
use Rattle.mage_steps.specs.Core.{joint_after}
use Rattle.mage_verified_runs.specs.Turns.{verified_turns}
use Rattle.mage_core.specs.Going.{Start}
use Rattle.mage_core.specs.Results.{Back, Gained}

-- One of these transfers of a page is a read that was answered with other bytes than were last written before it, which have the
-- same digest.
pub record IsForged (transfers : List Transfer) : Type 0 where
  pub before : List Transfer
  pub after : List Transfer
  pub page : ℕ
  pub bytes : List ℕ
  pub is : transfers ≡ before ++ Answered page bytes ∷ after
  pub other : bytes ≢ last_written before
  pub same : sha256 bytes ≡ sha256 (last_written before)

-- A store that doesn't tell its pages answered so: among the transfers that its log gained, where it tells it.
pub record WasDeceived {S : Type 0} (starts : List (Start S)) (drivers : List (Told S)) (stores : List (List StoreTold)) : Type 0 where
  pub worker : ℕ
  pub back : Back starts drivers stores worker
  pub untold : back.start.store.pages ≡ None
  pub made : List Transfer
  pub gained : Gained back.start.store back.store made
  pub page : ℕ
  pub forged : IsForged (transfers_of made page)

-- Each driver stands where the joint run ends, and in none of the calls that it got there was a fault due.
pub record RunsJoint {W : Type 0} (rules : Rules W) (plan : MemProgram) (states : ℕ → rules.State)
    (starts : List (Start rules.State)) (drivers : List (Told rules.State)) (stores : List (List StoreTold)) : Type 0 where
  pub stands : (w : ℕ) (back : Back starts drivers stores w) → back.driver.state
      ≡ (joint_after rules plan states (verified_turns plan.workers) w).state.engine.driver
  pub passed : (w : ℕ) (back : Back starts drivers stores w) → NoneIsDue rules
      (said_in (joint_after rules plan states (verified_turns plan.workers) w).past)
