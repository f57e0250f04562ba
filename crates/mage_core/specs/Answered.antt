-- The joint run over what the stores answered.
use Rattle.std.specs.Prelude.{◌≡◌, ℕ, List, IfSome, IsTrue, slice_get}
use Rattle.mage_base.specs.Store.{StoreTold, Transfer}
use Rattle.mage_instr.specs.declared.directive.MemProgram.{MemProgram}
use Rattle.mage_driver.specs.Rules.{Rules}
use Rattle.mage_driver.specs.Calls.{Told}
use Rattle.mage_store.specs.SerialPort.{transfers_of}
use Rattle.mage_steps.specs.Core.{answered_after}
use Rattle.mage_verified_runs.specs.Turns.{verified_turns}
use Rattle.mage_engine.specs.Steps.{heard_in}
use Rattle.mage_core.specs.Going.{Start}
use Rattle.mage_core.specs.Results.{Back, Gained}

-- these are the states of the drivers as they were handed in
abbrev pub AreStates : {S : Type 0} → List (Start S) → (states : ℕ → S) → Type 0
AreStates starts states = (w : ℕ) → IfSome (slice_get starts w) (λ start. states w ≡ start.driver.state)

-- each driver is told
abbrev pub AreTold : {S : Type 0} → List (Start S) → Type 0
AreTold starts = (w : ℕ) → IfSome (slice_get starts w) (λ start. IsTrue start.driver.told)

-- The drivers stand where the joint run ends whose reads take these answers: for each page of a worker, in order, what its store
-- answered among the transfers that its log gained.
pub record RunsAnswered {W : Type 0} (rules : Rules W) (plan : MemProgram) (states : ℕ → rules.State)
    (starts : List (Start rules.State)) (drivers : List (Told rules.State)) (stores : List (List StoreTold)) : Type 0 where
  pub answers : (worker page : ℕ) → List (List ℕ)
  pub given : (w : ℕ) (back : Back starts drivers stores w) →
      (made : List Transfer) × Gained back.start.store back.store made × (answers w ≡ heard_in (transfers_of made))
  pub stands : (w : ℕ) (back : Back starts drivers stores w) → back.driver.state
      ≡ (answered_after rules plan states answers (verified_turns plan.workers) w).state.state.engine.driver
