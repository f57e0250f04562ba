-- What the laws of the core say.
use Rattle.std.specs.Prelude.{◌≡◌, ℕ, List}
use Rattle.mage_instr.specs.declared.directive.MemProgram.{MemProgram}
use Rattle.mage_network.specs.Workers.{Stops, Worker, said_in, sent_to}
use Rattle.mage_network.specs.Pasts.{IsPrefix}
use Rattle.mage_network.specs.Network.{Network}
use Rattle.mage_network.specs.Together.{Joint}
use Rattle.mage_network.specs.Waiting.{Event, after_events, SomeCanHappen}
use Rattle.mage_network.specs.Slots.{Service, over_slots}
use Rattle.mage_driver.specs.Rules.{Rules, Grows}
use Rattle.mage_driver.specs.Calls.{Call}
use Rattle.mage_steps.specs.Core.{Core, engine_of, core_at_first, core_act, joint_after}
use Rattle.mage_steps.specs.Orderly.{IsThrough}

module _ {W : Type 0} (rules : Rules W) (plan : MemProgram) (drivers : ℕ → rules.State) where
  -- the core after some events: turns of workers, and transfers that others claim and serve, in any
  -- order; a turn or a service that isn't enabled changes nothing
  abbrev pub core_after : (capacity : ℕ) → List (Event Service) →
      Network (Core rules plan) (Call rules.State W) (List ℕ)
  core_after capacity events = after_events (over_slots (engine_of rules plan)) (core_at_first
      rules plan drivers) capacity events

  -- some event is enabled
  abbrev pub SomeIsEnabled : (capacity : ℕ) → List (Event Service) → Type 0
  SomeIsEnabled capacity events = SomeCanHappen (over_slots (engine_of rules plan)) capacity
      (core_after capacity events)

  -- a worker has ended after some joint turns
  abbrev pub EndsInJoint : (turns : List Joint) → (worker : ℕ) → Type 0
  EndsInJoint turns worker = core_act rules plan worker (joint_after rules plan drivers turns
      worker).state ≡ Stops

-- a worker and what it does in the whole run: the same engine, pages and past
pub record IsWhole {W : Type 0} (rules : Rules W) (plan : MemProgram)
    (worker whole : Worker (Core rules plan) (Call rules.State W) (List ℕ)) : Type 0 where
  pub engine : worker.state.engine ≡ whole.state.engine
  pub pages : (page : ℕ) → worker.state.pages page ≡ whole.state.pages page
  pub past : worker.past ≡ whole.past

-- All that a worker said, sent, put out and wrote begins what it does in the whole run; and once it
-- is through, it did all of it.
pub record BeginsJoint {W : Type 0} (rules : Rules W) (plan : MemProgram) (n : ℕ)
    (worker whole : Worker (Core rules plan) (Call rules.State W) (List ℕ)) : Type 0 where
  pub said : IsPrefix (said_in worker.past) (said_in whole.past)
  pub sent : (m : ℕ) → IsPrefix (sent_to m worker.past) (sent_to m whole.past)
  pub grows : Grows rules worker.state.engine.driver whole.state.engine.driver
  pub through : IsThrough rules plan n worker.state → IsWhole rules plan worker whole
