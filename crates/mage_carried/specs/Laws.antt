-- What holds of a memory program that carries a program.
use Rattle.std.specs.Prelude.{◌≡◌, ◌<◌, ℕ, List, [], ◌∷◌, ◌++◌}
use Rattle.mage_instr.specs.declared.directive.MemProgram.{MemProgram}
use Rattle.mage_instr.specs.Sound.{IsSound}
use Rattle.mage_linked.specs.Emission.{own_instrs, program_of}
use Rattle.mage_linked.specs.Linked.{AreLinked}
use Rattle.mage_linked.specs.declared.emitted.Emitted.{Emitted}
use Rattle.mage_network.specs.Workers.{Worker, said_in}
use Rattle.mage_network.specs.Together.{Joint}
use Rattle.mage_driver.specs.Rules.{Rules}
use Rattle.mage_driver.specs.Calls.{Call, Finish, call_of}
use Rattle.mage_relations.specs.Unplaced.{Unplaced, starting_in, run_of, calls_of}
use Rattle.mage_steps.specs.Core.{Core, joint_after}
use Rattle.mage_steps.specs.Laws.{EndsInJoint}
use Rattle.mage_carry.specs.declared.carry.Carry.TheVariants as carry
use Rattle.mage_carry.specs.Carrying.{carries_of}

-- the instructions of so many workers, in the order of their emission: each Send is followed by its Recv,
-- and each worker's can run
pub record CanRun (count : ℕ) (emitted : List Emitted) : Type 0 where
  pub linked : AreLinked count emitted
  pub sound : (worker : ℕ) → worker < count → IsSound (own_instrs emitted worker)

-- the memory program carries these instructions
abbrev pub Carries : (count : ℕ) → List Emitted → MemProgram → Type 0
Carries count emitted plan = carries_of (program_of count emitted) plan ≡ carry.Yes

module _ {W : Type 0} (rules : Rules W) (emitted : List Emitted) (drivers : ℕ → rules.State) where
  -- the unplaced program: its instructions on maps without bounds
  abbrev pub unplaced_run : Unplaced rules.State W
  unplaced_run = run_of rules (starting_in drivers) emitted

  -- a worker of the core did at its end what its worker of the unplaced program does: the same calls of
  -- its driver, on the same states, and then `finish`
  pub record DidAsUnplaced (plan : MemProgram) (n : ℕ)
      (worker : Worker (Core rules plan) (Call rules.State W) (List ℕ)) : Type 0 where
    pub driver : worker.state.engine.driver ≡ rules.finish (unplaced_run.states n)
    pub calls : said_in worker.past ≡ calls_of rules n (starting_in drivers) emitted
        ++ call_of rules (unplaced_run.states n) Finish ∷ []

  -- some joint turns end in every worker, each of which then did as the unplaced program
  pub record RunsAsUnplaced (count : ℕ) (plan : MemProgram) : Type 0 where
    pub turns : List Joint
    pub ends : (n : ℕ) → EndsInJoint rules plan drivers turns n
    pub did : (n : ℕ) → n < count → DidAsUnplaced plan n (joint_after rules plan drivers turns n)
