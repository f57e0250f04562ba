-- What comes back from a run, also with a fault, begins the joint run over what the stores answered.
use Rattle.std.proofs.Common.{◌≡◌, ◌++◌, ℕ, List, length, Option, None, Some, slice_get, sym, ap, ◌∙◌, subst, map}
use Rattle.std.proofs.lemmas.List.{length-map}
use Rattle.std.specs.List.{All}
use Rattle.std.specs.Option.{option_map}
use Rattle.mage_base.specs.Store.{StoreTold}
use Rattle.mage_instr.specs.declared.directive.MemProgram.{MemProgram}
use Rattle.mage_directives.specs.Directives.{IsMemProgram}
use Rattle.mage_network.specs.Workers.{Worker, said_in}
use Rattle.mage_network.specs.Answers.{Answered}
use Rattle.mage_driver.specs.Rules.{Rules, AreLawful}
use Rattle.mage_driver.specs.Calls.{Told, Call, SomeStops}
use Rattle.mage_link.specs.Queues.{QueueState}
use Rattle.mage_steps.specs.Core.{Flight, answered_after}
use Rattle.mage_verified_runs.specs.Turns.{verified_turns}
use Rattle.mage_verify.specs.Faults.{fault_of}
use Rattle.mage_verify.specs.Parts.{parts_of}
use Rattle.mage_engine.specs.Seen.{Seen}
use Rattle.mage_core.specs.declared.fault.RunFault.{RunFault}
use Rattle.mage_core.specs.Ports.{RunMachine, CameBy}
use Rattle.mage_core.specs.Turns.{sights}
use Rattle.mage_core.specs.Going.{Start, EndsAs}
use Rattle.mage_core.specs.Results.{Back}
use Rattle.mage_core.specs.Answered.{AreStates, AreTold}
use Rattle.mage_core.specs.Begun.{StandsBetween, BeginsAnswered}
use Rattle.mage_core.proofs.Starting.{map_get}
use Rattle.mage_core.proofs.Handed.{part_so, told_so, state_so}
use Rattle.mage_core.proofs.Ending.{handed_so}
use Rattle.mage_core.proofs.Whole.{sight, drivers_in, stores_in}
use Rattle.mage_core.proofs.Sufficing.{Of, of_back}
use Rattle.mage_core.proofs.Last.{Last, last_of}
use Rattle.mage_core.proofs.Standing.{EndsAt, stops_some}
use Rattle.mage_core.proofs.Begun.{answers_to, answers_found, was_own, ends_answered}

module _ {W D S : Type 0} (rules : Rules W) (driver_tells : D → Told rules.State) (store_tells : S → StoreTold)
    (starts : List (Start rules.State)) (machines : List (RunMachine D S)) where
  abbrev pub seen_all : List (Seen rules.State)
  seen_all = sights driver_tells store_tells machines

  abbrev pub drivers : List (Told rules.State)
  drivers = drivers_in rules driver_tells store_tells machines

  abbrev pub stores : List (List StoreTold)
  stores = stores_in rules driver_tells store_tells machines

  pub seen_count : length machines ≡ length starts → length seen_all ≡ length starts
  seen_count count = length-map machines (sight rules driver_tells store_tells) ∙ count

  pub seen_at : (w : ℕ) (machine : RunMachine D S) → slice_get machines w ≡ Some machine → slice_get seen_all w ≡ Some (sight rules driver_tells store_tells machine)
  seen_at w machine at = map_get (sight rules driver_tells store_tells) machines w machine at

  module _ (links : QueueState) (result : Option RunFault) (ends : EndsAs rules starts seen_all links result) (came : All (CameBy store_tells) machines) where
    pub of_each : (w : ℕ) (back : Back starts drivers stores w) → Of rules driver_tells store_tells starts machines came links result ends w back
    of_each w back = of_back rules driver_tells store_tells starts machines came links result ends w back

    -- where a machine stands is where its driver stands that comes back
    pub back_between : (states : ℕ → rules.State) → AreStates starts states → (w : ℕ) (back : Back starts drivers stores w) (last : rules.State) →
        StandsBetween rules (states w) (driver_tells (of_each w back).machine.driver).state last → StandsBetween rules back.start.driver.state back.driver.state last
    back_between states are w back last between =
        subst (λ (s : rules.State). StandsBetween rules s back.driver.state last) (state_so rules starts states are w back.start back.starts_so)
        (subst (λ (d : Told rules.State). StandsBetween rules (states w) d.state last) (of_each w back).driver between)

    module _ (lawful : AreLawful rules) (count : length machines ≡ length starts) (plan : MemProgram) (fine : IsMemProgram plan) (none : fault_of plan ≡ None)
        (parts : map (λ (start : Start rules.State). start.part) starts ≡ parts_of plan) (states : ℕ → rules.State) (are : AreStates starts states) (told : AreTold starts) where
      abbrev last : Last rules starts seen_all result
      last = last_of rules starts seen_all links result ends

      abbrev answers : ℕ → ℕ → List (List ℕ)
      answers = answers_to rules lawful plan states starts (part_so rules starts plan parts) (told_so rules starts told) (state_so rules starts states are)
          seen_all result last (seen_count count)

      abbrev Joint : Type 0
      Joint = Worker (Answered (Flight rules plan) (List ℕ)) (Call rules.State W) (List ℕ)

      abbrev joint : ℕ → Joint
      joint = answered_after rules plan states answers (verified_turns plan.workers)

      abbrev At : ℕ → Seen rules.State → Type 0
      At w now = EndsAt rules result w (states w) (joint w).state.state.engine.driver
          (was_own rules lawful plan states starts (part_so rules starts plan parts) (told_so rules starts told) (state_so rules starts states are)
          seen_all result last (seen_count count) w).said (said_in (joint w).past) now

      ends_at : (w : ℕ) (machine : RunMachine D S) → slice_get machines w ≡ Some machine → At w (sight rules driver_tells store_tells machine)
      ends_at w machine at =
          ends_answered rules lawful plan states starts (part_so rules starts plan parts) (told_so rules starts told) (state_so rules starts states are)
          seen_all result last (seen_count count) fine none w (sight rules driver_tells store_tells machine) (seen_at w machine at)

      pub begins_answered : BeginsAnswered rules plan states starts drivers stores result
      begins_answered = record {
        answers = answers;
        given = λ w back. let of = of_each w back in
            let m = of.machine in (
              m.port.port.made,
              ap (λ (s : StoreTold). s.log) (sym of.store) ∙ of.came_by.came.log
                  ∙ ap (λ (s : StoreTold). option_map (λ earlier. earlier ++ m.port.port.made) s.log)
                  (handed_so rules driver_tells store_tells of.leaves.start m of.leaves.handed ∙ ap (λ (s : Start rules.State). s.store) of.start),
              answers_found rules lawful plan states starts (part_so rules starts plan parts) (told_so rules starts told) (state_so rules starts states are)
                  seen_all result last (seen_count count) w (sight rules driver_tells store_tells m) (seen_at w m of.at),
            );
        grows = λ w back. back_between states are w back (joint w).state.state.engine.driver (ends_at w (of_each w back).machine (of_each w back).at).between;
        caused = λ w f e back. let of = of_each w back in
            subst (λ (d : Told rules.State). SomeStops rules (said_in (joint w).past) f d.state) of.driver
            (stops_some rules _ (said_in (joint w).past) f (driver_tells of.machine.driver).state ((ends_at w of.machine of.at).caused f e));
      }
