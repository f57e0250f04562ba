-- A whole run is the joint run over what its stores answered.
use Rattle.std.proofs.Common.{◌≡◌, ◌≤◌, ◌++◌, ℕ, zero, suc, List, [], ◌∷◌, length, map, None, Some, slice_get, sym, ap, ◌∙◌, arith}
use Rattle.std.proofs.lemmas.List.{length-map}
use Rattle.std.specs.Prelude.{IfSome}
use Rattle.std.specs.Option.{option_map}
use Rattle.std.specs.List.{All}
use Rattle.mage_base.specs.Store.{StoreTold}
use Rattle.mage_instr.specs.declared.directive.MemProgram.{MemProgram}
use Rattle.mage_directives.specs.Directives.{IsMemProgram}
use Rattle.mage_driver.specs.Rules.{Rules}
use Rattle.mage_driver.specs.Calls.{Told}
use Rattle.mage_link.specs.Queues.{QueueState, queue_told}
use Rattle.mage_verify.specs.Faults.{fault_of}
use Rattle.mage_verify.specs.Parts.{parts_of}
use Rattle.mage_engine.specs.Seen.{Seen, IsEnded}
use Rattle.mage_core.specs.Ports.{RunMachine, store_of, CameBy}
use Rattle.mage_core.specs.Turns.{sights}
use Rattle.mage_core.specs.Going.{Start, HasGone, AllGo, NoOthersSend}
use Rattle.mage_core.specs.Results.{Back}
use Rattle.mage_core.specs.Answered.{AreStates, AreTold, RunsAnswered}
use Rattle.mage_core.proofs.Starting.{if_found, map_get, all_get}
use Rattle.mage_core.proofs.Joined.{answers_of, answers_are, ended_joint}
use Rattle.mage_core.proofs.Ending.{handed_so}
use Rattle.mage_core.proofs.Handed.{part_so, told_so, state_so}
use Rattle.mage_core.proofs.Whole.{sight, drivers_in, stores_in, unmap, some_one, head_one, driver_at, store_at}

pub none_beyond : {X : Type 0} (xs : List X) (w : ℕ) → slice_get xs w ≡ None → length xs ≤ w
none_beyond [] zero e = omega arith
none_beyond [] (suc w) e = omega arith
none_beyond (x ∷ xs) zero e = absurd cc
none_beyond (x ∷ xs) (suc w) e = let rest = none_beyond xs w e in omega (arith, rest)

module _ {W D S : Type 0} (rules : Rules W) (driver_tells : D → Told rules.State) (store_tells : S → StoreTold)
    (starts : List (Start rules.State)) (machines : List (RunMachine D S)) (came : All (CameBy store_tells) machines) (count : length machines ≡ length starts)
    (plan : MemProgram) (fine : IsMemProgram plan) (none : fault_of plan ≡ None) (parts : map (λ (start : Start rules.State). start.part) starts ≡ parts_of plan)
    (states : ℕ → rules.State) (are : AreStates starts states) (told : AreTold starts) (links : QueueState)
    (all : AllGo rules starts (sights driver_tells store_tells machines) links)
    (ended : (w : ℕ) → IfSome (slice_get (sights driver_tells store_tells machines) w) IsEnded)
    (quiet : NoOthersSend rules starts links) where
  abbrev pub seen_all : List (Seen rules.State)
  seen_all = sights driver_tells store_tells machines

  beyond : (m n : ℕ) → slice_get seen_all n ≡ None → (queue_told links).sent n m ≡ []
  beyond m n is =
      let past = none_beyond seen_all n is in
      let long : length seen_all ≡ length machines = length-map machines (sight rules driver_tells store_tells) in
      quiet n m (omega (arith, past, long, count))

  abbrev answers : ℕ → ℕ → List (List ℕ)
  answers = answers_of rules plan states links seen_all starts all (part_so rules starts plan parts) (told_so rules starts told) (state_so rules starts states are) beyond

  -- the machine of a worker that comes back
  record Of (w : ℕ) (back : Back starts (drivers_in rules driver_tells store_tells machines) (stores_in rules driver_tells store_tells machines) w) : Type 0 where
    machine : RunMachine D S
    at : slice_get machines w ≡ Some machine
    driver : driver_tells machine.driver ≡ back.driver
    store : store_tells (store_of machine) ≡ back.store

  of_back : (w : ℕ) (back : Back starts (drivers_in rules driver_tells store_tells machines) (stores_in rules driver_tells store_tells machines) w) → Of w back
  of_back w back =
      let of_driver = unmap driver_tells (map (λ machine. machine.driver) machines) w back.driver back.driver_so in
      let of = unmap (λ (m : RunMachine D S). m.driver) machines w of_driver.0 of_driver.1 in
      record {
        machine = of.0;
        at = of.1;
        driver = some_one _ _ (sym (driver_at rules driver_tells store_tells machines w of.0 of.1) ∙ back.driver_so);
        store = head_one _ _ (sym (store_at rules driver_tells store_tells machines w of.0 of.1) ∙ back.store_so);
      }

  pub runs_answered : RunsAnswered rules plan states starts (drivers_in rules driver_tells store_tells machines) (stores_in rules driver_tells store_tells machines)
  runs_answered = record {
    answers = answers;
    given = λ w back. let of = of_back w back in
        let m = of.machine in
        let at = map_get (sight rules driver_tells store_tells) machines w m of.at in
        let gone = if_found (HasGone rules starts w links) (slice_get seen_all w) (sight rules driver_tells store_tells m) at (all w) in
        let start : gone.start ≡ back.start = some_one gone.start back.start (sym gone.from ∙ back.starts_so) in
        let handed = handed_so rules driver_tells store_tells gone.start m gone.going.handed in
        let c = all_get (CameBy store_tells) machines w m came of.at in (
          m.port.port.made,
          ap (λ (s : StoreTold). s.log) (sym of.store) ∙ c.came.log
              ∙ ap (λ (s : StoreTold). option_map (λ earlier. earlier ++ m.port.port.made) s.log) (handed ∙ ap (λ (s : Start rules.State). s.store) start),
          answers_are rules plan states links seen_all starts all (part_so rules starts plan parts) (told_so rules starts told) (state_so rules starts states are) beyond w (sight rules driver_tells store_tells m) at,
        );
    stands = λ w back. let of = of_back w back in
        let m = of.machine in
        let at = map_get (sight rules driver_tells store_tells) machines w m of.at in
        ap (λ (d : Told rules.State). d.state) (sym of.driver)
        ∙ ended_joint rules plan states links seen_all starts all (part_so rules starts plan parts) (told_so rules starts told) (state_so rules starts states are) beyond fine none w (sight rules driver_tells store_tells m) at
        (if_found IsEnded (slice_get seen_all w) (sight rules driver_tells store_tells m) at (ended w));
  }
