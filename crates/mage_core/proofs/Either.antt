-- A whole run is the joint run over pages, or a store answered with other bytes than were written.
use Rattle.std.proofs.Common.{◌≡◌, ◌⊎◌, inl, inr, ℕ, List, [], length, map, None, Some, slice_get, sym, ap, ◌∙◌, subst, arith}
use Rattle.std.proofs.lemmas.List.{length-map}
use Rattle.std.specs.Prelude.{IfSome}
use Rattle.std.specs.List.{All}
use Rattle.mage_base.specs.Store.{StoreTold}
use Rattle.mage_instr.specs.declared.directive.MemProgram.{MemProgram}
use Rattle.mage_directives.specs.Directives.{IsMemProgram}
use Rattle.mage_driver.specs.Rules.{Rules}
use Rattle.mage_driver.specs.Calls.{Told}
use Rattle.mage_link.specs.Queues.{QueueState, queue_told}
use Rattle.mage_store.specs.SerialPort.{transfers_of}
use Rattle.mage_verify.specs.Faults.{fault_of}
use Rattle.mage_verify.specs.Parts.{parts_of}
use Rattle.mage_engine.specs.Seen.{Seen, IsEnded}
use Rattle.mage_core.specs.Ports.{RunMachine, CameBy}
use Rattle.mage_core.specs.Turns.{sights}
use Rattle.mage_core.specs.Going.{Start, AllGo, NoOthersSend}
use Rattle.mage_core.specs.Paging.{AllRight}
use Rattle.mage_core.specs.Answered.{AreStates, AreTold}
use Rattle.mage_core.specs.Joined.{RunsJoint, WasDeceived}
use Rattle.mage_core.proofs.Starting.{if_found, map_get}
use Rattle.mage_core.proofs.Jointly.{ended_over, passed_over}
use Rattle.mage_core.proofs.Handed.{part_so, told_so, state_so}
use Rattle.mage_core.proofs.Deciding.{decide_machines, deceived_so}
use Rattle.mage_core.proofs.Whole.{sight, drivers_in, stores_in, unmap}
use Rattle.mage_core.proofs.Answered.{none_beyond}

-- the machine of a worker that comes back
record Of {W D S : Type 0} (rules : Rules W) (driver_tells : D → Told rules.State) (machines : List (RunMachine D S)) (w : ℕ) (driver : Told rules.State) : Type 0 where
  machine : RunMachine D S
  at : slice_get machines w ≡ Some machine
  is : driver_tells machine.driver ≡ driver

of_driver : {W D S : Type 0} (rules : Rules W) (driver_tells : D → Told rules.State) (store_tells : S → StoreTold) (machines : List (RunMachine D S)) (w : ℕ)
    (driver : Told rules.State) → slice_get (drivers_in rules driver_tells store_tells machines) w ≡ Some driver → Of rules driver_tells machines w driver
of_driver {W} {D} {S} rules driver_tells store_tells machines w driver is =
    let told = unmap driver_tells (map (λ machine. machine.driver) machines) w driver is in
    let of = unmap (λ (m : RunMachine D S). m.driver) machines w told.0 told.1 in
    record { machine = of.0; at = of.1; is = ap driver_tells of.2 ∙ told.2 }

module _ {W D S : Type 0} (rules : Rules W) (driver_tells : D → Told rules.State) (store_tells : S → StoreTold)
    (starts : List (Start rules.State)) (machines : List (RunMachine D S)) (came : All (CameBy store_tells) machines) (count : length machines ≡ length starts)
    (plan : MemProgram) (fine : IsMemProgram plan) (none : fault_of plan ≡ None) (parts : map (λ (start : Start rules.State). start.part) starts ≡ parts_of plan)
    (states : ℕ → rules.State) (are : AreStates starts states) (told : AreTold starts) (links : QueueState)
    (all : AllGo rules starts (sights driver_tells store_tells machines) links)
    (ended : (w : ℕ) → IfSome (slice_get (sights driver_tells store_tells machines) w) IsEnded)
    (quiet : NoOthersSend rules starts links) where
  abbrev seen_all : List (Seen rules.State)
  seen_all = sights driver_tells store_tells machines

  beyond : (m n : ℕ) → slice_get seen_all n ≡ None → (queue_told links).sent n m ≡ []
  beyond m n is =
      let past = none_beyond seen_all n is in
      let long : length seen_all ≡ length machines = length-map machines (sight rules driver_tells store_tells) in
      quiet n m (omega (arith, past, long, count))

  right_so : ((w : ℕ) (m : RunMachine D S) → slice_get machines w ≡ Some m → AllRight (transfers_of m.port.port.made)) →
      (w : ℕ) (machine : Seen rules.State) → slice_get seen_all w ≡ Some machine → AllRight machine.port.finished
  right_so right w machine is =
      let of = unmap (sight rules driver_tells store_tells) machines w machine is in
      subst_right of.0 machine of.2 (right w of.0 of.1)
    where
      subst_right : (m : RunMachine D S) (machine : Seen rules.State) → sight rules driver_tells store_tells m ≡ machine → AllRight (transfers_of m.port.port.made) → AllRight machine.port.finished
      subst_right m machine e = subst (λ (x : Seen rules.State). AllRight x.port.finished) e

  runs_joint : ((w : ℕ) (m : RunMachine D S) → slice_get machines w ≡ Some m → AllRight (transfers_of m.port.port.made)) →
      RunsJoint rules plan states starts (drivers_in rules driver_tells store_tells machines) (stores_in rules driver_tells store_tells machines)
  runs_joint right = record {
    stands = λ w back.
        let of = of_driver rules driver_tells store_tells machines w back.driver back.driver_so in
        let at = map_get (sight rules driver_tells store_tells) machines w of.machine of.at in
        ap (λ (d : Told rules.State). d.state) (sym of.is)
        ∙ ended_over rules plan states links seen_all starts all (part_so rules starts plan parts) (told_so rules starts told) (state_so rules starts states are) beyond (right_so right) fine none w (sight rules driver_tells store_tells of.machine) at
        (if_found IsEnded (slice_get seen_all w) (sight rules driver_tells store_tells of.machine) at (ended w));
    passed = λ w back.
        let of = of_driver rules driver_tells store_tells machines w back.driver back.driver_so in
        let at = map_get (sight rules driver_tells store_tells) machines w of.machine of.at in
        passed_over rules plan states links seen_all starts all (part_so rules starts plan parts) (told_so rules starts told) (state_so rules starts states are) beyond (right_so right) fine none w (sight rules driver_tells store_tells of.machine) at
        (if_found IsEnded (slice_get seen_all w) (sight rules driver_tells store_tells of.machine) at (ended w));
  }

  pub joint_or_deceived : RunsJoint rules plan states starts (drivers_in rules driver_tells store_tells machines) (stores_in rules driver_tells store_tells machines)
      ⊎ WasDeceived starts (drivers_in rules driver_tells store_tells machines) (stores_in rules driver_tells store_tells machines)
  joint_or_deceived = elim (decide_machines machines) [
    | inl right ↦ inl (runs_joint right)
    | inr deceived ↦ inr (deceived_so rules driver_tells store_tells starts machines came links all deceived)
  ]
