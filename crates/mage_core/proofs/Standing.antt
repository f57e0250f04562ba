-- Where a driver stands in the end, by the calls of its own run that it got.
use Rattle.std.proofs.Common.{◌≡◌, ◌++◌, ℕ, List, [], Option, Some, append-nil, append_assoc, sym, ap, ◌∙◌, subst}
use Rattle.mage_instr.specs.declared.fault.DriverFault.{DriverFault}
use Rattle.mage_instr.specs.declared.fault.MachineFault.TheVariants as stops
use Rattle.mage_network.specs.Pasts.{IsPrefix}
use Rattle.mage_driver.specs.Rules.{Rules, AreLawful, Grows}
use Rattle.mage_driver.specs.Calls.{Call, SomeStops}
use Rattle.mage_steps.proofs.Outputs.{grows_same, grows_then}
use Rattle.mage_engine.specs.Seen.{Seen}
use Rattle.mage_core.specs.declared.fault.RunFault.{RunFault}
use Rattle.mage_core.specs.declared.fault.RunFault.TheVariants as fault
use Rattle.mage_core.specs.Turns.{run_fault}
use Rattle.mage_core.specs.Begun.{StandsBetween}
use Rattle.mage_core.proofs.Rows.{IsRow, midway, row_one, row_grows, stop_grows, stops_front, stops_later}

-- a driver that stands at the end of some calls in a row has more to say before it is at the end of all
pub grows_on : {W : Type 0} (rules : Rules W) → AreLawful rules → (first now last : rules.State) (said all : List (Call rules.State W)) →
    IsRow rules first said now → IsRow rules first all last → IsPrefix said all → Grows rules now last
grows_on {W} rules lawful first now last said all row whole begins =
    let mid = midway rules first last said begins.0 (subst (λ (l : List (Call rules.State W)). IsRow rules first l last) (sym begins.1) whole) in
    subst (λ (s : rules.State). Grows rules s last) (row_one rules first mid.state now said mid.first row)
    (row_grows rules lawful mid.state last begins.0 mid.then_on)

-- the fault of a driver is that of the run
same_fault : (w : ℕ) (f g : DriverFault) (result : Option RunFault) → result ≡ Some (run_fault w (stops.Driver f)) → result ≡ Some (fault.Driver w g) → f ≡ g
same_fault w f g result e h = let same : Some (fault.Driver w f) ≡ Some (fault.Driver w g) = sym e ∙ h in cc

-- one of these calls that come behind the first of them answered the fault and left this state
pub record StopsAfter {W : Type 0} (rules : Rules W) (before calls : List (Call rules.State W)) (f : DriverFault) (after : rules.State) : Type 0 where
  pub step : List (Call rules.State W)
  pub later : List (Call rules.State W)
  pub are : calls ≡ before ++ (step ++ later)
  pub stopped : SomeStops rules step f after

pub stops_more : {W : Type 0} (rules : Rules W) (before calls all : List (Call rules.State W)) (f : DriverFault) (after : rules.State) → IsPrefix calls all →
    StopsAfter rules before calls f after → StopsAfter rules before all f after
stops_more {W} rules before calls all f after begins h = record {
  step = h.step;
  later = h.later ++ begins.0;
  are = sym begins.1 ∙ ap (λ (l : List (Call rules.State W)). l ++ begins.0) h.are ∙ append_assoc before (h.step ++ h.later) begins.0
      ∙ ap (λ (l : List (Call rules.State W)). before ++ l) (append_assoc h.step h.later begins.0);
  stopped = h.stopped;
}

pub stops_some : {W : Type 0} (rules : Rules W) (before calls : List (Call rules.State W)) (f : DriverFault) (after : rules.State) →
    StopsAfter rules before calls f after → SomeStops rules calls f after
stops_some {W} rules before calls f after h =
    subst (λ (l : List (Call rules.State W)). SomeStops rules l f after) (sym h.are)
    (stops_later rules before (h.step ++ h.later) f after (stops_front rules h.step h.later f after h.stopped))

-- Where a driver stands that was handed in at the first state and has said these calls of its own run, which leads to the last state;
-- the first of them before the last turn.
pub record EndsAt {W : Type 0} (rules : Rules W) (result : Option RunFault) (worker : ℕ) (first last : rules.State) (before said : List (Call rules.State W))
    (now : Seen rules.State) : Type 0 where
  pub between : StandsBetween rules first now.driver.state last
  pub caused : (f : DriverFault) → result ≡ Some (fault.Driver worker f) → StopsAfter rules before said f now.driver.state

module _ {W : Type 0} (rules : Rules W) (lawful : AreLawful rules) (result : Option RunFault) (worker : ℕ) (first : rules.State) where
  -- one that stands where its own run is
  pub stands_so : (last : rules.State) (said : List (Call rules.State W)) (now : Seen rules.State) → IsRow rules first said last → now.driver.state ≡ last →
      ((f : DriverFault) → result ≡ Some (fault.Driver worker f) → ⊥) → EndsAt rules result worker first last said said now
  stands_so last said now row at never = record {
    between = subst (λ (s : rules.State). StandsBetween rules first s last) (sym at)
        (record { since = row_grows rules lawful first last said row; until = grows_same rules last });
    caused = λ f e. absurd (never f e);
  }

  -- one that was stopped at one of the calls that come next
  pub stopped_so : (mid last : rules.State) (said step : List (Call rules.State W)) (f : DriverFault) (now : Seen rules.State) → IsRow rules first said mid →
      IsRow rules first (said ++ step) last → SomeStops rules step f now.driver.state → result ≡ Some (run_fault worker (stops.Driver f)) →
      EndsAt rules result worker first last said (said ++ step) now
  stopped_so mid last said step f now row whole stops is =
      let way = midway rules first last said step whole in
      let at : way.state ≡ mid = row_one rules first way.state mid said way.first row in
      let grown = stop_grows rules lawful way.state last step f now.driver.state way.then_on stops in
      record {
        between = record { since = grows_then rules first way.state now.driver.state (row_grows rules lawful first way.state said way.first) grown.0; until = grown.1 };
        caused = λ g e. record {
          step = step;
          later = [];
          are = ap (λ (l : List (Call rules.State W)). said ++ l) (sym (append-nil step));
          stopped = subst (λ (x : DriverFault). SomeStops rules step x now.driver.state) (same_fault worker f g result is e) stops;
        };
      }
