-- The same over pages: where a run ended, also with a fault, and each answer that was used was right, each driver stands between its
-- first state and the end of the joint run.
use Rattle.std.proofs.Common.{◌≡◌, ◌++◌, ℕ, List, length, Option, None, Some, slice_get, refl, sym, ap, ◌∙◌, subst}
use Rattle.std.specs.Prelude.{IfSome, IsTrue}
use Rattle.mage_instr.specs.declared.directive.MemProgram.{MemProgram}
use Rattle.mage_instr.specs.declared.fault.DriverFault.{DriverFault}
use Rattle.mage_instr.specs.declared.fault.MachineFault.TheVariants as stops
use Rattle.mage_directives.specs.Directives.{IsMemProgram}
use Rattle.mage_network.specs.Pasts.{IsPrefix, IsAlong}
use Rattle.mage_network.specs.Workers.{Worker, Moves, said_in}
use Rattle.mage_network.specs.Laws.{AreAlong, BeginsAlong}
use Rattle.mage_network.specs.Slots.{Acts, or_stops, act_in, served_at_once}
use Rattle.mage_network.proofs.Steps.{along_moved, along_begins}
use Rattle.mage_network.proofs.Meeting.{together_keeps}
use Rattle.mage_driver.specs.Rules.{Rules, AreLawful}
use Rattle.mage_driver.specs.Calls.{Call, NoneIsDue, SomeStops}
use Rattle.mage_link.specs.Queues.{queue_told}
use Rattle.mage_steps.specs.Engines.{Engine, Next}
use Rattle.mage_steps.specs.Core.{Core, core_act, core_at_first, joint_after}
use Rattle.mage_steps.proofs.Outputs.{grows_then}
use Rattle.mage_verify.specs.Faults.{fault_of}
use Rattle.mage_verify.specs.Parts.{parts_of}
use Rattle.mage_verified_runs.specs.Turns.{verified_turns}
use Rattle.mage_verified_runs.proofs.Ending.{verified_ends}
use Rattle.mage_engine.specs.Seen.{Seen}
use Rattle.mage_engine.specs.Steps.{IsCause, next_with}
use Rattle.mage_engine.proofs.Calling.{calls_same}
use Rattle.mage_core.specs.declared.fault.RunFault.{RunFault}
use Rattle.mage_core.specs.declared.fault.RunFault.TheVariants as fault
use Rattle.mage_core.specs.Turns.{run_fault}
use Rattle.mage_core.specs.Going.{Start, HasGone}
use Rattle.mage_core.specs.Paging.{AllRight}
use Rattle.mage_core.specs.Begun.{StopsFirst}
use Rattle.mage_core.proofs.Starting.{if_found}
use Rattle.mage_core.proofs.Jointly.{IsOver, Over, over}
use Rattle.mage_core.proofs.Rows.{IsRow}
use Rattle.mage_core.proofs.Saying.{paged_row}
use Rattle.mage_core.proofs.Last.{Last, Was, ended_cases, stopped_moves, nobody_beyond}
use Rattle.mage_core.proofs.Standing.{EndsAt, grows_on, stops_more, stands_so, stopped_so}

module _ {W : Type 0} (rules : Rules W) (lawful : AreLawful rules) (plan : MemProgram) (states : ℕ → rules.State) (starts : List (Start rules.State))
    (parts_so : (w : ℕ) (start : Start rules.State) → slice_get starts w ≡ Some start → slice_get (parts_of plan) w ≡ Some start.part)
    (told_so : (w : ℕ) (start : Start rules.State) → slice_get starts w ≡ Some start → IsTrue start.driver.told)
    (states_so : (w : ℕ) (start : Start rules.State) → slice_get starts w ≡ Some start → states w ≡ start.driver.state)
    (machines : List (Seen rules.State)) (result : Option RunFault) (last : Last rules starts machines result) (count : length machines ≡ length starts)
    (right : (w : ℕ) (machine : Seen rules.State) → slice_get last.before w ≡ Some machine → AllRight machine.port.finished) where
  -- the own run of each worker over pages before the last turn
  pub was_over : (n : ℕ) → Over rules plan states last.links last.before n
  was_over = over rules plan states last.links last.before starts last.all parts_so told_so states_so (nobody_beyond rules starts machines result last count) right

  -- the same with the calls of which one stopped its driver, and where it stands in the end
  record Done (n : ℕ) (found : Option (Seen rules.State)) : Type 0 where
    state : Core rules plan
    said : List (Call rules.State W)
    taken : ℕ → List (List ℕ)
    along : IsAlong (core_act rules plan n) (core_at_first rules plan states n) state said taken (λ m. (queue_told last.links).sent n m)
    begins : (m : ℕ) → IsPrefix (taken m) ((queue_told last.links).sent m n)
    of : IfSome found (EndsAt rules result n (states n) state.engine.driver (was_over n).said said)

  along_row : (n : ℕ) (state : Core rules plan) (said : List (Call rules.State W)) (taken sent : ℕ → List (List ℕ)) →
      IsAlong (core_act rules plan n) (core_at_first rules plan states n) state said taken sent → IsRow rules (states n) said state.engine.driver
  along_row n state said taken sent along =
      subst (λ (l : List (Call rules.State W)). IsRow rules (states n) l state.engine.driver) along.says
      (paged_row rules lawful plan n (core_at_first rules plan states n) along.past state along.leads)

  over_row : (n : ℕ) → IsRow rules (states n) (was_over n).said (was_over n).state.engine.driver
  over_row n = along_row n (was_over n).state (was_over n).said (was_over n).taken (λ m. (queue_told last.links).sent n m) (was_over n).along

  module _ (n : ℕ) (now : Seen rules.State) (is : slice_get machines n ≡ Some now) where
    was : Was rules last.before result n now
    was = last.was n now is

    of_over : IsOver rules plan states last.links last.before n (was_over n).state was.machine
    of_over = (was_over n).of was.machine was.at

    gone : HasGone rules starts n last.links was.machine
    gone = if_found (HasGone rules starts n last.links) (slice_get last.before n) was.machine was.at (last.all n)

    -- a driver that wasn't stopped
    done_still : now.driver.state ≡ was.machine.driver.state → ((f : DriverFault) → result ≡ Some (fault.Driver n f) → ⊥) → Done n (Some now)
    done_still same never = record {
      state = (was_over n).state;
      said = (was_over n).said;
      taken = (was_over n).taken;
      along = (was_over n).along;
      begins = (was_over n).begins;
      of = stands_so rules lawful result n (states n) (was_over n).state.engine.driver (was_over n).said now (over_row n) (same ∙ sym of_over.driver) never;
    }

    -- one that was
    done_stopped : (f : DriverFault) → result ≡ Some (run_fault n (stops.Driver f)) → (step : List (Call rules.State W)) (to : Engine rules.State) →
        next_with rules was.machine of_over.bank ≡ Acts (Moves step to) → SomeStops rules step f now.driver.state → Done n (Some now)
    done_stopped f e step to next stopped =
        let o = was_over n in
        let after : Core rules plan = record o.state { engine = to } in
        let along = along_moved (core_act rules plan n) (core_at_first rules plan states n) o.state after o.said step o.taken
        (λ m. (queue_told last.links).sent n m) (of_over.next ∙ ap (λ (x : Next rules). or_stops (act_in served_at_once x o.state)) next) o.along in
        record {
          state = after;
          said = o.said ++ step;
          taken = o.taken;
          along = along;
          begins = o.begins;
          of = stopped_so rules lawful result n (states n) o.state.engine.driver to.driver o.said step f now (over_row n)
              (along_row n after (o.said ++ step) o.taken (λ m. (queue_told last.links).sent n m) along) stopped e;
        }

    done_caused : (f : DriverFault) → result ≡ Some (run_fault n (stops.Driver f)) → IsCause rules was.machine now (stops.Driver f) → Done n (Some now)
    done_caused f e cause =
        stopped_moves rules (Done n (Some now)) (next_with rules was.machine of_over.bank) f now.driver.state
        (subst (λ (l : List (Call rules.State W)). SomeStops rules l f now.driver.state)
        (sym (calls_same rules was.machine gone.going.sound of_over.bank of_over.holds))
        (cause.0.stopped (subst IsTrue (sym gone.going.told) (told_so n gone.start gone.from)))) (done_stopped f e)

    done_found : Done n (Some now)
    done_found = ended_cases rules result n was.machine now (Done n (Some now)) done_still done_caused was.ended

  done_none : (n : ℕ) → Done n None
  done_none n = record {
    state = (was_over n).state;
    said = (was_over n).said;
    taken = (was_over n).taken;
    along = (was_over n).along;
    begins = (was_over n).begins;
    of = tt;
  }

  done_at : (n : ℕ) (found : Option (Seen rules.State)) → slice_get machines n ≡ found → Done n found
  done_at n None is = done_none n
  done_at n (Some now) is = done_found n now is

  done : (n : ℕ) → Done n (slice_get machines n)
  done n = done_at n (slice_get machines n) refl

  went : AreAlong (core_act rules plan) (core_at_first rules plan states) (λ n. (done n).state) (λ n. (done n).said) (λ n. (done n).taken) (λ n m. (queue_told last.links).sent n m)
  went = record {
    along = λ n. (done n).along;
    received = λ n m. (done m).begins n;
  }

  -- ---- the joint run

  abbrev pub whole : ℕ → Worker (Core rules plan) (Call rules.State W) (List ℕ)
  whole = joint_after rules plan states (verified_turns plan.workers)

  whole_row : (n : ℕ) → IsRow rules (states n) (said_in (whole n).past) (whole n).state.engine.driver
  whole_row n =
      paged_row rules lawful plan n (core_at_first rules plan states n) (whole n).past (whole n).state
      ((together_keeps (core_act rules plan) (core_at_first rules plan states) (λ ws. Unit {0}) (λ ws t a u. tt) tt (verified_turns plan.workers)).0.alone n)

  -- where a driver stands in the end, and that no fault was due in the calls that it got before the last step
  pub record EndsJoint (n : ℕ) (now : Seen rules.State) : Type 0 where
    pub ends : EndsAt rules result n (states n) (whole n).state.engine.driver (was_over n).said (said_in (whole n).past) now
    pub passed : NoneIsDue rules (was_over n).said

  pub ends_joint : IsMemProgram plan → fault_of plan ≡ None → (n : ℕ) (now : Seen rules.State) → slice_get machines n ≡ Some now → EndsJoint n now
  ends_joint fine none n now is =
      let d = done n in
      let begins : BeginsAlong (core_act rules plan n) (whole n) d.state d.said (λ m. (queue_told last.links).sent n m) =
      along_begins (core_act rules plan) (core_at_first rules plan states) (λ n. (done n).state) (λ n. (done n).said) (λ n. (done n).taken)
      (λ n m. (queue_told last.links).sent n m) (verified_turns plan.workers) went n (verified_ends rules plan states fine none n) in
      let at = if_found (EndsAt rules result n (states n) d.state.engine.driver (was_over n).said d.said) (slice_get machines n) now is d.of in
      let row = along_row n d.state d.said d.taken (λ m. (queue_told last.links).sent n m) d.along in
      record {
        ends = record {
          between = record {
            since = at.between.since;
            until = grows_then rules now.driver.state d.state.engine.driver (whole n).state.engine.driver at.between.until
                (grows_on rules lawful (states n) d.state.engine.driver (whole n).state.engine.driver d.said (said_in (whole n).past) row (whole_row n) begins.says);
          };
          caused = λ f e. stops_more rules (was_over n).said d.said (said_in (whole n).past) f now.driver.state begins.says (at.caused f e);
        };
        passed = (was_over n).passed;
      }

  pub stops_first : (n : ℕ) (now : Seen rules.State) → EndsJoint n now → (f : DriverFault) → result ≡ Some (fault.Driver n f) →
      StopsFirst rules (said_in (whole n).past) f now.driver.state
  stops_first n now ended f e =
      let s = ended.ends.caused f e in
      record { before = (was_over n).said; step = s.step; later = s.later; are = s.are; passed = ended.passed; stopped = s.stopped }
