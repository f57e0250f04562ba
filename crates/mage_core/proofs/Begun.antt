-- Where a run ended, also with a fault, each driver stands between its first state and the end of the joint run over the answers.
use Rattle.std.proofs.Common.{◌≡◌, ◌++◌, ℕ, List, [], length, Option, None, Some, slice_get, append-nil, refl, sym, ap, ◌∙◌, subst}
use Rattle.std.specs.Prelude.{IfSome, IsTrue}
use Rattle.mage_instr.specs.declared.directive.MemProgram.{MemProgram}
use Rattle.mage_instr.specs.declared.fault.DriverFault.{DriverFault}
use Rattle.mage_instr.specs.declared.fault.MachineFault.TheVariants as stops
use Rattle.mage_directives.specs.Directives.{IsMemProgram}
use Rattle.mage_network.specs.Pasts.{IsPrefix}
use Rattle.mage_network.specs.Workers.{Worker, Moves, said_in}
use Rattle.mage_network.specs.Slots.{Acts}
use Rattle.mage_network.specs.Answers as answers
use Rattle.mage_network.specs.Answers.{Answered, IsAlongAnswers, AreAnswered}
use Rattle.mage_network.specs.Reading.{hears_in}
use Rattle.mage_network.proofs.Answering.{heard_moved, answered_begin}
use Rattle.mage_network.proofs.Meeting.{together_keeps}
use Rattle.mage_driver.specs.Rules.{Rules, AreLawful}
use Rattle.mage_driver.specs.Calls.{Call, SomeStops}
use Rattle.mage_link.specs.Queues.{queue_told}
use Rattle.mage_steps.specs.Frames.{cleared}
use Rattle.mage_steps.specs.Engines.{Engine, Next}
use Rattle.mage_steps.specs.Core.{Flight, core_hearing, flight_at_first, answered_act, answered_after}
use Rattle.mage_steps.proofs.Outputs.{grows_then}
use Rattle.mage_verify.specs.Faults.{fault_of}
use Rattle.mage_verify.specs.Parts.{parts_of}
use Rattle.mage_verified_runs.specs.Turns.{verified_turns}
use Rattle.mage_verified_runs.proofs.Ending.{verified_ends}
use Rattle.mage_engine.specs.Seen.{Seen, worker_with}
use Rattle.mage_engine.specs.Steps.{heard_in, IsCause, next_with}
use Rattle.mage_engine.proofs.Calling.{calls_same}
use Rattle.mage_core.specs.declared.fault.RunFault.{RunFault}
use Rattle.mage_core.specs.declared.fault.RunFault.TheVariants as fault
use Rattle.mage_core.specs.Turns.{run_fault}
use Rattle.mage_core.specs.Going.{Start, HasGone}
use Rattle.mage_core.proofs.Starting.{if_found}
use Rattle.mage_core.proofs.Alike.{answered_ends}
use Rattle.mage_core.proofs.Joined.{IsOwn, Own, own}
use Rattle.mage_core.proofs.Rows.{IsRow}
use Rattle.mage_core.proofs.Saying.{answered_row}
use Rattle.mage_core.proofs.Last.{Last, Was, was_grown, first_answers, ended_cases, stopped_moves, nobody_beyond}
use Rattle.mage_core.proofs.Standing.{EndsAt, grows_on, stands_so, stopped_so, stops_more}

module _ {W : Type 0} (rules : Rules W) (lawful : AreLawful rules) (plan : MemProgram) (states : ℕ → rules.State) (starts : List (Start rules.State))
    (parts_so : (w : ℕ) (start : Start rules.State) → slice_get starts w ≡ Some start → slice_get (parts_of plan) w ≡ Some start.part)
    (told_so : (w : ℕ) (start : Start rules.State) → slice_get starts w ≡ Some start → IsTrue start.driver.told)
    (states_so : (w : ℕ) (start : Start rules.State) → slice_get starts w ≡ Some start → states w ≡ start.driver.state)
    (machines : List (Seen rules.State)) (result : Option RunFault) (last : Last rules starts machines result) (count : length machines ≡ length starts) where
  -- the own run of each worker before the last turn
  pub was_own : (n : ℕ) → Own rules plan states last.links last.before n
  was_own = own rules plan states last.links last.before starts last.all parts_so told_so states_so (nobody_beyond rules starts machines result last count)

  -- what a worker is to hear: all that its store answered, of which the last answer may have been damaged
  pub heard_at : (n : ℕ) → Option (Seen rules.State) → ℕ → List (List ℕ)
  heard_at n None = (was_own n).heard
  heard_at n (Some now) = heard_in now.port.finished

  pub answers_to : ℕ → ℕ → List (List ℕ)
  answers_to n = heard_at n (slice_get machines n)

  pub answers_found : (n : ℕ) (now : Seen rules.State) → slice_get machines n ≡ Some now → answers_to n ≡ heard_in now.port.finished
  unfolding answers_to heard_at
  answers_found n now is = ap (λ (o : Option (Seen rules.State)). heard_at n o) is

  -- the own run of a worker, with the calls of which one stopped its driver, and where it stands in the end
  record Done (n : ℕ) (found : Option (Seen rules.State)) : Type 0 where
    state : Flight rules plan
    heard : ℕ → List (List ℕ)
    said : List (Call rules.State W)
    taken : ℕ → List (List ℕ)
    along : IsAlongAnswers (core_hearing rules plan n) (flight_at_first rules plan states n) state heard said taken (λ m. (queue_told last.links).sent n m)
    begins : (m : ℕ) → IsPrefix (taken m) ((queue_told last.links).sent m n)
    given : (page : ℕ) → IsPrefix (heard page) (heard_at n found page)
    of : IfSome found (EndsAt rules result n (states n) state.engine.driver (was_own n).said said)

  along_row : (n : ℕ) (state : Flight rules plan) (heard : ℕ → List (List ℕ)) (said : List (Call rules.State W)) (taken sent : ℕ → List (List ℕ)) →
      IsAlongAnswers (core_hearing rules plan n) (flight_at_first rules plan states n) state heard said taken sent → IsRow rules (states n) said state.engine.driver
  along_row n state heard said taken sent along =
      let a = along (λ page. []) in
      subst (λ (l : List (Call rules.State W)). IsRow rules (states n) l state.engine.driver) a.says
      (answered_row rules lawful plan n None (record { state = flight_at_first rules plan states n; answers = λ page. heard page ++ [] }) a.past
      (record { state = state; answers = λ page. [] }) a.leads)

  own_row : (n : ℕ) → IsRow rules (states n) (was_own n).said (was_own n).state.engine.driver
  own_row n = along_row n (was_own n).state (was_own n).heard (was_own n).said (was_own n).taken (λ m. (queue_told last.links).sent n m) (was_own n).along

  module _ (n : ℕ) (now : Seen rules.State) (is : slice_get machines n ≡ Some now) where
    was : Was rules last.before result n now
    was = last.was n now is

    of_own : IsOwn rules plan states last.links last.before n (was_own n).state (was_own n).heard was.machine
    of_own = (was_own n).of was.machine was.at

    gone : HasGone rules starts n last.links was.machine
    gone = if_found (HasGone rules starts n last.links) (slice_get last.before n) was.machine was.at (last.all n)

    given_so : (page : ℕ) → IsPrefix ((was_own n).heard page) (heard_in now.port.finished page)
    given_so page = subst (λ (f : ℕ → List (List ℕ)). IsPrefix (f page) (heard_in now.port.finished page)) (sym of_own.answers)
        (first_answers (was.machine.port.finished page) (now.port.finished page) (was_grown rules last.before result n now was page))

    -- a driver that wasn't stopped
    done_still : now.driver.state ≡ was.machine.driver.state → ((f : DriverFault) → result ≡ Some (fault.Driver n f) → ⊥) → Done n (Some now)
    unfolding heard_at
    done_still same never = record {
      state = (was_own n).state;
      heard = (was_own n).heard;
      said = (was_own n).said;
      taken = (was_own n).taken;
      along = (was_own n).along;
      begins = (was_own n).begins;
      given = given_so;
      of = stands_so rules lawful result n (states n) (was_own n).state.engine.driver (was_own n).said now (own_row n) (same ∙ sym of_own.driver) never;
    }

    -- one that was
    done_stopped : (f : DriverFault) → result ≡ Some (run_fault n (stops.Driver f)) → (step : List (Call rules.State W)) (to : Engine rules.State) →
        next_with rules was.machine of_own.bank ≡ Acts (Moves step to) → SomeStops rules step f now.driver.state → Done n (Some now)
    unfolding heard_at
    done_stopped f e step to next stopped =
        let o = was_own n in
        let after : Flight rules plan = record (worker_with was.machine of_own.bank) { engine = to } in
        let along = heard_moved (core_hearing rules plan n) (flight_at_first rules plan states n) o.state after o.heard o.said step o.taken
        (λ m. (queue_told last.links).sent n m) (of_own.next ∙ ap (λ (x : Next rules). hears_in x (worker_with was.machine of_own.bank)) next) o.along in
        record {
          state = after;
          heard = o.heard;
          said = o.said ++ step;
          taken = o.taken;
          along = along;
          begins = o.begins;
          given = given_so;
          of = stopped_so rules lawful result n (states n) o.state.engine.driver to.driver o.said step f now (own_row n)
              (along_row n after o.heard (o.said ++ step) o.taken (λ m. (queue_told last.links).sent n m) along) stopped e;
        }

    done_caused : (f : DriverFault) → result ≡ Some (run_fault n (stops.Driver f)) → IsCause rules was.machine now (stops.Driver f) → Done n (Some now)
    done_caused f e cause =
        stopped_moves rules (Done n (Some now)) (next_with rules was.machine of_own.bank) f now.driver.state
        (subst (λ (l : List (Call rules.State W)). SomeStops rules l f now.driver.state)
        (sym (calls_same rules was.machine gone.going.sound of_own.bank of_own.holds))
        (cause.0.stopped (subst IsTrue (sym gone.going.told) (told_so n gone.start gone.from)))) (done_stopped f e)

    done_found : Done n (Some now)
    done_found = ended_cases rules result n was.machine now (Done n (Some now)) done_still done_caused was.ended

  done_none : (n : ℕ) → Done n None
  unfolding heard_at
  done_none n = record {
    state = (was_own n).state;
    heard = (was_own n).heard;
    said = (was_own n).said;
    taken = (was_own n).taken;
    along = (was_own n).along;
    begins = (was_own n).begins;
    given = λ page. ([], append-nil ((was_own n).heard page));
    of = tt;
  }

  done_at : (n : ℕ) (found : Option (Seen rules.State)) → slice_get machines n ≡ found → Done n found
  done_at n None is = done_none n
  done_at n (Some now) is = done_found n now is

  done : (n : ℕ) → Done n (slice_get machines n)
  done n = done_at n (slice_get machines n) refl

  went : AreAnswered (core_hearing rules plan) (flight_at_first rules plan states) (λ n. (done n).state) answers_to (λ n. (done n).heard) (λ n. (done n).said)
      (λ n. (done n).taken) (λ n m. (queue_told last.links).sent n m)
  unfolding answers_to
  went = record {
    along = λ n. (done n).along;
    given = λ n page. (done n).given page;
    received = λ n m. (done m).begins n;
  }

  -- ---- the joint run over these answers

  abbrev pub whole : ℕ → Worker (Answered (Flight rules plan) (List ℕ)) (Call rules.State W) (List ℕ)
  whole = answered_after rules plan states answers_to (verified_turns plan.workers)

  whole_row : (n : ℕ) → IsRow rules (states n) (said_in (whole n).past) (whole n).state.state.engine.driver
  whole_row n =
      answered_row rules lawful plan n (Some (cleared rules plan.limits.page)) (record { state = flight_at_first rules plan states n; answers = answers_to n })
      (whole n).past (whole n).state
      ((together_keeps (answered_act rules plan) (λ m. record { state = flight_at_first rules plan states m; answers = answers_to m }) (λ ws. Unit {0}) (λ ws t a u. tt) tt
      (verified_turns plan.workers)).0.alone n)

  pub ends_answered : IsMemProgram plan → fault_of plan ≡ None → (n : ℕ) (now : Seen rules.State) → slice_get machines n ≡ Some now →
      EndsAt rules result n (states n) (whole n).state.state.engine.driver (was_own n).said (said_in (whole n).past) now
  ends_answered fine none n now is =
      let begins : answers.BeginsAnswered (core_hearing rules plan n) (whole n) (done n).state (done n).said (λ m. (queue_told last.links).sent n m) =
      answered_begin (Some (cleared rules plan.limits.page)) (core_hearing rules plan) (flight_at_first rules plan states)
      (λ n. (done n).state) answers_to (λ n. (done n).heard) (λ n. (done n).said) (λ n. (done n).taken) (λ n m. (queue_told last.links).sent n m)
      (verified_turns plan.workers) went n (answered_ends rules plan states answers_to (verified_turns plan.workers) n (verified_ends rules plan states fine none n)) in
      let d = done n in
      let at = if_found (EndsAt rules result n (states n) d.state.engine.driver (was_own n).said d.said) (slice_get machines n) now is d.of in
      let row = along_row n d.state d.heard d.said d.taken (λ m. (queue_told last.links).sent n m) d.along in
      record {
        between = record {
          since = at.between.since;
          until = grows_then rules now.driver.state d.state.engine.driver (whole n).state.state.engine.driver at.between.until
              (grows_on rules lawful (states n) d.state.engine.driver (whole n).state.state.engine.driver d.said (said_in (whole n).past) row (whole_row n) begins.says);
        };
        caused = λ f e. stops_more rules (was_own n).said d.said (said_in (whole n).past) f now.driver.state begins.says (at.caused f e);
      }
