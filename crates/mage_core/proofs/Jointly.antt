-- Machines that have ended, whose reads brought what was last written, stand where the joint run over pages ends.
use Rattle.std.proofs.Common.{◌≡◌, ℕ, cond, not, List, [], ◌∷◌, Option, None, Some, slice_get, refl, sym, ap, ◌∙◌, subst}
use Rattle.std.specs.Prelude.{IsTrue}
use mathlib.Core.Path.{fun_ext}
use Rattle.mage_instr.specs.declared.directive.Directive.{Directive}
use Rattle.mage_instr.specs.declared.directive.MemProgram.{MemProgram}
use Rattle.mage_instr.specs.declared.replaced.Limits.{Limits}
use Rattle.mage_directives.specs.Directives.{IsMemProgram}
use Rattle.mage_network.specs.Workers.{Moves, Stops, said_in}
use Rattle.mage_network.specs.Pasts.{IsPrefix, IsAlong}
use Rattle.mage_network.specs.Laws.{AreAlong, BeginsAlong, IsAll}
use Rattle.mage_network.specs.Slots.{Acts, idle, or_stops, act_in, served_at_once}
use Rattle.mage_network.proofs.Steps.{along_start, along_begins}
use Rattle.mage_driver.specs.Rules.{Rules}
use Rattle.mage_driver.specs.Calls.{Call, Finish, NoneIsDue, call_of}
use Rattle.mage_link.specs.Queues.{QueueState, queue_told, lies_in}
use Rattle.mage_steps.specs.Frames.{cleared}
use Rattle.mage_steps.specs.Engines.{Engine, doing, doing_at, opened, finishes}
use Rattle.mage_steps.specs.Core.{Core, directives_of, core_act, core_at_first, joint_after}
use Rattle.mage_verify.specs.Faults.{fault_of}
use Rattle.mage_verify.specs.Parts.{WorkerPart, parts_of}
use Rattle.mage_verified_runs.specs.Turns.{verified_turns}
use Rattle.mage_verified_runs.proofs.Ending.{verified_ends}
use Rattle.mage_engine.specs.Seen.{Seen, IsEnded, HoldSame, is_finished, engine_with}
use Rattle.mage_engine.specs.Steps.{next_with}
use Rattle.mage_core.specs.Going.{Start, IsGoing, HasGone, AllGo}
use Rattle.mage_core.specs.Paging.{AllRight, GoesOverPages, first_paged}
use Rattle.mage_core.proofs.Starting.{if_found, part_at}
use Rattle.mage_core.proofs.Joined.{part_limits, index_found, found_below, some_one}

module _ {W : Type 0} (rules : Rules W) (plan : MemProgram) (drivers : ℕ → rules.State) (links : QueueState) (machines : List (Seen rules.State)) where
  -- a machine stands where its worker's own run over pages is
  pub record IsOver (n : ℕ) (state : Core rules plan) (machine : Seen rules.State) : Type 0 where
    pub driver : state.engine.driver ≡ machine.driver.state
    pub bank : ℕ → List ℕ
    pub holds : HoldSame machine bank
    pub next : core_act rules plan n state ≡ or_stops (act_in served_at_once (next_with rules machine bank) state)
    pub stops : IsEnded machine → core_act rules plan n state ≡ Stops

  -- that run, as far as it went
  pub record Over (n : ℕ) : Type 0 where
    pub state : Core rules plan
    pub said : List (Call rules.State W)
    pub passed : NoneIsDue rules said
    pub taken : ℕ → List (List ℕ)
    pub along : IsAlong (core_act rules plan n) (core_at_first rules plan drivers n) state said taken (λ m. (queue_told links).sent n m)
    pub begins : (m : ℕ) → IsPrefix (taken m) ((queue_told links).sent m n)
    pub of : (machine : Seen rules.State) → slice_get machines n ≡ Some machine → IsOver n state machine

  -- beside the workers nothing happens
  over_beside : (n : ℕ) → slice_get machines n ≡ None → ((m : ℕ) → (queue_told links).sent n m ≡ []) → Over n
  over_beside n none sent = record {
    state = core_at_first rules plan drivers n;
    said = [];
    passed = tt;
    taken = λ m. [];
    along = subst (λ (t : ℕ → List (List ℕ)). IsAlong (core_act rules plan n) (core_at_first rules plan drivers n) (core_at_first rules plan drivers n) [] (λ m. []) t)
        (sym (fun_ext sent)) (along_start (core_act rules plan n) (core_at_first rules plan drivers n));
    begins = λ m. ((queue_told links).sent m n, refl);
    of = λ machine is. absurd (let never : None ≡ Some machine = sym none ∙ is in cc);
  }

  module _ (start : Start rules.State) (w : ℕ) (machine : Seen rules.State) (at : slice_get machines w ≡ Some machine) (g : IsGoing rules start w links machine)
      (of : slice_get (parts_of plan) w ≡ Some start.part) (driver : drivers w ≡ start.driver.state)
      (over : GoesOverPages rules (first_paged rules start.part.limits.page start.driver.state) machine (queue_told links)) where
    abbrev Along : (page : ℕ) (directives : List Directive) (k : ℕ) (first : Core rules plan) → Type 0
    Along page directives k first = IsAlong (λ (worker : Core rules plan).
        or_stops {L = Call rules.State W} {W = List ℕ} (act_in served_at_once (doing rules page directives worker.engine) worker))
        first over.worker over.said (λ m. (queue_told links).received m k) (λ m. (queue_told links).sent k m)

    directives_so : start.part.directives ≡ directives_of plan w
    directives_so = sym (index_found plan.workers w start.part.directives (if_found _ _ start.part of (part_at plan.limits plan.stores 0 plan.workers w)).1)

    limits_so : start.part.limits ≡ plan.limits
    limits_so = if_found (λ (part : WorkerPart). part.limits ≡ plan.limits) _ start.part of (part_limits plan.limits plan.stores 0 plan.workers w)

    first_so : first_paged rules start.part.limits.page start.driver.state ≡ core_at_first rules plan drivers w
    first_so =
        ap (λ (l : Limits). first_paged rules l.page start.driver.state) limits_so
        ∙ ap (λ (s : rules.State). first_paged rules plan.limits.page s) (sym driver)
        ∙ ap (λ b. idle (record (opened rules plan.limits.page (drivers w)) { is_finished = not b }) (λ (page : ℕ). cleared rules plan.limits.page))
        (sym (found_below plan.workers w start.part.directives (if_found _ _ start.part of (part_at plan.limits plan.stores 0 plan.workers w)).1))

    -- once it has ended, its worker stops
    over_stops : IsEnded machine → core_act rules plan w over.worker ≡ Stops
    over_stops ended =
        ap (λ (e : Engine rules.State). or_stops {L = Call rules.State W} {W = List ℕ} (act_in served_at_once (doing rules plan.limits.page (directives_of plan w) e) over.worker)) over.engine
        ∙ ap (λ (o : Option Directive). or_stops {L = Call rules.State W} {W = List ℕ}
        (act_in served_at_once (doing_at rules plan.limits.page o (engine_with machine over.bank)) over.worker)) nothing
        ∙ ap (λ b. or_stops {L = Call rules.State W} {W = List ℕ}
        (act_in served_at_once (Acts (cond b Stops (Moves (call_of rules machine.driver.state Finish ∷ []) (finishes rules (engine_with machine over.bank))))) over.worker))
        (ap is_finished ended.finished)
      where
        nothing : slice_get (directives_of plan w) machine.place ≡ None
        nothing = ap (λ (ds : List Directive). slice_get ds machine.place) (sym directives_so)
            ∙ ap (λ (p : WorkerPart). slice_get p.directives machine.place) (sym g.part) ∙ ended.past

    -- what its worker does next is what its engine does next
    next_so : core_act rules plan w over.worker ≡ or_stops (act_in served_at_once (next_with rules machine over.bank) over.worker)
    next_so =
        ap (λ (e : Engine rules.State). or_stops {L = Call rules.State W} {W = List ℕ} (act_in served_at_once (doing rules plan.limits.page (directives_of plan w) e) over.worker)) over.engine
        ∙ ap (λ (l : Limits). or_stops {L = Call rules.State W} {W = List ℕ}
        (act_in served_at_once (doing rules l.page (directives_of plan w) (engine_with machine over.bank)) over.worker)) (sym limits_so)
        ∙ ap (λ (ds : List Directive). or_stops {L = Call rules.State W} {W = List ℕ}
        (act_in served_at_once (doing rules start.part.limits.page ds (engine_with machine over.bank)) over.worker)) (sym directives_so)
        ∙ ap (λ (p : WorkerPart). or_stops {L = Call rules.State W} {W = List ℕ}
        (act_in served_at_once (doing rules p.limits.page p.directives (engine_with machine over.bank)) over.worker)) (sym g.part)

    pub over_of : Over w
    over_of = record {
      state = over.worker;
      said = over.said;
      passed = over.passed;
      taken = λ m. (queue_told links).received m w;
      begins = λ m. (lies_in links m w, refl);
      along = subst (λ (f : Core rules plan). Along plan.limits.page (directives_of plan w) w f) first_so
          (subst (λ n. Along plan.limits.page (directives_of plan w) n (first_paged rules start.part.limits.page start.driver.state)) g.number
          (subst (λ (ds : List Directive). Along plan.limits.page ds start.part.worker (first_paged rules start.part.limits.page start.driver.state)) directives_so
          (subst (λ (l : Limits). Along l.page start.part.directives start.part.worker (first_paged rules start.part.limits.page start.driver.state)) limits_so
          (subst (λ (p : WorkerPart). Along p.limits.page p.directives p.worker (first_paged rules start.part.limits.page start.driver.state)) g.part
          over.along))));
      of = λ other is. let same : machine ≡ other = some_one machine other (sym at ∙ is) in
          subst (λ (m : Seen rules.State). IsOver w over.worker m) same
          (record {
            driver = ap (λ (e : Engine rules.State). e.driver) over.engine;
            bank = over.bank;
            holds = over.holds;
            next = next_so;
            stops = over_stops;
          });
    }

  -- ---- all workers

  module _ (starts : List (Start rules.State)) (all : AllGo rules starts machines links)
      (parts_so : (w : ℕ) (start : Start rules.State) → slice_get starts w ≡ Some start → slice_get (parts_of plan) w ≡ Some start.part)
      (told_so : (w : ℕ) (start : Start rules.State) → slice_get starts w ≡ Some start → IsTrue start.driver.told)
      (drivers_so : (w : ℕ) (start : Start rules.State) → slice_get starts w ≡ Some start → drivers w ≡ start.driver.state)
      (quiet : (m n : ℕ) → slice_get machines n ≡ None → (queue_told links).sent n m ≡ [])
      (right : (w : ℕ) (machine : Seen rules.State) → slice_get machines w ≡ Some machine → AllRight machine.port.finished) where
    over_at : (n : ℕ) (found : Option (Seen rules.State)) → slice_get machines n ≡ found → Over n
    over_at n None is = over_beside n is (λ m. quiet m n is)
    over_at n (Some machine) is =
        let gone = if_found (HasGone rules starts n links) (slice_get machines n) machine is (all n) in
        over_of gone.start n machine is gone.going (parts_so n gone.start gone.from) (drivers_so n gone.start gone.from)
        (gone.going.over (told_so n gone.start gone.from) (right n machine is))

    pub over : (n : ℕ) → Over n
    over n = over_at n (slice_get machines n) refl

    went : AreAlong (core_act rules plan) (core_at_first rules plan drivers) (λ n. (over n).state) (λ n. (over n).said) (λ n. (over n).taken) (λ n m. (queue_told links).sent n m)
    went = record {
      along = λ n. (over n).along;
      received = λ n m. (over m).begins n;
    }

    -- what a worker that has ended did is what it does in the joint run
    whole_over : IsMemProgram plan → fault_of plan ≡ None → (w : ℕ) (machine : Seen rules.State) → slice_get machines w ≡ Some machine → IsEnded machine →
        IsAll (joint_after rules plan drivers (verified_turns plan.workers) w) (over w).state (over w).said (λ m. (queue_told links).sent w m)
    whole_over fine none w machine is ended =
        let whole = joint_after rules plan drivers (verified_turns plan.workers) w in
        let begins : BeginsAlong (core_act rules plan w) whole (over w).state (over w).said (λ m. (queue_told links).sent w m) =
        along_begins (core_act rules plan) (core_at_first rules plan drivers) (λ n. (over n).state) (λ n. (over n).said) (λ n. (over n).taken)
        (λ n m. (queue_told links).sent n m) (verified_turns plan.workers) went w (verified_ends rules plan drivers fine none w) in
        begins.done (((over w).of machine is).stops ended)

    pub ended_over : IsMemProgram plan → fault_of plan ≡ None → (w : ℕ) (machine : Seen rules.State) → slice_get machines w ≡ Some machine → IsEnded machine →
        machine.driver.state ≡ (joint_after rules plan drivers (verified_turns plan.workers) w).state.engine.driver
    ended_over fine none w machine is ended =
        sym ((over w).of machine is).driver ∙ ap (λ (s : Core rules plan). s.engine.driver) (whole_over fine none w machine is ended).stands

    pub passed_over : IsMemProgram plan → fault_of plan ≡ None → (w : ℕ) (machine : Seen rules.State) → slice_get machines w ≡ Some machine → IsEnded machine →
        NoneIsDue rules (said_in (joint_after rules plan drivers (verified_turns plan.workers) w).past)
    passed_over fine none w machine is ended =
        subst (λ (l : List (Call rules.State W)). NoneIsDue rules l) (whole_over fine none w machine is ended).says (over w).passed
