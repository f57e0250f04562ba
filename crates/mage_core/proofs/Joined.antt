-- Machines that have ended stand where the joint run over their answers ends.
use Rattle.std.proofs.Common.{◌≡◌, ◌+◌, ℕ, zero, suc, true, cond, not, List, [], ◌∷◌, length, append-nil, Option, None, Some, slice_get, slice_index_or, nat_lt, refl, sym, ap, ◌∙◌, subst, arith}
use Rattle.std.specs.Prelude.{IfSome, IsTrue}
use Rattle.std.proofs.lemmas.Bool.Decides.{nat_tests}
use mathlib.Core.Path.{fun_ext}
use Rattle.mage_instr.specs.declared.directive.Directive.{Directive}
use Rattle.mage_instr.specs.declared.directive.MemProgram.{MemProgram}
use Rattle.mage_instr.specs.declared.replaced.Limits.{Limits}
use Rattle.mage_directives.specs.Directives.{IsMemProgram}
use Rattle.mage_network.specs.Pasts.{IsPrefix}
use Rattle.mage_network.specs.Workers.{Moves, Stops}
use Rattle.mage_network.specs.Answers.{Does, IsAlongAnswers, AreAnswered, BeginsAnswered}
use Rattle.mage_network.specs.Reading.{Flying, hears_in, act_flying}
use Rattle.mage_network.proofs.Answering.{heard_start, answered_begin}
use Rattle.mage_driver.specs.Rules.{Rules}
use Rattle.mage_driver.specs.Calls.{Call, Finish, call_of}
use Rattle.mage_link.specs.Queues.{QueueState, queue_told, lies_in}
use Rattle.mage_steps.specs.Frames.{cleared}
use Rattle.mage_steps.specs.Engines.{Engine, doing, doing_at, opened, finishes}
use Rattle.mage_steps.specs.Core.{Flight, directives_of, core_hearing, flight_at_first, answered_after}
use Rattle.mage_verify.specs.Parts.{WorkerPart, parts_from, parts_of}
use Rattle.mage_verify.specs.Faults.{fault_of}
use Rattle.mage_verified_runs.specs.Turns.{verified_turns}
use Rattle.mage_verified_runs.proofs.Ending.{verified_ends}
use Rattle.mage_engine.specs.Seen.{Seen, IsEnded, HoldSame, is_finished, worker_with, engine_with}
use Rattle.mage_engine.specs.Steps.{heard_in, first_worker, next_with}
use Rattle.mage_core.specs.Going.{Start, IsGoing, HasGone, AllGo}
use Rattle.mage_core.proofs.Starting.{if_found, get_within, part_at}
use Rattle.mage_core.proofs.Alike.{answered_ends}

-- the part of a worker has the limits of its program
pub part_limits : (limits : Limits) (stores : List ℕ) (first : ℕ) (workers : List (List Directive)) (w : ℕ) →
    IfSome (slice_get (parts_from limits stores first workers) w) (λ part. part.limits ≡ limits)
part_limits limits stores first [] zero = tt
part_limits limits stores first [] (suc w) = tt
part_limits limits stores first (x ∷ xs) zero = refl
part_limits limits stores first (x ∷ xs) (suc w) = part_limits limits stores (first + 1) xs w

pub index_found : {X : Type 0} (xss : List (List X)) (w : ℕ) (xs : List X) → slice_get xss w ≡ Some xs → slice_index_or xss w [] ≡ xs
index_found [] zero xs e = absurd cc
index_found [] (suc w) xs e = absurd cc
index_found (ys ∷ xss) zero xs e = cc
index_found (ys ∷ xss) (suc w) xs e = index_found xss w xs e

pub found_below : {X : Type 0} (xs : List X) (w : ℕ) (x : X) → slice_get xs w ≡ Some x → nat_lt w (length xs) ≡ true
found_below xs w x e = let below = get_within xs w x e in grind (arith, nat_tests)

pub some_one : {X : Type 0} (x y : X) → Some x ≡ Some y → x ≡ y
some_one x y e = cc

begins_itself : {X : Type 0} (xs : List X) → IsPrefix xs xs
begins_itself xs = ([], append-nil xs)

module _ {W : Type 0} (rules : Rules W) (plan : MemProgram) (drivers : ℕ → rules.State) (links : QueueState) (machines : List (Seen rules.State)) where
  -- a machine stands where its worker's own run is
  pub record IsOwn (n : ℕ) (state : Flight rules plan) (heard : ℕ → List (List ℕ)) (machine : Seen rules.State) : Type 0 where
    pub driver : state.engine.driver ≡ machine.driver.state
    pub answers : heard ≡ heard_in machine.port.finished
    pub bank : ℕ → List ℕ
    pub holds : HoldSame machine bank
    pub next : core_hearing rules plan n state ≡ hears_in (next_with rules machine bank) (worker_with machine bank)
    pub stops : IsEnded machine → core_hearing rules plan n state ≡ Does Stops

  -- the own run of a worker, as far as it went
  pub record Own (n : ℕ) : Type 0 where
    pub state : Flight rules plan
    pub heard : ℕ → List (List ℕ)
    pub said : List (Call rules.State W)
    pub taken : ℕ → List (List ℕ)
    pub along : IsAlongAnswers (core_hearing rules plan n) (flight_at_first rules plan drivers n) state heard said
        taken (λ m. (queue_told links).sent n m)
    pub begins : (m : ℕ) → IsPrefix (taken m) ((queue_told links).sent m n)
    pub of : (machine : Seen rules.State) → slice_get machines n ≡ Some machine → IsOwn n state heard machine

  -- beside the workers nothing happens
  own_beside : (n : ℕ) → slice_get machines n ≡ None → ((m : ℕ) → (queue_told links).sent n m ≡ []) → Own n
  own_beside n none sent = record {
    state = flight_at_first rules plan drivers n;
    heard = λ page. [];
    said = [];
    taken = λ m. [];
    along = subst (λ (t : ℕ → List (List ℕ)). IsAlongAnswers (core_hearing rules plan n) (flight_at_first rules plan drivers n) (flight_at_first rules plan drivers n)
        (λ page. []) [] (λ m. []) t) (sym (fun_ext sent))
        (heard_start (core_hearing rules plan n) (flight_at_first rules plan drivers n));
    begins = λ m. ((queue_told links).sent m n, refl);
    of = λ machine is. absurd (let never : None ≡ Some machine = sym none ∙ is in cc);
  }

  -- the worker of a machine is on the own run of the program's worker
  module _ (start : Start rules.State) (w : ℕ) (machine : Seen rules.State) (at : slice_get machines w ≡ Some machine) (g : IsGoing rules start w links machine)
      (of : slice_get (parts_of plan) w ≡ Some start.part) (told : IsTrue start.driver.told) (driver : drivers w ≡ start.driver.state) where
    abbrev Along : (page : ℕ) (directives : List Directive) (k : ℕ) (first : Flight rules plan) → Type 0
    Along page directives k first = IsAlongAnswers (λ (worker : Flying (Engine rules.State) (List ℕ)). hears_in (doing rules page directives worker.engine) worker)
        first (worker_with machine (g.along told).bank) (heard_in machine.port.finished) (g.along told).said
        (λ m. (queue_told links).received m k) (λ m. (queue_told links).sent k m)

    directives_so : start.part.directives ≡ directives_of plan w
    directives_so = sym (index_found plan.workers w start.part.directives (if_found _ _ start.part of (part_at plan.limits plan.stores 0 plan.workers w)).1)

    limits_so : start.part.limits ≡ plan.limits
    limits_so = if_found (λ (part : WorkerPart). part.limits ≡ plan.limits) _ start.part of (part_limits plan.limits plan.stores 0 plan.workers w)

    first_so : first_worker rules start.part.limits.page start.driver.state ≡ flight_at_first rules plan drivers w
    first_so =
        ap (λ (l : Limits). first_worker rules l.page start.driver.state) limits_so
        ∙ ap (λ (s : rules.State). first_worker rules plan.limits.page s) (sym driver)
        ∙ ap (λ b. record {
          engine = record (opened rules plan.limits.page (drivers w)) { is_finished = not b };
          flights = λ (i : ℕ). None;
        }) (sym (found_below plan.workers w start.part.directives (if_found _ _ start.part of (part_at plan.limits plan.stores 0 plan.workers w)).1))

    -- once it has ended, its worker stops
    own_stops : IsEnded machine → core_hearing rules plan w (worker_with machine (g.along told).bank) ≡ Does Stops
    own_stops ended =
        ap (λ (o : Option Directive). hears_in (doing_at rules plan.limits.page o (engine_with machine (g.along told).bank)) (worker_with machine (g.along told).bank)) nothing
        ∙ ap (λ b. Does (act_flying (cond b Stops (Moves (call_of rules machine.driver.state Finish ∷ []) (finishes rules (engine_with machine (g.along told).bank))))
        (worker_with machine (g.along told).bank))) (ap is_finished ended.finished)
      where
        nothing : slice_get (directives_of plan w) machine.place ≡ None
        nothing = ap (λ (ds : List Directive). slice_get ds machine.place) (sym directives_so)
            ∙ ap (λ (p : WorkerPart). slice_get p.directives machine.place) (sym g.part) ∙ ended.past

    abbrev bank : ℕ → List ℕ
    bank = (g.along told).bank

    -- what its worker does next is what its engine does next
    next_so : core_hearing rules plan w (worker_with machine bank) ≡ hears_in (next_with rules machine bank) (worker_with machine bank)
    next_so =
        ap (λ (l : Limits). hears_in (doing rules l.page (directives_of plan w) (engine_with machine bank)) (worker_with machine bank)) (sym limits_so)
        ∙ ap (λ (ds : List Directive). hears_in (doing rules start.part.limits.page ds (engine_with machine bank)) (worker_with machine bank)) (sym directives_so)
        ∙ ap (λ (p : WorkerPart). hears_in (doing rules p.limits.page p.directives (engine_with machine bank)) (worker_with machine bank)) (sym g.part)

    pub own_of : Own w
    own_of = record {
      state = worker_with machine (g.along told).bank;
      heard = heard_in machine.port.finished;
      said = (g.along told).said;
      taken = λ m. (queue_told links).received m w;
      begins = λ m. (lies_in links m w, refl);
      along = subst (λ (f : Flight rules plan). Along plan.limits.page (directives_of plan w) w f) first_so
          (subst (λ n. Along plan.limits.page (directives_of plan w) n (first_worker rules start.part.limits.page start.driver.state)) g.number
          (subst (λ (ds : List Directive). Along plan.limits.page ds start.part.worker (first_worker rules start.part.limits.page start.driver.state)) directives_so
          (subst (λ (l : Limits). Along l.page start.part.directives start.part.worker (first_worker rules start.part.limits.page start.driver.state)) limits_so
          (subst (λ (p : WorkerPart). Along p.limits.page p.directives p.worker (first_worker rules start.part.limits.page start.driver.state)) g.part
          (g.along told).along))));
      of = λ other is. let same : machine ≡ other = some_one machine other (sym at ∙ is) in
          subst (λ (m : Seen rules.State). IsOwn w (worker_with machine (g.along told).bank) (heard_in machine.port.finished) m) same
          (record { driver = refl; answers = refl; bank = bank; holds = (g.along told).holds; next = next_so; stops = own_stops });
    }

  -- ---- all workers

  -- what is known of where the workers started
  module _ (starts : List (Start rules.State)) (all : AllGo rules starts machines links)
      (parts_so : (w : ℕ) (start : Start rules.State) → slice_get starts w ≡ Some start → slice_get (parts_of plan) w ≡ Some start.part)
      (told_so : (w : ℕ) (start : Start rules.State) → slice_get starts w ≡ Some start → IsTrue start.driver.told)
      (drivers_so : (w : ℕ) (start : Start rules.State) → slice_get starts w ≡ Some start → drivers w ≡ start.driver.state)
      (quiet : (m n : ℕ) → slice_get machines n ≡ None → (queue_told links).sent n m ≡ []) where
    own_at : (n : ℕ) (found : Option (Seen rules.State)) → slice_get machines n ≡ found → Own n
    own_at n None is = own_beside n is (λ m. quiet m n is)
    own_at n (Some machine) is =
        let gone = if_found (HasGone rules starts n links) (slice_get machines n) machine is (all n) in
        own_of gone.start n machine is gone.going (parts_so n gone.start gone.from) (told_so n gone.start gone.from) (drivers_so n gone.start gone.from)

    pub own : (n : ℕ) → Own n
    own n = own_at n (slice_get machines n) refl

    pub answers_of : ℕ → ℕ → List (List ℕ)
    answers_of n = (own n).heard

    -- these are what the ports list as answered
    pub answers_are : (w : ℕ) (machine : Seen rules.State) → slice_get machines w ≡ Some machine → answers_of w ≡ heard_in machine.port.finished
    unfolding answers_of own
    answers_are w machine is = ((own w).of machine is).answers

    went : AreAnswered (core_hearing rules plan) (flight_at_first rules plan drivers) (λ n. (own n).state) answers_of answers_of (λ n. (own n).said)
        (λ n. (own n).taken) (λ n m. (queue_told links).sent n m)
    unfolding answers_of own
    went = record {
      along = λ n. (own n).along;
      given = λ n page. begins_itself (answers_of n page);
      received = λ n m. (own m).begins n;
    }

    -- a worker that has ended stands where the joint run over these answers ends
    pub ended_joint : IsMemProgram plan → fault_of plan ≡ None → (w : ℕ) (machine : Seen rules.State) → slice_get machines w ≡ Some machine → IsEnded machine →
        machine.driver.state ≡ (answered_after rules plan drivers answers_of (verified_turns plan.workers) w).state.state.engine.driver
    unfolding answers_of own
    ended_joint fine none w machine is ended =
        let whole = answered_after rules plan drivers answers_of (verified_turns plan.workers) w in
        let begins : BeginsAnswered (core_hearing rules plan w) whole (own w).state (own w).said (λ m. (queue_told links).sent w m) =
        answered_begin (Some (cleared rules plan.limits.page)) (core_hearing rules plan) (flight_at_first rules plan drivers)
        (λ n. (own n).state) answers_of answers_of (λ n. (own n).said)
        (λ n. (own n).taken) (λ n m. (queue_told links).sent n m) (verified_turns plan.workers) went w
        (answered_ends rules plan drivers answers_of (verified_turns plan.workers) w (verified_ends rules plan drivers fine none w)) in
        let of = (own w).of machine is in
        sym of.driver ∙ ap (λ (s : Flight rules plan). s.engine.driver) (begins.done (of.stops ended)).stands
