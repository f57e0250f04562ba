-- Of orderly directives no own run stops before it is through, and none asks for a page in flight.
use Rattle.std.proofs.Common.{◌≡◌, ◌≢◌, ℕ, zero, suc, Bool, true, false, cond, List, [], ◌∷◌, Option, None, Some, IfSome, refl, sym, ap, ◌∙◌, subst, slice_get, take, length}
use Rattle.mage_instr.specs.declared.directive.Directive.{Directive}
use Rattle.mage_instr.specs.declared.directive.Directive.TheVariants as entry
use Rattle.mage_instr.specs.declared.directive.MemProgram.{MemProgram}
use Rattle.mage_instr.specs.declared.op.Op.{Op}
use Rattle.mage_instr.specs.declared.op.Op.TheVariants as op
use Rattle.mage_instr.specs.declared.replaced.Job.{Job}
use Rattle.mage_network.specs.Workers.{Moves, Stops, Deed}
use Rattle.mage_network.specs.Pasts.{Leads}
use Rattle.mage_network.specs.Slots.{Reads, Writes, Slot, Idle, Asked, Busy, Served, act_of, asks_of, finishes_read, finishes_write, act_in, or_stops, served_at_once, in_flight, AsksFreePage, NeverAsksTwice}
use Rattle.mage_driver.specs.Rules.{Rules}
use Rattle.mage_driver.specs.Calls.{Call, Finish, call_of}
use Rattle.mage_steps.specs.Engines.{Engine, act_of_op, doing_of, doing_at, finishes}
use Rattle.mage_steps.specs.Core.{Core, directives_of, core_act, core_at_first, engine_of}
use Rattle.mage_steps.specs.Orderly.{Flight, Reading, Writing, page_of_flight, flights_before, flights_after_all, Fits, IsStill, IsOrderly, AreOrderly, IsThrough}
use Rattle.mage_steps.proofs.Flights.{flight_in, FlightsAre, run_keeps}
use Rattle.mage_steps.proofs.Settled.{is_settled, AreSettled, run_settles}

-- past the end the whole list is taken
taken_whole : (directives : List Directive) (d : ℕ) → slice_get directives d ≡ None →
    take d directives ≡ take (length directives) directives
taken_whole [] zero e = refl
taken_whole [] (suc d) e = refl
taken_whole (x ∷ directives) zero e = absurd cc
taken_whole (x ∷ directives) (suc d) e = ap (λ xs. x ∷ xs) (taken_whole directives d e)

found : {X : Type 0} (P : X → Type 0) (o : Option X) (x : X) → o ≡ Some x → IfSome o P → P x
found P o x e h = subst (λ o'. IfSome o' P) e h

idle_word : {B : Type 0} (word : Slot B) → flight_in word ≡ None → word ≡ Idle
idle_word Idle e = refl
idle_word (Asked transfer) e = absurd cc
idle_word (Busy transfer) e = absurd cc
idle_word (Served transfer bytes) e = absurd cc

in_flight_page : {B : Type 0} (word : Slot B) (page : ℕ) → in_flight word ≡ Some page →
    (flight : Flight) × (flight_in word ≡ Some flight) × (page_of_flight flight ≡ page)
in_flight_page Idle page e = absurd cc
in_flight_page (Asked (Reads p)) page e = (Reading p, refl, (let s : Some p ≡ Some page = e in cc))
in_flight_page (Asked (Writes p bytes)) page e = (Writing p, refl, (let s : Some p ≡ Some page = e in cc))
in_flight_page (Busy (Reads p)) page e = (Reading p, refl, (let s : Some p ≡ Some page = e in cc))
in_flight_page (Busy (Writes p bytes)) page e = (Writing p, refl, (let s : Some p ≡ Some page = e in cc))
in_flight_page (Served (Reads p) bytes) page e = (Reading p, refl, (let s : Some p ≡ Some page = e in cc))
in_flight_page (Served (Writes p sent) bytes) page e = (Writing p, refl, (let s : Some p ≡ Some page = e in cc))

module _ {W : Type 0} (rules : Rules W) (plan : MemProgram) (n : ℕ) where
  -- a page that is still isn't in flight
  still_page : (worker : Core rules plan) (page : ℕ) → FlightsAre rules plan n worker →
      IsStill (flights_before (directives_of plan n) worker.engine.place) page →
      (i : ℕ) → in_flight (worker.slots i) ≢ Some page
  still_page worker page are still i e =
      let f = in_flight_page (worker.slots i) page e in
      found (λ flight. page_of_flight flight ≢ page) _ f.0 (sym (are i) ∙ f.1) (still i) f.2

  asks_free : (worker : Core rules plan) (x : Directive) → FlightsAre rules plan n worker →
      Fits (flights_before (directives_of plan n) worker.engine.place) x →
      AsksFreePage (doing_of rules plan.limits.page x worker.engine) worker.slots
  asks_free worker (entry.Fresh frame page) are fits = tt
  asks_free worker (entry.IssueIn slot page) are fits = still_page worker page are fits.1
  asks_free worker (entry.FinishIn slot frame) are fits = tt
  asks_free worker (entry.IssueOut slot frame page) are fits = still_page worker page are fits.1
  asks_free worker (entry.FinishOut slot) are fits = tt
  asks_free worker (entry.Do job) are fits = tt

  pub asks_free_page : (worker : Core rules plan) → IsOrderly (directives_of plan n) →
      FlightsAre rules plan n worker → AsksFreePage (engine_of rules plan n worker.engine) worker.slots
  asks_free_page worker orderly are = go (slice_get (directives_of plan n) worker.engine.place) refl
    where
      go : (o : Option Directive) → slice_get (directives_of plan n) worker.engine.place ≡ o →
          AsksFreePage (doing_at rules plan.limits.page o worker.engine) worker.slots
      go None e = tt
      go (Some x) e = asks_free worker x are
          (found (Fits (flights_before (directives_of plan n) worker.engine.place)) _ x e (orderly.each worker.engine.place))

  goes : (o : Op) (job : Job) (worker : Core rules plan) →
      act_of (act_of_op rules o job worker.engine) worker ≡ Stops → ⊥
  goes op.Input job worker e = cc
  goes op.Const job worker e = cc
  goes op.Output job worker e = cc
  goes op.Add job worker e = cc
  goes op.Sub job worker e = cc
  goes op.Mul job worker e = cc
  goes op.And job worker e = cc
  goes op.Or job worker e = cc
  goes op.Xor job worker e = cc
  goes op.Not job worker e = cc
  goes op.Eq job worker e = cc
  goes op.Lt job worker e = cc
  goes op.Mux job worker e = cc
  goes op.Shl job worker e = cc
  goes op.Shr job worker e = cc
  goes op.Resize job worker e = cc
  goes op.Send job worker e = cc
  goes op.Recv job worker e = cc
  goes op.Div job worker e = cc
  goes op.Rem job worker e = cc
  goes op.Count job worker e = cc
  goes op.Min job worker e = cc
  goes op.Max job worker e = cc

  ask_goes : (word : Slot (List ℕ)) (left : Core rules plan) → word ≡ Idle →
      or_stops {L = Call rules.State W} {W = List ℕ} (asks_of word left) ≡ Stops → ⊥
  ask_goes word left idle e =
      let s = subst (λ w. or_stops {L = Call rules.State W} {W = List ℕ} (asks_of w left) ≡ Stops) idle e in cc

  read_goes : (word : Slot (List ℕ)) (slot page : ℕ) (to : List ℕ → Engine rules.State) (worker : Core rules plan) →
      is_settled word ≡ true → flight_in word ≡ Some (Reading page) →
      or_stops {L = Call rules.State W} {W = List ℕ} (finishes_read word slot to worker) ≡ Stops → ⊥
  read_goes Idle slot page to worker settled flight e = cc
  read_goes (Asked t) slot page to worker settled flight e = cc
  read_goes (Busy t) slot page to worker settled flight e = cc
  read_goes (Served (Reads p) bytes) slot page to worker settled flight e = cc
  read_goes (Served (Writes p sent) bytes) slot page to worker settled flight e = cc

  write_goes : (word : Slot (List ℕ)) (slot page : ℕ) (to : Engine rules.State) (worker : Core rules plan) →
      is_settled word ≡ true → flight_in word ≡ Some (Writing page) →
      or_stops {L = Call rules.State W} {W = List ℕ} (finishes_write word slot to worker) ≡ Stops → ⊥
  write_goes Idle slot page to worker settled flight e = cc
  write_goes (Asked t) slot page to worker settled flight e = cc
  write_goes (Busy t) slot page to worker settled flight e = cc
  write_goes (Served (Reads p) bytes) slot page to worker settled flight e = cc
  write_goes (Served (Writes p sent) bytes) slot page to worker settled flight e = cc

  directive_goes : (worker : Core rules plan) (x : Directive) → FlightsAre rules plan n worker → AreSettled worker →
      Fits (flights_before (directives_of plan n) worker.engine.place) x →
      or_stops (act_in served_at_once (doing_of rules plan.limits.page x worker.engine) worker) ≡ Stops → ⊥
  directive_goes worker (entry.Fresh frame page) are settled fits e = cc
  directive_goes worker (entry.IssueIn slot page) are settled fits e =
      ask_goes (worker.slots slot) _ (idle_word (worker.slots slot) (are slot ∙ fits.0)) e
  directive_goes worker (entry.FinishIn slot frame) are settled fits e =
      read_goes (worker.slots slot) slot fits.0 _ worker (settled slot) (are slot ∙ fits.1) e
  directive_goes worker (entry.IssueOut slot frame page) are settled fits e =
      ask_goes (worker.slots slot) _ (idle_word (worker.slots slot) (are slot ∙ fits.0)) e
  directive_goes worker (entry.FinishOut slot) are settled fits e =
      write_goes (worker.slots slot) slot fits.0 _ worker (settled slot) (are slot ∙ fits.1) e
  directive_goes worker (entry.Do job) are settled fits e = goes job.op job worker e

  finished_so : (worker : Core rules plan) (b : Bool) →
      act_of {L = Call rules.State W} {W = List ℕ}
      (cond b Stops (Moves (call_of rules worker.engine.driver Finish ∷ []) (finishes rules worker.engine))) worker
      ≡ Stops → b ≡ true
  finished_so worker true e = refl
  finished_so worker false e = absurd cc

  pub stops_through : (worker : Core rules plan) → IsOrderly (directives_of plan n) →
      FlightsAre rules plan n worker → AreSettled worker →
      core_act rules plan n worker ≡ Stops → IsThrough rules plan n worker
  stops_through worker orderly are settled stops = go (slice_get (directives_of plan n) worker.engine.place) refl stops
    where
      go : (o : Option Directive) → slice_get (directives_of plan n) worker.engine.place ≡ o →
          or_stops (act_in served_at_once (doing_at rules plan.limits.page o worker.engine) worker) ≡ Stops →
          IsThrough rules plan n worker
      go None e h = record {
        place = e;
        finished = finished_so worker worker.engine.is_finished h;
        idle = λ slot. idle_word (worker.slots slot)
            (are slot
            ∙ ap (λ xs. flights_after_all (λ s. None) xs slot) (taken_whole (directives_of plan n) worker.engine.place e)
            ∙ orderly.idle slot);
      }
      go (Some x) e h = absurd (directive_goes worker x are settled
          (found (Fits (flights_before (directives_of plan n) worker.engine.place)) _ x e (orderly.each worker.engine.place)) h)

-- no own run asks for a page in flight
pub never_twice : {W : Type 0} (rules : Rules W) (plan : MemProgram) (drivers : ℕ → rules.State) → AreOrderly plan →
    NeverAsksTwice (engine_of rules plan) (core_at_first rules plan drivers)
never_twice rules plan drivers orderly n past worker leads =
    asks_free_page rules plan n worker (orderly n)
    (run_keeps rules plan n (core_at_first rules plan drivers n) past worker (λ slot. refl) leads)

-- an own run that has stopped is through
pub own_run_through : {W : Type 0} (rules : Rules W) (plan : MemProgram) (drivers : ℕ → rules.State) → AreOrderly plan →
    (n : ℕ) (past : List (Deed (Call rules.State W) (List ℕ))) (worker : Core rules plan) →
    Leads (core_act rules plan n) (core_at_first rules plan drivers n) past worker →
    core_act rules plan n worker ≡ Stops → IsThrough rules plan n worker
own_run_through rules plan drivers orderly n past worker leads =
    stops_through rules plan n worker (orderly n)
    (run_keeps rules plan n (core_at_first rules plan drivers n) past worker (λ slot. refl) leads)
    (run_settles (engine_of rules plan) n (core_at_first rules plan drivers n) past worker (λ slot. refl) leads)
