-- A world stays on its way, whatever event it takes.
use Rattle.std.proofs.Common.{◌≡◌, ◌≢◌, ◌≤◌, ◌<◌, ℕ, zero, suc, Bool, true, false, List, [], ◌∷◌, length, set, take, Option, Some, None, Result, Ok, Err, nat_eq, ◌⊎◌, inl, inr, refl, sym, ap, ◌∙◌, subst, arith}
use Rattle.std.specs.Prelude.{slice_get}
use mathlib.Core.Path.{fun_ext}
use Rattle.std.proofs.lemmas.Bool.{eqb-true, eqb-false}
use Rattle.std.proofs.lemmas.List.{length-set}
use Rattle.mage_instr.specs.declared.directive.Directive.{Directive}
use Rattle.mage_instr.specs.declared.fault.DriverFault.{DriverFault}
use Rattle.mage_driver.specs.Rules.{Rules}
use Rattle.mage_driver.specs.Calls.{Told}
use Rattle.mage_network.specs.Slots as net
use Rattle.mage_steps.specs.Engines as engines
use Rattle.mage_steps.specs.Frames.{cleared}
use Rattle.mage_steps.specs.Orderly.{Flight, flights_after, flights_after_all, flights_before}
use Rattle.mage_verify.specs.Parts.{WorkerPart}
use Rattle.mage_verify.specs.Runs.{AreVerified}
use Rattle.mage_verified_runs.proofs.Orderliness.{verified_is_orderly}
use Rattle.mage_progress.specs.Stands.{Stand, at_first, directives_in, next_in, HasEnded, stand_after, AtLinks, GoesOn, IsReached, Starts, Goes}
use Rattle.mage_progress.proofs.Tracking.{FitsAt, tracks_reached, reached_same}
use Rattle.mage_progress.proofs.Stuck.{program_of}
use Rattle.mage_progress.proofs.MachineLemmas.{worker_is}
use Rattle.mage_world.specs.declared.event.ApplyError.{ApplyError}
use Rattle.mage_world.specs.declared.event.ApplyError.TheVariants as error
use Rattle.mage_world.specs.Seats.{Seat}
use Rattle.mage_world.specs.Turns.{Wires}
use Rattle.mage_world.specs.Worlds.{Seen, seats_opened, opened, What, IsTurn, IsService, WasDone, WasStopped, HappensAt}
use Rattle.mage_world.specs.Progress.{stand_of, stand_in, stands_of, held_in, flight_in, IsInFlight, IsOnItsWay}
use Rattle.mage_world.proofs.WorldLemmas.{get_set_same, get_set_other, within}
use Rattle.mage_world.proofs.Reaching.{Went, went, Passed, Rests, flights, same_links, serviced}

same_some : {X : Type 0} (o : Option X) (x y : X) → o ≡ Some x → o ≡ Some y → x ≡ y
same_some o x y e f = let same : Some x ≡ Some y = sym e ∙ f in cc

pub directives_are : (parts : List WorkerPart) (worker : ℕ) (part : WorkerPart) → slice_get parts worker ≡ Some part →
    directives_in parts worker ≡ part.directives
directives_are [] zero part e = absurd cc
directives_are [] (suc worker) part e = absurd cc
directives_are (first ∷ parts) zero part e = let same : Some first ≡ Some part = e in ap (λ (p : WorkerPart). p.directives) (let one : first ≡ part = cc in one)
directives_are (first ∷ parts) (suc worker) part e = directives_are parts worker part e

-- one directive more
flights_next : (flights : ℕ → Option Flight) (directives : List Directive) (d : ℕ) (x : Directive) → slice_get directives d ≡ Some x →
    flights_after_all flights (take (suc d) directives) ≡ flights_after (flights_after_all flights (take d directives)) x
flights_next flights [] d x e = absurd cc
flights_next flights (y ∷ directives) zero x e = ap (λ z. flights_after flights z) (let s : Some y ≡ Some x = e in cc)
flights_next flights (y ∷ directives) (suc d) x e = flights_next (flights_after flights y) directives d x e

module _ {W : Type 0} (rules : Rules W) (old : Seen rules.State) (n : ℕ) (part : WorkerPart) (was is : Seat rules.State) (wires : Wires)
    (part_is : slice_get old.parts n ≡ Some part) (was_is : slice_get old.seats n ≡ Some was) (way : IsOnItsWay old) where
  -- the world in which worker n and the links are others
  abbrev new : Seen rules.State
  new = record old { seats = set old.seats n is; wires = wires }

  abbrev stands : ℕ → Stand
  stands = stands_of old.seats

  abbrev later : ℕ → Stand
  later = stands_of (set old.seats n is)

  seated : n < length old.seats
  seated = within old.seats n was was_is

  inside : n < length old.parts
  inside = within old.parts n part part_is

  at_now : stands n ≡ stand_of was
  at_now = ap (λ (o : Option (Seat rules.State)). stand_in o) was_is

  at_then : later n ≡ stand_of is
  at_then = ap (λ (o : Option (Seat rules.State)). stand_in o) (get_set_same old.seats n is seated)

  others : (m : ℕ) → n ≢ m → later m ≡ stands m
  others m off = ap (λ (o : Option (Seat rules.State)). stand_in o) (get_set_other old.seats n m is off)

  next_is : next_in old.parts stands n ≡ slice_get part.directives was.core.engine.place
  next_is =
      ap (λ (ds : List Directive). slice_get ds (stands n).place) (directives_are old.parts n part part_is)
      ∙ ap (λ (s : Stand). slice_get part.directives s.place) at_now

  fits : FitsAt (slice_get part.directives was.core.engine.place) (stand_of was)
  fits =
      let p = program_of old.parts way.verified in
      let tracks = tracks_reached old.parts way.verified.whole.0 p.fine (verified_is_orderly way.verified.whole.0 p.none) p.count p.are stands (held_in old.wires) way.reached in
      subst (λ (s : Stand). FitsAt (slice_get part.directives was.core.engine.place) s) at_now
      (subst (λ (o : Option Directive). FitsAt o (stands n)) next_is (tracks.fits n inside))

  -- the flights of worker n's slots were as its directives say
  were : flights rules part was was old.wires old.wires was ≡ flights_before part.directives was.core.engine.place
  were = fun_ext (way.flights n part was part_is was_is)

  -- put together
  so : IsReached old.parts later (held_in wires) → IsInFlight part is → IsOnItsWay new
  so reached flying = record {
    verified = way.verified;
    room = way.room;
    count = length-set old.seats n is ∙ way.count;
    reached = reached;
    flights = λ m q seat q_is seat_is. go m q seat q_is seat_is (nat_eq n m) refl;
  }
    where
      go : (m : ℕ) (q : WorkerPart) (seat : Seat rules.State) → slice_get old.parts m ≡ Some q → slice_get (set old.seats n is) m ≡ Some seat →
          (b : Bool) → nat_eq n m ≡ b → IsInFlight q seat
      go m q seat q_is seat_is true e =
          let here = eqb-true n m e in
          let sp = same_some (slice_get old.parts n) part q part_is (ap (λ k. slice_get old.parts k) here ∙ q_is) in
          let ss = same_some (slice_get (set old.seats n is) n) is seat (get_set_same old.seats n is seated) (ap (λ k. slice_get (set old.seats n is) k) here ∙ seat_is) in
          subst (λ (x : WorkerPart). IsInFlight x seat) sp (subst (λ (x : Seat rules.State). IsInFlight part x) ss flying)
      go m q seat q_is seat_is false e = way.flights m q seat q_is (sym (get_set_other old.seats n m is (eqb-false n m e)) ∙ seat_is)

  -- ---- a turn

  module _ (step : Went rules part was is old.wires wires (slice_get part.directives was.core.engine.place)) where
    goes : GoesOn old.parts n stands (held_in old.wires) later (held_in wires)
    goes = record {
      runs = λ ended. step.runs (subst (λ (s : Stand). HasEnded (slice_get part.directives was.core.engine.place) s) at_now
          (subst (λ (o : Option Directive). HasEnded o (stands n)) next_is ended));
      stand = at_then ∙ step.stand ∙ ap (λ (o : Option Directive). stand_after o (stand_of was)) (sym next_is)
          ∙ ap (λ (s : Stand). stand_after (next_in old.parts stands n) s) (sym at_now);
      others = λ m within off. others m off;
      links = subst (λ (o : Option Directive). AtLinks o n (held_in old.wires) (held_in wires)) (sym next_is)
          (subst (λ (k : ℕ). AtLinks (slice_get part.directives was.core.engine.place) k (held_in old.wires) (held_in wires))
          (worker_is old.parts n part way.verified part_is) step.links);
    }

    flying : (o : Option Directive) → slice_get part.directives was.core.engine.place ≡ o →
        Passed rules part was is old.wires wires o ⊎ Rests rules part was is old.wires wires → IsInFlight part is
    flying None here (inl passes) slot = absurd passes
    flying (Some x) here (inl passes) slot =
        passes.slots slot
        ∙ ap (λ (f : ℕ → Option Flight). flights_after f x slot) were
        ∙ ap (λ (f : ℕ → Option Flight). f slot) (sym (flights_next (λ slot. None) part.directives was.core.engine.place x here))
        ∙ ap (λ (d : ℕ). flights_before part.directives d slot) (sym passes.place)
    flying o here (inr rests) slot =
        rests.slots slot ∙ ap (λ (f : ℕ → Option Flight). f slot) were ∙ ap (λ (d : ℕ). flights_before part.directives d slot) (sym rests.place)

    goes_on : IsOnItsWay new
    goes_on = so (Goes way.reached inside goes) (flying (slice_get part.directives was.core.engine.place) refl step.slots)

  -- ---- where the worker stays

  stays_on : stand_of is ≡ stand_of was → ((slot : ℕ) → flight_in (is.core.slots slot) ≡ flight_in (was.core.slots slot)) → wires ≡ old.wires → IsOnItsWay new
  stays_on stand slots links =
      so (reached_same old.parts stands later (held_in old.wires) (held_in wires) way.reached (λ m in_parts. same m (nat_eq n m) refl) (same_links old.wires wires links))
      (λ slot. slots slot ∙ ap (λ (f : ℕ → Option Flight). f slot) were
      ∙ ap (λ (s : Stand). flights_before part.directives s.place slot) (sym stand))
    where
      same : (m : ℕ) (b : Bool) → nat_eq n m ≡ b → later m ≡ stands m
      same m true e = ap later (sym (eqb-true n m e)) ∙ at_then ∙ stand ∙ sym at_now ∙ ap stands (eqb-true n m e)
      same m false e = others m (eqb-false n m e)

  -- ---- what was done

  done_on : (one : What) → WasDone rules one old.capacity part was is old.wires wires → IsOnItsWay new
  done_on (IsTurn kind) did =
      goes_on (went rules part was is old.wires wires old.capacity (slice_get part.directives was.core.engine.place) refl fits did)
  done_on (IsService service) did =
      let kept = serviced was.core is.core service did.0 in
      stays_on (ap (λ (e : engines.Engine rules.State). record { place = e.place; wire = e.wire; finished = e.is_finished }) kept.engine) kept.slots did.2

  stopped_on : (one : What) (fault : DriverFault) → WasStopped rules one old.capacity part was is old.wires wires fault → IsOnItsWay new
  stopped_on (IsTurn kind) fault fails =
      stays_on (ap (λ (s : Seat rules.State). stand_of s) fails.rest)
      (λ slot. ap (λ (s : Seat rules.State). flight_in (s.core.slots slot)) fails.rest) fails.links
  stopped_on (IsService service) fault fails = absurd fails

pub stays_on_its_way : {W : Type 0} (rules : Rules W) (before after : Seen rules.State) (n : ℕ) (one : What) (result : Result (Unit {0}) ApplyError) →
    IsOnItsWay before → HappensAt rules before after n one result → IsOnItsWay after
stays_on_its_way rules before after n one (Ok u) way happens =
    subst (λ (w : Seen rules.State). IsOnItsWay w) (sym happens.4.rest)
    (done_on rules before n happens.1 happens.2 happens.3 after.wires happens.4.part_is happens.4.was_is way one happens.5)
stays_on_its_way rules before after n one (Err error.NotEnabled) way happens = subst (λ (w : Seen rules.State). IsOnItsWay w) (sym happens.1) way
stays_on_its_way rules before after n one (Err (error.Driver fault)) way happens =
    subst (λ (w : Seen rules.State). IsOnItsWay w) (sym happens.4.rest)
    (stopped_on rules before n happens.1 happens.2 happens.3 after.wires happens.4.part_is happens.4.was_is way one fault happens.5)

-- ---- before the first event

module _ {D W : Type 0} (rules : Rules W) (tells : D → Told rules.State) where
  seats_long : (parts : List WorkerPart) (drivers : List D) → length drivers ≡ length parts → length (seats_opened rules tells parts drivers) ≡ length parts
  seats_long [] drivers count = refl
  seats_long (p ∷ parts) [] count = absurd (omega arith)
  seats_long (p ∷ parts) (d ∷ drivers) count = ap suc (seats_long parts drivers (omega arith))

  first_stands : (parts : List WorkerPart) (drivers : List D) (n : ℕ) → stands_of (seats_opened rules tells parts drivers) n ≡ at_first
  first_stands [] drivers n = refl
  first_stands (p ∷ parts) [] n = refl
  first_stands (p ∷ parts) (d ∷ drivers) zero = refl
  first_stands (p ∷ parts) (d ∷ drivers) (suc n) = first_stands parts drivers n

  -- a seat has nothing done, and nothing in flight
  first_seat : (parts : List WorkerPart) (drivers : List D) (n : ℕ) (seat : Seat rules.State) → slice_get (seats_opened rules tells parts drivers) n ≡ Some seat →
      (seat.core.engine.place ≡ 0) × ((slot : ℕ) → seat.core.slots slot ≡ net.Idle)
  first_seat [] drivers n seat e = absurd cc
  first_seat (p ∷ parts) [] n seat e = absurd cc
  first_seat (p ∷ parts) (d ∷ drivers) zero seat e =
      let same : Some (record {
        driver = tells d;
        fault = None;
        core = net.idle (engines.opened rules p.limits.page (tells d).state) (λ page. cleared rules p.limits.page);
      }) ≡ Some seat = e in
      first_so p d seat (same_some (Some seat) _ seat (sym same) refl)
    where
      first_so : (p : WorkerPart) (d : D) (seat : Seat rules.State) → record {
        driver = tells d;
        fault = None;
        core = net.idle (engines.opened rules p.limits.page (tells d).state) (λ page. cleared rules p.limits.page);
      } ≡ seat → (seat.core.engine.place ≡ 0) × ((slot : ℕ) → seat.core.slots slot ≡ net.Idle)
      first_so p d seat is = (ap (λ (s : Seat rules.State). s.core.engine.place) (sym is), λ slot. ap (λ (s : Seat rules.State). s.core.slots slot) (sym is))
  first_seat (p ∷ parts) (d ∷ drivers) (suc n) seat e = first_seat parts drivers n seat e

  pub begins_its_way : (parts : List WorkerPart) (drivers : List D) (capacity : ℕ) → AreVerified parts → length drivers ≡ length parts → 1 ≤ capacity →
      IsOnItsWay (opened rules tells parts drivers capacity)
  begins_its_way parts drivers capacity verified count room = record {
    verified = verified;
    room = omega (arith, room);
    count = seats_long parts drivers count;
    reached = Starts (λ worker inside. first_stands parts drivers worker) (λ s t. refl);
    flights = λ n part seat part_is seat_is slot.
        let first = first_seat parts drivers n seat seat_is in
        ap flight_in (first.1 slot) ∙ ap (λ (d : ℕ). flights_before part.directives d slot) (sym first.0);
  }
