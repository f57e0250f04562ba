-- Where no event is enabled, and no driver has failed, each worker is through.
use Rattle.std.proofs.Common.{◌≡◌, ◌≤◌, ◌<◌, ℕ, zero, suc, Bool, true, false, not, List, [], ◌∷◌, length, take, Option, Some, None, nat_lt, ◌⊎◌, inl, inr, refl, sym, ap, ◌∙◌, subst, arith}
use Rattle.std.specs.Prelude.{slice_get}
use Rattle.std.proofs.lemmas.Bool.{cases_lt, lt-ltb}
use Rattle.mage_instr.specs.declared.directive.Directive.{Directive}
use Rattle.mage_instr.specs.declared.directive.Directive.TheVariants as entry
use Rattle.mage_instr.specs.declared.fault.DriverFault.{DriverFault}
use Rattle.mage_instr.specs.declared.op.Op.{Op}
use Rattle.mage_instr.specs.declared.op.Op.TheVariants as op
use Rattle.mage_instr.specs.declared.replaced.Job.{Job}
use Rattle.mage_driver.specs.Rules.{Rules}
use Rattle.mage_network.specs.Slots as net
use Rattle.mage_steps.specs.Orderly.{Flight, Reading, Writing, Fits, IsOrderly, flights_after_all, flights_before}
use Rattle.mage_verify.specs.Parts.{WorkerPart}
use Rattle.mage_verified_runs.proofs.Order.{found_in}
use Rattle.mage_verified_runs.proofs.Orderliness.{verified_is_orderly}
use Rattle.mage_progress.specs.Stands.{Stand, next_in, HasEnded, WaitsAt, Waits, StandsStill}
use Rattle.mage_progress.proofs.Stuck.{program_of, reached_ends}
use Rattle.mage_progress.proofs.MachineLemmas.{worker_is}
use Rattle.mage_world.specs.declared.event.Kind.{Kind}
use Rattle.mage_world.specs.declared.event.Kind.TheVariants as kind
use Rattle.mage_world.specs.Slots.{is_idle, has_read, has_written, is_asked, is_busy}
use Rattle.mage_world.specs.Seats.{Seat}
use Rattle.mage_world.specs.Turns.{kind_of_op, kind_at}
use Rattle.mage_world.specs.Worlds.{Seen, What, IsTurn, IsService, CanBe, CanHappenAt}
use Rattle.mage_world.specs.Ready.{can_do, can_go}
use Rattle.mage_world.specs.Progress.{stand_of, stand_in, stands_of, held_in, flight_in, IsInFlight, IsOnItsWay, IsThrough, IsFinal, HasFailed}
use Rattle.mage_world.proofs.Readying.{turn_now, can_claim, can_serve}
use Rattle.mage_world.proofs.Arriving.{directives_are}

-- an item that is there
there_is : {X : Type 0} (xs : List X) (n : ℕ) → n < length xs → (x : X) × (slice_get xs n ≡ Some x)
there_is [] n inside = absurd (omega arith)
there_is (y ∷ xs) zero inside = (y, refl)
there_is (y ∷ xs) (suc n) inside = there_is xs n (omega arith)

nothing_in : {X : Type 0} (xs : List X) (n : ℕ) → slice_get xs n ≡ None → take n xs ≡ take (length xs) xs
nothing_in [] zero e = refl
nothing_in [] (suc n) e = refl
nothing_in (y ∷ xs) zero e = absurd cc
nothing_in (y ∷ xs) (suc n) e = ap (λ ys. y ∷ ys) (nothing_in xs n e)

no_flight : (word : net.Slot (List ℕ)) → flight_in word ≡ None → word ≡ net.Idle
no_flight net.Idle e = refl
no_flight (net.Asked t) e = absurd cc
no_flight (net.Busy t) e = absurd cc
no_flight (net.Served t b) e = absurd cc

module _ {W : Type 0} (rules : Rules W) (world : Seen rules.State) (way : IsOnItsWay world) (none : (n : ℕ) (what : What) → CanHappenAt rules world n what → ⊥) where
  -- ---- one worker

  module _ (n : ℕ) (part : WorkerPart) (seat : Seat rules.State) (part_is : slice_get world.parts n ≡ Some part) (seat_is : slice_get world.seats n ≡ Some seat)
      (sound : seat.fault ≡ None) where
    abbrev place : ℕ
    place = seat.core.engine.place

    abbrev Go : Option Directive → Bool
    Go o = can_go o seat.core.engine.is_finished seat.core.slots world.capacity part.worker world.wires

    -- nothing can be done by it
    cannot : (what : What) → CanBe rules what world.capacity part seat world.wires → ⊥
    cannot what can = none n what (part, seat, part_is, seat_is, can)

    -- so its turn can't, where it has one
    stuck : (o : Option Directive) → slice_get part.directives place ≡ o → (kind : Kind) → Some kind ≡ kind_at o seat.core.engine.is_finished → Go o ≡ true → ⊥
    stuck o here kind is can = cannot (IsTurn kind) (turn_now rules part world.capacity world.wires seat o here sound can (Some kind) is)

    ordered : IsOrderly part.directives
    ordered =
        let p = program_of world.parts way.verified in
        subst IsOrderly (sym (p.are n) ∙ directives_are world.parts n part part_is)
        (verified_is_orderly way.verified.whole.0 p.none n)

    meets : (x : Directive) → slice_get part.directives place ≡ Some x → Fits (flights_before part.directives place) x
    meets x here = found_in (Fits (flights_before part.directives place)) _ x here (ordered.each place)

    flying : IsInFlight part seat
    flying = way.flights n part seat part_is seat_is

    -- an issue finds its slot idle
    asks : (slot : ℕ) → flights_before part.directives place slot ≡ None → is_idle (seat.core.slots slot) ≡ true
    asks slot idle = ap is_idle (no_flight (seat.core.slots slot) (flying slot ∙ idle))

    -- a slot in flight is asked, busy or served
    moving : (word : net.Slot (List ℕ)) (flight : Flight) (done : Bool) → flight_in word ≡ Some flight →
        ((transfer : net.Transfer (List ℕ)) (bytes : List ℕ) → word ≡ net.Served transfer bytes → done ≡ true) →
        (is_asked word ≡ true) ⊎ (is_busy word ≡ true) ⊎ (done ≡ true)
    moving net.Idle flight done e served = absurd cc
    moving (net.Asked t) flight done e served = inl refl
    moving (net.Busy t) flight done e served = inr (inl refl)
    moving (net.Served t b) flight done e served = inr (inr (served t b refl))

    read_done : (transfer : net.Transfer (List ℕ)) (word : net.Slot (List ℕ)) (bytes : List ℕ) (page : ℕ) → flight_in word ≡ Some (Reading page) →
        word ≡ net.Served transfer bytes → has_read word ≡ true
    read_done (net.Reads p) word bytes page e is = ap has_read is
    read_done (net.Writes p b) word bytes page e is =
        let never : Some (Writing p) ≡ Some (Reading page) = sym (ap flight_in is) ∙ e in absurd cc

    write_done : (transfer : net.Transfer (List ℕ)) (word : net.Slot (List ℕ)) (bytes : List ℕ) (page : ℕ) → flight_in word ≡ Some (Writing page) →
        word ≡ net.Served transfer bytes → has_written word ≡ true
    write_done (net.Writes p b) word bytes page e is = ap has_written is
    write_done (net.Reads p) word bytes page e is =
        let never : Some (Reading p) ≡ Some (Writing page) = sym (ap flight_in is) ∙ e in absurd cc

    finishes : (slot : ℕ) (done : Bool) (x : Directive) (here : slice_get part.directives place ≡ Some x) (kind : Kind) → Some kind ≡ kind_at (Some x) seat.core.engine.is_finished →
        Go (Some x) ≡ done → (is_asked (seat.core.slots slot) ≡ true) ⊎ (is_busy (seat.core.slots slot) ≡ true) ⊎ (done ≡ true) → ⊥
    finishes slot done x here kind is goes (inl asked) = cannot (IsService (net.Claims slot)) (can_claim rules part world.capacity world.wires seat slot asked)
    finishes slot done x here kind is goes (inr (inl busy)) = cannot (IsService (net.Serves slot)) (can_serve rules part world.capacity world.wires seat slot busy)
    finishes slot done x here kind is goes (inr (inr yes_done)) = stuck (Some x) here kind is (goes ∙ yes_done)

    abbrev Stopped : Option Directive → Type 0
    Stopped o = HasEnded o (stand_of seat) ⊎ Waits o world.capacity n (held_in world.wires)

    number : part.worker ≡ n
    number = worker_is world.parts n part way.verified part_is

    full : (held : ℕ) → (nat_lt held world.capacity ≡ true → ⊥) → world.capacity ≤ held
    full held never = elim (cases_lt held world.capacity) [
      | inl less ↦ absurd (never (lt-ltb held world.capacity less))
      | inr most ↦ most
    ]

    empty : (held : ℕ) → (nat_lt 0 held ≡ true → ⊥) → held ≡ 0
    empty zero never = refl
    empty (suc held) never = absurd (never (lt-ltb 0 (suc held) (omega arith)))

    -- an instruction waits at a link
    instructs : (job : Job) (o : Op) → job.op ≡ o → slice_get part.directives place ≡ Some (entry.Do job) → WaitsAt o job.imm world.capacity n (held_in world.wires)
    instructs job op.Send e here =
        full (length (world.wires n job.imm)) (λ can. stuck (Some (entry.Do job)) here kind.Push (ap (λ (o : Op). Some (kind_of_op o)) (sym e))
        (ap (λ (o : Op). can_do o job.imm world.capacity part.worker world.wires) e
        ∙ ap (λ (k : ℕ). nat_lt (length (world.wires k job.imm)) world.capacity) number ∙ can))
    instructs job op.Recv e here =
        empty (length (world.wires job.imm n)) (λ can. stuck (Some (entry.Do job)) here kind.Pop (ap (λ (o : Op). Some (kind_of_op o)) (sym e))
        (ap (λ (o : Op). can_do o job.imm world.capacity part.worker world.wires) e
        ∙ ap (λ (k : ℕ). nat_lt 0 (length (world.wires job.imm k))) number ∙ can))
    instructs job _ e here =
        stuck (Some (entry.Do job)) here kind.Do (ap (λ (o : Op). Some (kind_of_op o)) (sym e))
        (ap (λ (o : Op). can_do o job.imm world.capacity part.worker world.wires) e)

    ends_here : (b : Bool) → seat.core.engine.is_finished ≡ b → slice_get part.directives place ≡ None → Stopped None
    ends_here true e here = inl (record { past = refl; finished = e })
    ends_here false e here = absurd (stuck None here kind.Do (ap (λ (b : Bool). kind_at None b) (sym e)) (ap not e))

    -- where it stands, it has ended or waits at a link
    stopped : (o : Option Directive) → slice_get part.directives place ≡ o → Stopped o
    stopped None here = ends_here seat.core.engine.is_finished refl here
    stopped (Some (entry.Fresh frame page)) here = absurd (stuck (Some (entry.Fresh frame page)) here kind.Do refl refl)
    stopped (Some (entry.IssueIn slot page)) here =
        absurd (stuck (Some (entry.IssueIn slot page)) here kind.Ask refl (asks slot (meets (entry.IssueIn slot page) here).0))
    stopped (Some (entry.IssueOut slot frame page)) here =
        absurd (stuck (Some (entry.IssueOut slot frame page)) here kind.Ask refl (asks slot (meets (entry.IssueOut slot frame page) here).0))
    stopped (Some (entry.FinishIn slot frame)) here =
        let found = meets (entry.FinishIn slot frame) here in
        let word = seat.core.slots slot in
        absurd (finishes slot (has_read word) (entry.FinishIn slot frame) here kind.Finish refl refl
        (moving word (Reading found.0) (has_read word) (flying slot ∙ found.1) (λ t b is. read_done t word b found.0 (flying slot ∙ found.1) is)))
    stopped (Some (entry.FinishOut slot)) here =
        let found = meets (entry.FinishOut slot) here in
        let word = seat.core.slots slot in
        absurd (finishes slot (has_written word) (entry.FinishOut slot) here kind.Finish refl refl
        (moving word (Writing found.0) (has_written word) (flying slot ∙ found.1) (λ t b is. write_done t word b found.0 (flying slot ∙ found.1) is)))
    stopped (Some (entry.Do job)) here = inr (instructs job job.op refl here)

    stand_here : stands_of world.seats n ≡ stand_of seat
    stand_here = ap (λ (o : Option (Seat rules.State)). stand_in o) seat_is

    next_here : next_in world.parts (stands_of world.seats) n ≡ slice_get part.directives place
    next_here =
        ap (λ (ds : List Directive). slice_get ds (stands_of world.seats n).place) (directives_are world.parts n part part_is)
        ∙ ap (λ (s : Stand). slice_get part.directives s.place) stand_here

    still : StandsStill world.parts (stands_of world.seats) world.capacity n (held_in world.wires)
    still =
        subst (λ (o : Option Directive). HasEnded o (stands_of world.seats n) ⊎ Waits o world.capacity n (held_in world.wires)) (sym next_here)
        (subst (λ (s : Stand). HasEnded (slice_get part.directives place) s ⊎ Waits (slice_get part.directives place) world.capacity n (held_in world.wires)) (sym stand_here)
        (stopped (slice_get part.directives place) refl))

    -- one that has ended is through
    through : HasEnded (next_in world.parts (stands_of world.seats) n) (stands_of world.seats n) → IsThrough part seat
    through ended =
        let past = sym next_here ∙ ended.past in record {
          past = past;
          finished = sym (ap (λ (s : Stand). s.finished) stand_here) ∙ ended.finished;
          idle = λ slot. no_flight (seat.core.slots slot) (flying slot
              ∙ ap (λ (ds : List Directive). flights_after_all (λ slot. None) ds slot) (nothing_in part.directives place past) ∙ ordered.idle slot);
        }

  -- ---- all of them

  abbrev Found : List (Seat rules.State) → Type 0
  Found seats = (n : ℕ) × (seat : Seat rules.State) × (fault : DriverFault) × (slice_get seats n ≡ Some seat) × (seat.fault ≡ Some fault)

  abbrev AllSound : List (Seat rules.State) → Type 0
  AllSound seats = (n : ℕ) (seat : Seat rules.State) → slice_get seats n ≡ Some seat → seat.fault ≡ None

  all_sound : (first : Seat rules.State) (seats : List (Seat rules.State)) → first.fault ≡ None → AllSound seats → AllSound (first ∷ seats)
  all_sound first seats sound all zero seat e =
      let same : Some first ≡ Some seat = e in
      let one : first ≡ seat = cc in ap (λ (s : Seat rules.State). s.fault) (sym one) ∙ sound
  all_sound first seats sound all (suc n) seat e = all n seat e

  failed_or_sound : (seats : List (Seat rules.State)) → Found seats ⊎ AllSound seats
  failed_or_sound [] = inr (λ n seat e. absurd cc)
  failed_or_sound (first ∷ seats) = go first.fault refl (failed_or_sound seats)
    where
      go : (f : Option DriverFault) → first.fault ≡ f → Found seats ⊎ AllSound seats → Found (first ∷ seats) ⊎ AllSound (first ∷ seats)
      go (Some fault) e rest = inl (0, first, fault, refl, e)
      go None e (inl found) = inl (suc found.0, found.1, found.2, found.3, found.4)
      go None e (inr all) = inr (all_sound first seats e all)

  final : AllSound world.seats → IsFinal world
  final sound n inside =
      let part = there_is world.parts n inside in
      let seat = seat_at n inside in (
        part.0,
        seat.0,
        part.1,
        seat.1,
        through n part.0 seat.0 part.1 seat.1 (sound n seat.0 seat.1)
            (reached_ends world.parts world.capacity (stands_of world.seats) (held_in world.wires) way.verified way.room way.reached each_still n inside),
      )
    where
      seat_at : (m : ℕ) → m < length world.parts → (seat : Seat rules.State) × (slice_get world.seats m ≡ Some seat)
      seat_at m within = let count = way.count in there_is world.seats m (omega (arith, within, count))

      each_still : (m : ℕ) → m < length world.parts → StandsStill world.parts (stands_of world.seats) world.capacity m (held_in world.wires)
      each_still m within =
          let part = there_is world.parts m within in
          let seat = seat_at m within in
          still m part.0 seat.0 part.1 seat.1 (sound m seat.0 seat.1)

  pub rests_at_the_end : HasFailed world ⊎ IsFinal world
  rests_at_the_end = elim (failed_or_sound world.seats) [
    | inl found ↦ inl found
    | inr sound ↦ inr (final sound)
  ]
