-- What a turn and a service leave of how far a worker is.
use Rattle.std.proofs.Common.{◌≡◌, ℕ, suc, Bool, true, false, cond, ◌&&◌, List, [], ◌∷◌, length, length-append, Option, Some, None, nat_eq, ◌⊎◌, inl, inr, refl, sym, ap, ap₂, ◌∙◌, subst, arith}
use Rattle.std.specs.Prelude.{slice_get}
use Rattle.std.proofs.lemmas.Bool.{eqb-true, eq-eqb}
use Rattle.mage_instr.specs.declared.directive.Directive.{Directive}
use Rattle.mage_instr.specs.declared.directive.Directive.TheVariants as entry
use Rattle.mage_instr.specs.declared.op.Op.{Op}
use Rattle.mage_instr.specs.declared.op.Op.TheVariants as op
use Rattle.mage_instr.specs.declared.replaced.Job.{Job}
use Rattle.mage_driver.specs.Rules.{Rules}
use Rattle.mage_driver.specs.Calls.{Call, Finish, call_of}
use Rattle.mage_network.specs.Network.{put, put_link, appended}
use Rattle.mage_network.specs.Workers.{Act, Moves, Stops}
use Rattle.mage_network.specs.Slots as net
use Rattle.mage_steps.specs.Frames.{cleared}
use Rattle.mage_steps.specs.Engines.{Engine, Acting, advanced, act_of_op, made_of, with_result, doing_at, finishes}
use Rattle.mage_steps.specs.Orderly.{Flight, flights_after}
use Rattle.mage_verify.specs.Parts.{WorkerPart}
use Rattle.mage_engine.specs.Ready.{wires_of, wires_of_op}
use Rattle.mage_progress.specs.Stands.{Stand, HasEnded, stand_after, with_held, AreSame, HandsOver, AtLinks}
use Rattle.mage_progress.proofs.Tracking.{FitsAt}
use Rattle.mage_world.specs.Seats.{Seat}
use Rattle.mage_world.specs.Turns.{Wires, Leaves, framed_as, Did}
use Rattle.mage_world.specs.Progress.{stand_of, held_in, flight_in}
use Rattle.mage_world.proofs.Acting.{act_here}

-- ---- one slot, one link

flight_put : (b : Bool) (word other : net.Slot (List ℕ)) → flight_in (cond b word other) ≡ cond b (flight_in word) (flight_in other)
flight_put true word other = refl
flight_put false word other = refl

long_link : (b : Bool) (wires others : List (List ℕ)) (count held : ℕ) → length wires ≡ count → length others ≡ held →
    length (cond b wires others) ≡ cond b count held
long_link true wires others count held e f = e
long_link false wires others count held e f = f

pub same_links : (before after : Wires) → after ≡ before → AreSame (held_in before) (held_in after)
same_links before after e s t = ap (λ (w : Wires). length (w s t)) e

put_held : (before after : Wires) (source target count : ℕ) (wires : List (List ℕ)) → length wires ≡ count →
    after ≡ put_link before source target wires → AreSame (with_held (held_in before) source target count) (held_in after)
put_held before after source target count wires long e s t =
    ap (λ (w : Wires). length (w s t)) e
    ∙ long_link (nat_eq source s && nat_eq target t) wires (before s t) count (length (before s t)) long refl

-- a worker with so many of its directives and wires done, by the test of the last wire
abbrev wire_more : (last : Bool) → Stand → Stand
wire_more last at = record { place = cond last (suc at.place) at.place; wire = cond last 0 (suc at.wire); finished = false }

module _ {W : Type 0} (rules : Rules W) (part : WorkerPart) (was is : Seat rules.State) (before after : Wires) where
  abbrev State : Type 0
  State = net.Paged (Engine rules.State) (List ℕ)

  abbrev old : State
  old = was.core

  abbrev Holds : State → Type 0
  Holds next = is.core ≡ framed_as is.core next

  abbrev LeftBy : net.Doing (Engine rules.State) (Call rules.State W) (List ℕ) (List ℕ) → Type 0
  LeftBy doing = Leaves part.worker (net.act_in net.asked doing old) Holds before after

  -- the flights of the slots, before and after
  abbrev pub flights : Seat rules.State → ℕ → Option Flight
  flights seat slot = flight_in (seat.core.slots slot)

  -- nothing is different in the slots, nor the directive
  pub record Rests : Type 0 where
    pub place : is.core.engine.place ≡ was.core.engine.place
    pub slots : (slot : ℕ) → flights is slot ≡ flights was slot

  -- a directive is done
  pub record Passes (x : Directive) : Type 0 where
    pub place : is.core.engine.place ≡ suc was.core.engine.place
    pub slots : (slot : ℕ) → flights is slot ≡ flights_after (flights was) x slot

  abbrev pub Passed : Option Directive → Type 0
  Passed (Some x) = Passes x
  Passed None = ⊥

  -- What is known after a turn at this directive.
  pub record Went (o : Option Directive) : Type 0 where
    pub runs : HasEnded o (stand_of was) → ⊥
    pub stand : stand_of is ≡ stand_after o (stand_of was)
    pub links : AtLinks o part.worker (held_in before) (held_in after)
    pub slots : Passed o ⊎ Rests

  -- ---- a directive alone

  -- the state that the core has after it
  record Done (next : State) : Type 0 where
    place : next.engine.place ≡ suc old.engine.place
    wire : next.engine.wire ≡ 0
    finished : next.engine.is_finished ≡ old.engine.is_finished

  stands_at : (next : State) → Holds next → stand_of is ≡ record { place = next.engine.place; wire = next.engine.wire; finished = next.engine.is_finished }
  stands_at next same = ap (λ (c : State). record { place = c.engine.place; wire = c.engine.wire; finished = c.engine.is_finished }) same

  slots_as : (next : State) → Holds next → is.core.slots ≡ next.slots
  slots_as next same = ap (λ (c : State). c.slots) same

  never_past : (x : Directive) → HasEnded (Some x) (stand_of was) → ⊥
  never_past x ended = let never : Some x ≡ None = ended.past in absurd cc

  alone : (x : Directive) → wires_of (Some x) ≡ 1 → FitsAt (Some x) (stand_of was) → (next : State) → Holds next → Done next →
      stand_of is ≡ stand_after (Some x) (stand_of was)
  alone x one fits next same done =
      stands_at next same
      ∙ ap₂ (λ (p w : ℕ). record { place = p; wire = w; finished = next.engine.is_finished }) done.place done.wire
      ∙ ap (λ (b : Bool). record { place = suc old.engine.place; wire = 0; finished = b }) (done.finished ∙ fits.0)
      ∙ ap (λ (b : Bool). wire_more b (stand_of was)) (sym last)
    where
      last : nat_eq (suc old.engine.wire) (wires_of (Some x)) ≡ true
      last = let less = fits.1 in eq-eqb _ _ (omega (arith, less, one))

  -- one that leaves the slots
  leaves_slots : (x : Directive) → ((f : ℕ → Option Flight) → flights_after f x ≡ f) → (next : State) → Holds next → Done next →
      next.slots ≡ old.slots → Passes x
  leaves_slots x none next same done slots = record {
    place = ap (λ (c : State). c.engine.place) same ∙ done.place;
    slots = λ slot. ap (λ (s : ℕ → net.Slot (List ℕ)). flight_in (s slot)) (slots_as next same ∙ slots)
        ∙ ap (λ (f : ℕ → Option Flight). f slot) (sym (none (flights was)));
  }

  -- one that changes one slot
  puts_slot : (x : Directive) (slot : ℕ) (word : net.Slot (List ℕ)) → ((f : ℕ → Option Flight) → flights_after f x ≡ put f slot (flight_in word)) →
      (next : State) → Holds next → Done next → next.slots ≡ put old.slots slot word → Passes x
  puts_slot x slot word one next same done slots = record {
    place = ap (λ (c : State). c.engine.place) same ∙ done.place;
    slots = λ i. ap (λ (s : ℕ → net.Slot (List ℕ)). flight_in (s i)) (slots_as next same ∙ slots)
        ∙ flight_put (nat_eq slot i) word (old.slots i)
        ∙ ap (λ (f : ℕ → Option Flight). f i) (sym (one (flights was)));
  }

  -- ---- slots

  asked_left : (word : net.Slot (List ℕ)) (left : State) → Leaves part.worker (net.asks_of {L = Call rules.State W} {W = List ℕ} word left) Holds before after →
      Holds left × (after ≡ before)
  asked_left net.Idle left h = h
  asked_left (net.Asked t) left h = absurd h
  asked_left (net.Busy t) left h = absurd h
  asked_left (net.Served t b) left h = absurd h

  read_left : (word : net.Slot (List ℕ)) (slot : ℕ) (then_is : List ℕ → Engine rules.State) →
      Leaves part.worker (net.finishes_read {L = Call rules.State W} {W = List ℕ} word slot then_is old) Holds before after →
      (bytes : List ℕ) × Holds (net.finished slot (then_is bytes) old) × (after ≡ before)
  read_left net.Idle slot then_is h = absurd h
  read_left (net.Asked t) slot then_is h = absurd h
  read_left (net.Busy t) slot then_is h = absurd h
  read_left (net.Served (net.Reads p) b) slot then_is h = (b, h.0, h.1)
  read_left (net.Served (net.Writes p b) c) slot then_is h = absurd h

  written_left : (word : net.Slot (List ℕ)) (slot : ℕ) (then_is : Engine rules.State) →
      Leaves part.worker (net.finishes_write {L = Call rules.State W} {W = List ℕ} word slot then_is old) Holds before after →
      Holds (net.finished slot then_is old) × (after ≡ before)
  written_left net.Idle slot then_is h = absurd h
  written_left (net.Asked t) slot then_is h = absurd h
  written_left (net.Busy t) slot then_is h = absurd h
  written_left (net.Served (net.Reads p) b) slot then_is h = absurd h
  written_left (net.Served (net.Writes p b) c) slot then_is h = h

  -- ---- instructions

  computed : (job : Job) (one : wires_of (Some (entry.Do job)) ≡ 1) → FitsAt (Some (entry.Do job)) (stand_of was) →
      AtLinks (Some (entry.Do job)) part.worker (held_in before) (held_in after) →
      (next : State) → Holds next → Done next → next.slots ≡ old.slots → Went (Some (entry.Do job))
  computed job one fits links next same done slots = record {
    runs = never_past (entry.Do job);
    stand = alone (entry.Do job) one fits next same done;
    links = links;
    slots = inl (leaves_slots (entry.Do job) (λ f. refl) next same done slots);
  }

  -- a wire was handed over, by the test of the last one
  module _ (job : Job) (many : wires_of (Some (entry.Do job)) ≡ job.width) (fits : FitsAt (Some (entry.Do job)) (stand_of was))
      (links : AtLinks (Some (entry.Do job)) part.worker (held_in before) (held_in after)) (bank : ℕ → List ℕ) where
    abbrev after_wire : Bool → State
    after_wire b = record old { engine = cond b (advanced (record old.engine { bank = bank })) (record old.engine { bank = bank; wire = suc old.engine.wire }) }

    stands_so : (b : Bool) → Holds (after_wire b) → stand_of is ≡ wire_more b (stand_of was)
    stands_so true same = stands_at (after_wire true) same ∙ ap (λ (b : Bool). record { place = suc old.engine.place; wire = 0; finished = b }) fits.0
    stands_so false same = stands_at (after_wire false) same ∙ ap (λ (b : Bool). record { place = old.engine.place; wire = suc old.engine.wire; finished = b }) fits.0

    slots_so : (b : Bool) → Holds (after_wire b) → Passes (entry.Do job) ⊎ Rests
    slots_so true same = inl (record {
      place = ap (λ (c : State). c.engine.place) same;
      slots = λ slot. ap (λ (c : State). flight_in (c.slots slot)) same;
    })
    slots_so false same = inr (record {
      place = ap (λ (c : State). c.engine.place) same;
      slots = λ slot. ap (λ (c : State). flight_in (c.slots slot)) same;
    })

    handed : Holds (after_wire (nat_eq (suc old.engine.wire) job.width)) → Went (Some (entry.Do job))
    handed same = record {
      runs = never_past (entry.Do job);
      stand = stands_so (nat_eq (suc old.engine.wire) job.width) same
          ∙ ap (λ (n : ℕ). wire_more (nat_eq (suc old.engine.wire) n) (stand_of was)) (sym many);
      links = links;
      slots = slots_so (nat_eq (suc old.engine.wire) job.width) same;
    }

  -- the state after a circuit
  abbrev computed_state : Job → State
  computed_state job = record old {
    engine = record (advanced old.engine) {
      driver = (made_of rules job old.engine).state;
      bank = with_result rules job old.engine.bank (made_of rules job old.engine).wires;
    };
  }

  instructed : (job : Job) (o : Op) → job.op ≡ o → FitsAt (Some (entry.Do job)) (stand_of was) →
      LeftBy (net.Acts (act_of_op rules o job old.engine)) → Went (Some (entry.Do job))
  instructed job op.Send e fits h =
      handed job (ap (λ (o : Op). wires_of_op o job.width) e) fits
      (subst (λ (o : Op). HandsOver o job.imm part.worker (held_in before) (held_in after)) (sym e)
      (put_held before after part.worker job.imm (suc (length (before part.worker job.imm))) _ (longer (before part.worker job.imm) _) h.1))
      old.engine.bank h.0
    where
      longer : (wires : List (List ℕ)) (wire : List ℕ) → length (appended wires wire) ≡ suc (length wires)
      longer wires wire = let both = length-append wires (wire ∷ []) in omega (arith, both)
  instructed job op.Recv e fits h =
      handed job (ap (λ (o : Op). wires_of_op o job.width) e) fits
      (subst (λ (o : Op). HandsOver o job.imm part.worker (held_in before) (held_in after)) (sym e) (
        length h.1,
        ap (λ (l : List (List ℕ)). length l) h.2,
        put_held before after job.imm part.worker (length h.1) h.1 refl h.4,
      ))
      _ h.3
  instructed job _ e fits h =
      computed job (ap (λ (o : Op). wires_of_op o job.width) e) fits
      (subst (λ (o : Op). HandsOver o job.imm part.worker (held_in before) (held_in after)) (sym e) (same_links before after h.1))
      (computed_state job) h.0 (record { place = refl; wire = refl; finished = refl }) refl

  -- ---- past the last directive

  ended : (b : Bool) → old.engine.is_finished ≡ b →
      LeftBy (net.Acts (cond {A = Acting rules} b Stops (Moves (call_of rules old.engine.driver Finish ∷ []) (finishes rules old.engine)))) → Went None
  ended true e h = absurd h
  ended false e h = record {
    runs = λ past. let never : true ≡ false = sym past.finished ∙ e in absurd cc;
    stand = stands_at (record old { engine = finishes rules old.engine }) h.0;
    links = same_links before after h.1;
    slots = inr (record { place = ap (λ (c : State). c.engine.place) h.0; slots = λ slot. ap (λ (c : State). flight_in (c.slots slot)) h.0 });
  }

  -- ---- each directive

  abbrev fresh_state : (frame : ℕ) → State
  fresh_state frame = record old { engine = record (advanced old.engine) { bank = put old.engine.bank frame (cleared rules part.limits.page) } }

  -- a directive that has one wire, and changes one slot
  slotted : (x : Directive) (slot : ℕ) (word : net.Slot (List ℕ)) → wires_of (Some x) ≡ 1 → AtLinks (Some x) part.worker (held_in before) (held_in after) →
      ((f : ℕ → Option Flight) → flights_after f x ≡ put f slot (flight_in word)) → FitsAt (Some x) (stand_of was) →
      (next : State) → Holds next → Done next → next.slots ≡ put old.slots slot word → Went (Some x)
  slotted x slot word one links flies fits next same done slots = record {
    runs = never_past x;
    stand = alone x one fits next same done;
    links = links;
    slots = inl (puts_slot x slot word flies next same done slots);
  }

  at_directive : (o : Option Directive) → FitsAt o (stand_of was) → LeftBy (doing_at rules part.limits.page o old.engine) → Went o
  at_directive None fits h = ended old.engine.is_finished refl h
  at_directive (Some (entry.Fresh frame page)) fits h =
      let next = fresh_state frame in
      let done : Done next = record { place = refl; wire = refl; finished = refl } in record {
        runs = never_past (entry.Fresh frame page);
        stand = alone (entry.Fresh frame page) refl fits next h.0 done;
        links = same_links before after h.1;
        slots = inl (leaves_slots (entry.Fresh frame page) (λ f. refl) next h.0 done refl);
      }
  at_directive (Some (entry.IssueIn slot page)) fits h =
      let next = net.asked slot (net.Reads page) (advanced old.engine) old in
      let left = asked_left (old.slots slot) next h in
      slotted (entry.IssueIn slot page) slot (net.Asked (net.Reads page)) refl (same_links before after left.1) (λ f. refl) fits next left.0
      (record { place = refl; wire = refl; finished = refl }) refl
  at_directive (Some (entry.IssueOut slot frame page)) fits h =
      let next = net.asked slot (net.Writes page (old.engine.bank frame)) (advanced old.engine) old in
      let left = asked_left (old.slots slot) next h in
      slotted (entry.IssueOut slot frame page) slot (net.Asked (net.Writes page (old.engine.bank frame))) refl (same_links before after left.1) (λ f. refl) fits
      next left.0 (record { place = refl; wire = refl; finished = refl }) refl
  at_directive (Some (entry.FinishIn slot frame)) fits h =
      let left = read_left (old.slots slot) slot (λ bytes. record (advanced old.engine) { bank = put old.engine.bank frame bytes }) h in
      slotted (entry.FinishIn slot frame) slot net.Idle refl (same_links before after left.2) (λ f. refl) fits
      (net.finished slot (record (advanced old.engine) { bank = put old.engine.bank frame left.0 }) old) left.1
      (record { place = refl; wire = refl; finished = refl }) refl
  at_directive (Some (entry.FinishOut slot)) fits h =
      let left = written_left (old.slots slot) slot (advanced old.engine) h in
      slotted (entry.FinishOut slot) slot net.Idle refl (same_links before after left.1) (λ f. refl) fits (net.finished slot (advanced old.engine) old) left.0
      (record { place = refl; wire = refl; finished = refl }) refl
  at_directive (Some (entry.Do job)) fits h = instructed job job.op refl fits h

  pub went : (capacity : ℕ) (o : Option Directive) → slice_get part.directives was.core.engine.place ≡ o → FitsAt o (stand_of was) →
      Did rules part capacity was is before after → Went o
  went capacity o here fits did =
      at_directive o fits (subst (λ (a : Option (Act State (Call rules.State W) (List ℕ))). Leaves part.worker a Holds before after)
      (act_here rules part capacity was o here) did.rest)

-- ---- services

module _ {S : Type 0} (core after : net.Paged (Engine S) (List ℕ)) where
  pub record Serviced : Type 0 where
    pub engine : after.engine ≡ core.engine
    pub slots : (slot : ℕ) → flight_in (after.slots slot) ≡ flight_in (core.slots slot)

  -- one slot has another word for the same flight
  reworded : (slot : ℕ) (word now : net.Slot (List ℕ)) → core.slots slot ≡ word → flight_in now ≡ flight_in word →
      after.slots ≡ put core.slots slot now → (i : ℕ) → flight_in (after.slots i) ≡ flight_in (core.slots i)
  reworded slot word now was same are i = ap (λ (s : ℕ → net.Slot (List ℕ)). flight_in (s i)) are ∙ go (nat_eq slot i) refl
    where
      go : (b : Bool) → nat_eq slot i ≡ b → flight_in (cond b now (core.slots i)) ≡ flight_in (core.slots i)
      go true e = same ∙ ap flight_in (sym was) ∙ ap (λ (k : ℕ). flight_in (core.slots k)) (eqb-true slot i e)
      go false e = refl

  some_is : (x : net.Paged (Engine S) (List ℕ)) → Some x ≡ Some after → after ≡ x
  some_is x e = cc

  claimed : (slot : ℕ) (word : net.Slot (List ℕ)) → core.slots slot ≡ word → net.claims slot word core ≡ Some after → Serviced
  claimed slot net.Idle was e = absurd cc
  claimed slot (net.Asked t) was e =
      let is = some_is _ e in record {
        engine = ap (λ (c : net.Paged (Engine S) (List ℕ)). c.engine) is;
        slots = reworded slot (net.Asked t) (net.Busy t) was refl (ap (λ (c : net.Paged (Engine S) (List ℕ)). c.slots) is);
      }
  claimed slot (net.Busy t) was e = absurd cc
  claimed slot (net.Served t b) was e = absurd cc

  served : (slot : ℕ) (word : net.Slot (List ℕ)) → core.slots slot ≡ word → net.serves slot word core ≡ Some after → Serviced
  served slot net.Idle was e = absurd cc
  served slot (net.Asked t) was e = absurd cc
  served slot (net.Busy t) was e =
      let is = some_is _ e in record {
        engine = ap (λ (c : net.Paged (Engine S) (List ℕ)). c.engine) is;
        slots = reworded slot (net.Busy t) (net.Served t (net.bytes_of t core.pages)) was refl (ap (λ (c : net.Paged (Engine S) (List ℕ)). c.slots) is);
      }
  served slot (net.Served t b) was e = absurd cc

  pub serviced : (one : net.Service) → net.becomes one core ≡ Some after → Serviced
  serviced (net.Claims slot) e = claimed slot (core.slots slot) refl e
  serviced (net.Serves slot) e = served slot (core.slots slot) refl e
