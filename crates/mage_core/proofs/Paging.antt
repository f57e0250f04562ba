-- A step of a machine takes its worker over pages further.
use Rattle.std.proofs.Common.{◌≡◌, ◌<◌, ◌++◌, ℕ, zero, suc, true, false, cond, List, [], ◌∷◌, length, get_or, Option, None, Some, refl, sym, ap, ◌∙◌, subst, arith}
use Rattle.std.specs.Prelude.{IsTrue}
use Rattle.std.proofs.lemmas.Bool.{eq-eqb}
use Rattle.std.specs.Option.{option_map}
use Rattle.mage_base.specs.Store.{Transfer, Wrote, Answered, with_page}
use Rattle.mage_instr.specs.declared.directive.Directive.{Directive}
use Rattle.mage_instr.specs.declared.directive.Directive.TheVariants as entry
use Rattle.mage_network.specs.Network.{put}
use Rattle.mage_network.specs.Workers.{Act, Moves, Sends, Takes, Stops}
use Rattle.mage_network.specs.Pasts.{IsAlong}
use Rattle.mage_network.specs.Slots as net
use Rattle.mage_network.specs.Slots.{Paged, Acts, Asks, Finishes_read, Finishes_write, or_stops, act_in, asks_of, finishes_read, finishes_write, served_at_once, finished}
use Rattle.mage_network.specs.Reading.{Flying, asks_flying, reads_flying, writes_flying, hears_in}
use Rattle.mage_network.proofs.Steps.{along_moved, along_sends, along_takes}
use Rattle.mage_driver.specs.Rules.{Rules}
use Rattle.mage_driver.specs.declared.standing.Standing.TheVariants as standing
use Rattle.mage_driver.specs.Calls.{Call, NoneIsDue, Told}
use Rattle.mage_link.specs.Links as links
use Rattle.mage_link.specs.Links.{LinkTold}
use Rattle.mage_port.specs.Port.{PortTold, SlotState, Transfers, CanAsk, Idle, AskedRead, AskedWrite, HasFailed, IsDamaged, is_idle, slot_state, has_page, has_transfers, last_written, IsUnused, with_state, with_transfer, Brings, Saves}
use Rattle.mage_steps.specs.Frames.{cleared}
use Rattle.mage_steps.specs.Engines as engines
use Rattle.mage_steps.specs.Engines.{Engine, Next, doing, doing_at, advanced, act_of_op, ends}
use Rattle.mage_verify.specs.Parts.{WorkerPart}
use Rattle.mage_engine.specs.declared.turn.Kind.{Kind}
use Rattle.mage_engine.specs.Seen.{Seen, directive_at, is_finished, engine_with, worker_with, flight_of, flights_in, HoldSame}
use Rattle.mage_engine.specs.Ready.{opened}
use Rattle.mage_engine.specs.Steps as steps
use Rattle.mage_engine.specs.Steps.{IsMove, AtPort, Happens, next_with, calls_of}
use Rattle.mage_engine.proofs.Along.{sent_more, received_more}
use Rattle.mage_engine.proofs.Calling.{calls_same}
use Rattle.mage_core.specs.Paging.{AreRightAfter, AllRight, KeepsPages, HasPages, GoesOverPages, paged_act, first_paged, slot_of}
use Rattle.mage_core.proofs.Keeping.{states_set, ask_read_keeps, ask_write_keeps, read_keeps, write_keeps, ask_read_has, ask_write_has, read_has, write_has, were_right, was_right}

-- a slot that isn't idle is one of the slots
within_of : (states : List SlotState) (slot : ℕ) → is_idle (get_or states slot Idle) ≡ false → slot < length states
within_of [] zero e = absurd cc
within_of [] (suc slot) e = absurd cc
within_of (s ∷ states) zero e = omega arith
within_of (s ∷ states) (suc slot) e = let rest = within_of states slot e in omega (arith, rest)

put_here : {X : Type 0} (each : ℕ → X) (place : ℕ) (x : X) → put each place x place ≡ x
put_here each place x = ap (λ b. cond b x (each place)) (eq-eqb place place refl)

same_writes : (page : ℕ) (bytes others : List ℕ) → Some (net.Writes page bytes) ≡ Some (net.Writes page others) → bytes ≡ others
same_writes page bytes others e = cc

-- ---- ports

-- what a port keeps
abbrev pub Keeps : PortTold → Type 0
Keeps port = KeepsPages port.pages (slot_state port) port.finished

-- a port keeps it over a step that leaves it all right only where it was
pub record KeepsPaging (before after : PortTold) : Type 0 where
  pub keeps : Keeps before → Keeps after
  pub right : AllRight after.finished → AllRight before.finished

port_same : (before after : PortTold) → after ≡ before → KeepsPaging before after
port_same before after e = record {
  keeps = subst Keeps (sym e);
  right = subst (λ (p : PortTold). AllRight p.finished) e;
}

module _ (before after : PortTold) (slot : ℕ) where
  asked_keeps : (state : SlotState) → slot < length before.slots → after ≡ with_state before slot state →
      (Keeps before → KeepsPages before.pages (put (slot_state before) slot state) before.finished) → KeepsPaging before after
  asked_keeps state within e keeps = record {
    keeps = λ k. subst Keeps (sym e) (subst (λ (f : ℕ → SlotState). KeepsPages before.pages f before.finished) (sym (states_set before.slots slot state within)) (keeps k));
    right = subst (λ (p : PortTold). AllRight p.finished) e;
  }

  brings_keeps : (bytes : List ℕ) (state : SlotState) → slot_state before slot ≡ state → Brings before after slot bytes state → KeepsPaging before after
  brings_keeps bytes Idle is h = absurd h
  brings_keeps bytes (AskedRead page) is h = record {
    keeps = λ k. subst Keeps (sym h.1)
        (subst (λ (f : ℕ → SlotState). KeepsPages before.pages f (with_transfer before.finished page (Answered page bytes)))
        (sym (states_set before.slots slot Idle (within_of before.slots slot (ap is_idle is))))
        (read_keeps before.pages (slot_state before) before.finished k slot page bytes is h.0));
    right = λ r. were_right before.finished page (Answered page bytes) (subst (λ (p : PortTold). AllRight p.finished) h.1 r);
  }
  brings_keeps bytes (AskedWrite page sent) is h = absurd h
  brings_keeps bytes (HasFailed page) is h = absurd h
  brings_keeps bytes (IsDamaged damage) is h = absurd h

  saves_keeps : (state : SlotState) → slot_state before slot ≡ state → Saves before after slot state → KeepsPaging before after
  saves_keeps Idle is h = absurd h
  saves_keeps (AskedRead page) is h = absurd h
  saves_keeps (AskedWrite page bytes) is h = record {
    keeps = λ k. subst Keeps (sym h)
        (subst (λ (f : ℕ → SlotState). KeepsPages (option_map (λ told. with_page told page bytes) before.pages) f (with_transfer before.finished page (Wrote page bytes)))
        (sym (states_set before.slots slot Idle (within_of before.slots slot (ap is_idle is))))
        (write_keeps before.pages (slot_state before) before.finished k slot page bytes));
    right = λ r. were_right before.finished page (Wrote page bytes) (subst (λ (p : PortTold). AllRight p.finished) h r);
  }
  saves_keeps (HasFailed page) is h = absurd h
  saves_keeps (IsDamaged damage) is h = absurd h

pub keeps_paging : (o : Option Directive) (bank filled : ℕ → List ℕ) (before after : PortTold) → AtPort o bank filled before after → steps.Asks o before → KeepsPaging before after
keeps_paging None bank filled before after h asks = port_same before after h
keeps_paging (Some (entry.Fresh frame page)) bank filled before after h asks = port_same before after h
keeps_paging (Some (entry.IssueIn slot page)) bank filled before after h asks =
    asked_keeps before after slot (AskedRead page) asks.can_ask.within h
    (λ k. ask_read_keeps before.pages (slot_state before) before.finished k slot page asks.can_ask.free asks.held)
keeps_paging (Some (entry.FinishIn slot frame)) bank filled before after h asks = brings_keeps before after slot (filled frame) (slot_state before slot) refl h
keeps_paging (Some (entry.IssueOut slot frame page)) bank filled before after h asks =
    asked_keeps before after slot (AskedWrite page (bank frame)) asks.within h
    (λ k. ask_write_keeps before.pages (slot_state before) before.finished k slot page asks.free (bank frame))
keeps_paging (Some (entry.FinishOut slot)) bank filled before after h asks = saves_keeps before after slot (slot_state before slot) refl h
keeps_paging (Some (entry.Do job)) bank filled before after h asks = port_same before after h

-- ---- the worker

none_more : {W : Type 0} (rules : Rules W) (xs ys : List (Call rules.State W)) → NoneIsDue rules xs → NoneIsDue rules ys → NoneIsDue rules (xs ++ ys)
none_more rules [] ys h k = k
none_more rules (x ∷ xs) ys h k = (h.0, none_more rules xs ys h.1 k)

module _ {W : Type 0} (rules : Rules W) (start : Paged (Engine rules.State) (List ℕ)) where
  abbrev Along : (part : WorkerPart) (worker : Paged (Engine rules.State) (List ℕ)) (said : List (Call rules.State W)) (taken sent : ℕ → List (List ℕ)) → Type 0
  Along part worker said taken sent = IsAlong (paged_act rules part) start worker said taken sent

  -- over links that are the same for a worker it stands as it stood
  pub over_still : (machine : Seen rules.State) (before after : LinkTold) →
      ((source : ℕ) → after.received source machine.part.worker ≡ before.received source machine.part.worker) →
      ((target : ℕ) → after.sent machine.part.worker target ≡ before.sent machine.part.worker target) →
      GoesOverPages rules start machine before → GoesOverPages rules start machine after
  over_still machine before after received sent was = record {
    bank = was.bank;
    holds = was.holds;
    worker = was.worker;
    engine = was.engine;
    has = was.has;
    said = was.said;
    passed = was.passed;
    along = let a = was.along in record {
      past = a.past;
      leads = a.leads;
      says = a.says;
      takes = λ m. a.takes m ∙ sym (received m);
      sends = λ m. a.sends m ∙ sym (sent m);
    };
  }

  module _ (old new : Seen rules.State) (before after : LinkTold) (moved : Kind) (move : IsMove rules old new before after moved)
      (sound : old.fault ≡ None) (told : IsTrue old.driver.told) (over : GoesOverPages rules start old before) (filled : ℕ → List ℕ) (holds : HoldSame new filled) where
    same_part : new.part ≡ old.part
    same_part = ap (λ (m : Seen rules.State). m.part) move.rest

    -- what the engine does is what the worker does
    act_is : (d : Next rules) → next_with rules old over.bank ≡ d → paged_act rules old.part over.worker ≡ or_stops (act_in served_at_once d over.worker)
    act_is d e =
        ap (λ (x : Engine rules.State). or_stops {L = Call rules.State W} {W = List ℕ} (act_in served_at_once (doing rules old.part.limits.page old.part.directives x) over.worker)) over.engine
        ∙ ap (λ (x : Next rules). or_stops (act_in served_at_once x over.worker)) e

    goes : (worker : Paged (Engine rules.State) (List ℕ)) → worker.engine ≡ engine_with new filled → HasPages (slot_state new.port) new.port.finished worker.slots worker.pages →
        (said : List (Call rules.State W)) → NoneIsDue rules said →
        Along old.part worker said (λ source. after.received source old.part.worker) (λ target. after.sent old.part.worker target) → GoesOverPages rules start new after
    goes worker engine has said passed along = record {
      bank = filled;
      holds = holds;
      worker = worker;
      engine = engine;
      has = has;
      said = said;
      passed = passed;
      along = subst (λ (p : WorkerPart). Along p worker said (λ source. after.received source p.worker) (λ target. after.sent p.worker target)) (sym same_part) along;
    }

    moves : (worker : Paged (Engine rules.State) (List ℕ)) (x : List (Call rules.State W)) → NoneIsDue rules x → paged_act rules old.part over.worker ≡ Moves x worker → after ≡ before →
        worker.engine ≡ engine_with new filled → HasPages (slot_state new.port) new.port.finished worker.slots worker.pages → GoesOverPages rules start new after
    moves worker x due act link engine has =
        goes worker engine has (over.said ++ x) (none_more rules over.said x over.passed due)
        (subst (λ (l : LinkTold). Along old.part worker (over.said ++ x) (λ source. l.received source old.part.worker) (λ target. l.sent old.part.worker target)) (sym link)
        (along_moved (paged_act rules old.part) start over.worker worker over.said x (λ source. before.received source old.part.worker) (λ target. before.sent old.part.worker target) act over.along))

    abbrev Steps : (d : Next rules) → Type 0
    Steps d = Happens (hears_in d (worker_with old over.bank)) old.part.worker
        (record { finished = old.port.finished; link = before }) (record { finished = new.port.finished; link = after }) (worker_with new filled)

    has_same : new.port ≡ old.port → HasPages (slot_state new.port) new.port.finished over.worker.slots over.worker.pages
    has_same port = subst (λ (p : PortTold). HasPages (slot_state p) p.finished over.worker.slots over.worker.pages) (sym port) over.has

    -- no fault was due in the calls that come next
    none_due : (act : Act (Engine rules.State) (Call rules.State W) (List ℕ)) → next_with rules old over.bank ≡ Acts act → NoneIsDue rules (calls_of rules (Acts act))
    none_due act e = subst (λ (l : List (Call rules.State W)). NoneIsDue rules l)
        (sym (calls_same rules old sound over.bank over.holds) ∙ ap (λ (d : Next rules). calls_of rules d) e) (move.passed told)

    acts : (act : Act (Engine rules.State) (Call rules.State W) (List ℕ)) → next_with rules old over.bank ≡ Acts act → new.port ≡ old.port → Steps (Acts act) → GoesOverPages rules start new after
    acts (Moves x left) e port h =
        moves (record over.worker { engine = left }) x (none_due (Moves x left) e) (act_is (Acts (Moves x left)) e) h.1 (sym (ap (λ (w : Flying (Engine rules.State) (List ℕ)). w.engine) h.0)) (has_same port)
    acts (Sends target wire left) e port h =
        goes (record over.worker { engine = left }) (sym (ap (λ (w : Flying (Engine rules.State) (List ℕ)). w.engine) h.0)) (has_same port) over.said over.passed
        (subst (λ (t : ℕ → List (List ℕ)). Along old.part (record over.worker { engine = left }) over.said t (λ target. after.sent old.part.worker target))
        (sym (ap (λ (l : LinkTold). λ (source : ℕ). l.received source old.part.worker) h.1))
        (subst (λ (t : ℕ → List (List ℕ)). Along old.part (record over.worker { engine = left }) over.said (λ source. before.received source old.part.worker) t)
        (sym (ap (λ (l : LinkTold). λ (target : ℕ). l.sent old.part.worker target) h.1 ∙ sent_more before.sent old.part.worker target wire))
        (along_sends (paged_act rules old.part) start over.worker (record over.worker { engine = left }) over.said
        (λ source. before.received source old.part.worker) (λ target. before.sent old.part.worker target) target wire (act_is (Acts (Sends target wire left)) e) over.along)))
    acts (Takes source left) e port h =
        goes (record over.worker { engine = left h.0 }) (sym (ap (λ (w : Flying (Engine rules.State) (List ℕ)). w.engine) h.1)) (has_same port) over.said over.passed
        (subst (λ (t : ℕ → List (List ℕ)). Along old.part (record over.worker { engine = left h.0 }) over.said (λ source. after.received source old.part.worker) t)
        (sym (ap (λ (l : LinkTold). λ (target : ℕ). l.sent old.part.worker target) h.2))
        (subst (λ (t : ℕ → List (List ℕ)). Along old.part (record over.worker { engine = left h.0 }) over.said t (λ target. before.sent old.part.worker target))
        (sym (ap (λ (l : LinkTold). λ (source : ℕ). l.received source old.part.worker) h.2 ∙ received_more before.received source old.part.worker h.0))
        (along_takes (paged_act rules old.part) start over.worker (λ wire. record over.worker { engine = left wire }) over.said
        (λ source. before.received source old.part.worker) (λ target. before.sent old.part.worker target) source h.0 (act_is (Acts (Takes source left)) e) over.along)))
    acts Stops e port h = absurd h

    -- where the slots and the finished transfers became these
    has_now : (states : ℕ → SlotState) (lists : Transfers) (slots : ℕ → net.Slot (List ℕ)) (pages : ℕ → List ℕ) → slot_state new.port ≡ states → new.port.finished ≡ lists →
        HasPages states lists slots pages → HasPages (slot_state new.port) new.port.finished slots pages
    has_now states lists slots pages es ef h =
        subst (λ (f : ℕ → SlotState). HasPages f new.port.finished slots pages) (sym es) (subst (λ (l : Transfers). HasPages states l slots pages) (sym ef) h)

    -- a transfer is asked for
    asks : (slot : ℕ) (t : net.Transfer (List ℕ)) (left : Engine rules.State) (state : SlotState) → next_with rules old over.bank ≡ Asks slot t left →
        slot_state old.port slot ≡ Idle → slot < length old.port.slots → new.port ≡ with_state old.port slot state → Steps (Asks slot t left) →
        HasPages (put (slot_state old.port) slot state) old.port.finished (put over.worker.slots slot (net.Served t (net.bytes_of t over.worker.pages))) (net.pages_after t over.worker.pages) →
        GoesOverPages rules start new after
    asks slot t left state e idle within port h has =
        let free : over.worker.slots slot ≡ net.Idle = over.has.each slot ∙ ap (λ (s : SlotState). slot_of old.port.finished s) idle in
        let happened = subst (λ (f : Option (net.Transfer (List ℕ))).
        Happens (asks_flying {L = Call rules.State W} {W = List ℕ} f slot t left (worker_with old over.bank)) old.part.worker
        (record { finished = old.port.finished; link = before }) (record { finished = new.port.finished; link = after }) (worker_with new filled))
        (ap flight_of idle) h in
        moves (served_at_once slot t left over.worker) [] tt
        (act_is (Asks slot t left) e ∙ ap (λ (w : net.Slot (List ℕ)). or_stops (asks_of w (served_at_once slot t left over.worker))) free)
        happened.1 (sym (ap (λ (w : Flying (Engine rules.State) (List ℕ)). w.engine) happened.0))
        (has_now (put (slot_state old.port) slot state) old.port.finished (put over.worker.slots slot (net.Served t (net.bytes_of t over.worker.pages))) (net.pages_after t over.worker.pages)
        (ap (λ (p : PortTold). slot_state p) port ∙ states_set old.port.slots slot state within) (ap (λ (p : PortTold). p.finished) port) has)

    -- a read is finished, with what was last written
    reads : (slot : ℕ) (left : List ℕ → Engine rules.State) (bytes : List ℕ) (state : SlotState) → slot_state old.port slot ≡ state → next_with rules old over.bank ≡ Finishes_read slot left →
        Keeps old.port → AllRight new.port.finished → Brings old.port new.port slot bytes state →
        Happens (reads_flying {L = Call rules.State W} {W = List ℕ} (flight_of state) slot left (worker_with old over.bank)) old.part.worker
        (record { finished = old.port.finished; link = before }) (record { finished = new.port.finished; link = after }) (worker_with new filled) → GoesOverPages rules start new after
    reads slot left bytes Idle is e keeps right brings h = absurd brings
    reads slot left bytes (AskedRead page) is e keeps right brings h =
        let same : h.0 ≡ last_written (old.port.finished page) = was_right old.port.finished page h.0 (subst AllRight h.3 right) in
        let word : over.worker.slots slot ≡ net.Served (net.Reads page) (last_written (old.port.finished page)) =
        over.has.each slot ∙ ap (λ (s : SlotState). slot_of old.port.finished s) is in
        moves (finished slot (left (last_written (old.port.finished page))) over.worker) [] tt
        (act_is (Finishes_read slot left) e ∙ ap (λ (w : net.Slot (List ℕ)). or_stops {L = Call rules.State W} {W = List ℕ} (finishes_read w slot left over.worker)) word)
        h.2 (ap left (sym same) ∙ sym (ap (λ (w : Flying (Engine rules.State) (List ℕ)). w.engine) h.1))
        (has_now (put (slot_state old.port) slot Idle) (with_transfer old.port.finished page (Answered page h.0)) (put over.worker.slots slot net.Idle) over.worker.pages
        (ap (λ (p : PortTold). slot_state p) brings.1 ∙ states_set old.port.slots slot Idle (within_of old.port.slots slot (ap is_idle is))) h.3
        (read_has (slot_state old.port) old.port.finished over.worker.slots over.worker.pages over.has slot page h.0 is (keeps.reads slot page is)))
    reads slot left bytes (AskedWrite page sent) is e keeps right brings h = absurd brings
    reads slot left bytes (HasFailed page) is e keeps right brings h = absurd brings
    reads slot left bytes (IsDamaged damage) is e keeps right brings h = absurd brings

    -- a write is finished
    writes : (slot : ℕ) (left : Engine rules.State) (state : SlotState) → slot_state old.port slot ≡ state → next_with rules old over.bank ≡ Finishes_write slot left →
        Keeps old.port → Saves old.port new.port slot state →
        Happens (writes_flying {L = Call rules.State W} {W = List ℕ} (flight_of state) slot left (worker_with old over.bank)) old.part.worker
        (record { finished = old.port.finished; link = before }) (record { finished = new.port.finished; link = after }) (worker_with new filled) → GoesOverPages rules start new after
    writes slot left Idle is e keeps saves h = absurd saves
    writes slot left (AskedRead page) is e keeps saves h = absurd saves
    writes slot left (AskedWrite page bytes) is e keeps saves h =
        let word : over.worker.slots slot ≡ net.Served (net.Writes page bytes) bytes = over.has.each slot ∙ ap (λ (s : SlotState). slot_of old.port.finished s) is in
        moves (finished slot left over.worker) [] tt
        (act_is (Finishes_write slot left) e ∙ ap (λ (w : net.Slot (List ℕ)). or_stops {L = Call rules.State W} {W = List ℕ} (finishes_write w slot left over.worker)) word)
        h.1 (sym (ap (λ (w : Flying (Engine rules.State) (List ℕ)). w.engine) h.0))
        (has_now (put (slot_state old.port) slot Idle) (with_transfer old.port.finished page (Wrote page bytes)) (put over.worker.slots slot net.Idle) over.worker.pages
        (ap (λ (p : PortTold). slot_state p) saves ∙ states_set old.port.slots slot Idle (within_of old.port.slots slot (ap is_idle is))) (ap (λ (p : PortTold). p.finished) saves)
        (write_has (slot_state old.port) old.port.finished over.worker.slots over.worker.pages over.has slot page bytes is
        (λ other ne. keeps.apart page slot other ne (ap (has_page page) is ∙ eq-eqb page page refl))))
    writes slot left (HasFailed page) is e keeps saves h = absurd saves
    writes slot left (IsDamaged damage) is e keeps saves h = absurd saves

    -- the bytes that a slot is asked to write are those of the worker's frame
    same_bytes : (slot frame page : ℕ) → new.port ≡ with_state old.port slot (AskedWrite page (old.bank frame)) → CanAsk old.port slot page →
        Steps (Asks slot (net.Writes page (over.bank frame)) (advanced (engine_with old over.bank))) → old.bank frame ≡ over.bank frame
    same_bytes slot frame page port can h =
        let happened = subst (λ (f : Option (net.Transfer (List ℕ))).
        Happens (asks_flying {L = Call rules.State W} {W = List ℕ} f slot (net.Writes page (over.bank frame)) (advanced (engine_with old over.bank)) (worker_with old over.bank)) old.part.worker
        (record { finished = old.port.finished; link = before }) (record { finished = new.port.finished; link = after }) (worker_with new filled))
        (ap flight_of can.idle) h in
        let here : flights_in new.port slot ≡ Some (net.Writes page (old.bank frame)) =
        ap (λ (p : PortTold). flights_in p slot) port
        ∙ ap (λ (f : ℕ → SlotState). flight_of (f slot)) (states_set old.port.slots slot (AskedWrite page (old.bank frame)) can.within)
        ∙ ap flight_of (put_here (slot_state old.port) slot (AskedWrite page (old.bank frame))) in
        let there : flights_in new.port slot ≡ Some (net.Writes page (over.bank frame)) =
        ap (λ (w : Flying (Engine rules.State) (List ℕ)). w.flights slot) happened.0 ∙ put_here (flights_in old.port) slot (Some (net.Writes page (over.bank frame))) in
        same_writes page (old.bank frame) (over.bank frame) (sym here ∙ there)

    -- what is next at this directive
    next_so : (o : Option Directive) → directive_at old ≡ o → next_with rules old over.bank ≡ doing_at rules old.part.limits.page o (engine_with old over.bank)
    next_so o e = ap (λ (x : Option Directive). doing_at rules old.part.limits.page x (engine_with old over.bank)) e

    by_directive : Keeps old.port → AllRight new.port.finished → (o : Option Directive) → directive_at old ≡ o → AtPort o old.bank new.bank old.port new.port → steps.Asks o old.port →
        Steps (doing_at rules old.part.limits.page o (engine_with old over.bank)) → GoesOverPages rules start new after
    by_directive keeps right None e port can h = acts (ends rules (engine_with old over.bank)) (next_so None e) port h
    by_directive keeps right (Some (entry.Fresh frame page)) e port can h = acts _ (next_so (Some (entry.Fresh frame page)) e) port h
    by_directive keeps right (Some (entry.IssueIn slot page)) e port can h =
        asks slot (net.Reads page) (advanced (engine_with old over.bank)) (AskedRead page) (next_so (Some (entry.IssueIn slot page)) e) can.can_ask.idle can.can_ask.within port h
        (ask_read_has (slot_state old.port) old.port.finished over.worker.slots over.worker.pages over.has slot page can.can_ask.idle can.can_ask.free can.held)
    by_directive keeps right (Some (entry.FinishIn slot frame)) e port can h =
        reads slot (λ bytes. record (advanced (engine_with old over.bank)) { bank = put over.bank frame bytes }) (new.bank frame) (slot_state old.port slot) refl
        (next_so (Some (entry.FinishIn slot frame)) e) keeps right port h
    by_directive keeps right (Some (entry.IssueOut slot frame page)) e port can h =
        asks slot (net.Writes page (over.bank frame)) (advanced (engine_with old over.bank)) (AskedWrite page (old.bank frame)) (next_so (Some (entry.IssueOut slot frame page)) e)
        can.idle can.within port h
        (subst (λ (b : List ℕ). HasPages (put (slot_state old.port) slot (AskedWrite page (old.bank frame))) old.port.finished
        (put over.worker.slots slot (net.Served (net.Writes page b) b)) (put over.worker.pages page b)) (same_bytes slot frame page port can h)
        (ask_write_has (slot_state old.port) old.port.finished over.worker.slots over.worker.pages over.has slot page (old.bank frame) can.idle can.free))
    by_directive keeps right (Some (entry.FinishOut slot)) e port can h =
        writes slot (advanced (engine_with old over.bank)) (slot_state old.port slot) refl (next_so (Some (entry.FinishOut slot)) e) keeps port h
    by_directive keeps right (Some (entry.Do job)) e port can h = acts (act_of_op rules job.op job (engine_with old over.bank)) (next_so (Some (entry.Do job)) e) port h

  -- a step that moves takes it further, where the answers are right
  pub over_on : (old new : Seen rules.State) (before after : LinkTold) (moved : Kind) → IsMove rules old new before after moved → old.fault ≡ None → IsTrue old.driver.told →
      Keeps old.port → AllRight new.port.finished → GoesOverPages rules start old before → GoesOverPages rules start new after
  over_on old new before after moved move sound told keeps right over =
      let found = move.event told over.bank over.holds in
      by_directive old new before after moved move sound told over found.0 found.1 keeps right (directive_at old) refl move.port move.asks found.2

-- ---- before the first step

none_held : (xs : List Transfer) → xs ≡ [] → has_transfers xs ≡ true → ⊥
none_held [] e h = cc
none_held (x ∷ xs) e h = cc

pub first_keeps : (port : PortTold) → IsUnused port → Keeps port
first_keeps port unused = record {
  reads = λ slot page e. absurd (let never : Idle ≡ AskedRead page = sym (unused.idle slot) ∙ e in cc);
  apart = λ page slot other ne h. absurd (let never : false ≡ true = ap (has_page page) (sym (unused.idle slot)) ∙ h in cc);
  holds = λ page held. absurd (none_held (port.finished page) (unused.empty page) held);
  right = λ told page. subst (λ xs. AreRightAfter [] xs) (sym (unused.empty page)) tt;
}

module _ {W : Type 0} (rules : Rules W) (part : WorkerPart) (driver : Told rules.State) (port : PortTold) (link : LinkTold)
    (running : driver.standing ≡ standing.Running) (unused : IsUnused port) (no_wires : links.IsUnused link) where
  pub over_first : GoesOverPages rules (first_paged rules part.limits.page driver.state) (opened rules part driver port) link
  over_first = record {
    bank = λ frame. cleared rules part.limits.page;
    holds = λ frame left. refl;
    worker = first_paged rules part.limits.page driver.state;
    engine = ap (λ b. record (engines.opened rules part.limits.page driver.state) { is_finished = b }) (sym (ap is_finished running));
    has = record {
      each = λ slot. ap (λ (s : SlotState). slot_of port.finished s) (sym (unused.idle slot));
      written = λ slot page bytes e. absurd (let never : Idle ≡ AskedWrite page bytes = sym (unused.idle slot) ∙ e in cc);
      settled = λ page none held. absurd (none_held (port.finished page) (unused.empty page) held);
    };
    said = [];
    passed = tt;
    along = record {
      past = [];
      leads = refl;
      says = refl;
      takes = λ m. sym (no_wires.received m part.worker);
      sends = λ m. sym (no_wires.sent part.worker m);
    };
  }
