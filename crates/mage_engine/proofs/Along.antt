-- A machine goes along the own run of its worker.
use Rattle.std.proofs.Common.{Option, ap₂, ◌≡◌, ◌&&◌, ◌++◌, ℕ, Bool, true, false, cond, List, [], ◌∷◌, nat_eq, refl, sym, ap, ◌∙◌, subst}
use Rattle.std.specs.Prelude.{IsTrue}
use Rattle.std.proofs.lemmas.Bool.{eqb-true, eq-eqb}
use mathlib.Core.Path.{fun_ext}
use Rattle.mage_base.specs.Store.{Transfer, Answered, Wrote}
use Rattle.mage_network.specs.Network.{put, appended}
use Rattle.mage_network.specs.Workers.{Moves, Sends, Takes, Stops}
use Rattle.mage_network.specs.Answers.{Hearing, Does, Hears, IsAlongAnswers}
use Rattle.mage_network.specs.Reading.{Flying, hears_in}
use Rattle.mage_network.proofs.Answering.{heard_start, heard_moved, heard_sends, heard_takes, heard_hears}
use Rattle.mage_driver.specs.Rules.{Rules}
use Rattle.mage_driver.specs.Calls.{Call, Told}
use Rattle.mage_link.specs.Links.{LinkTold, Wires, with_wire, after_send, after_receive}
use Rattle.mage_port.specs.Port.{PortTold, Transfers, with_transfer}
use Rattle.mage_steps.specs.Engines.{Engine, doing}
use Rattle.mage_verify.specs.Parts.{WorkerPart}
use Rattle.mage_engine.specs.declared.turn.Kind.{Kind}
use Rattle.mage_network.specs.Slots as net
use Rattle.mage_driver.specs.declared.standing.Standing.TheVariants as standing
use Rattle.mage_link.specs.Links as links
use Rattle.mage_port.specs.Port.{IsUnused}
use Rattle.mage_steps.specs.Frames.{cleared}
use Rattle.mage_steps.specs.Engines as engines
use Rattle.mage_engine.specs.Ready.{opened}
use Rattle.mage_engine.specs.Seen.{Seen, worker_with, HoldSame, is_finished, flight_of}
use Rattle.mage_engine.specs.Steps.{answers_in, heard_in, Happens, IsMove, GoesAlong, first_worker}
use Rattle.mage_engine.proofs.Slots.{same_test}

answered_last : (xs : List Transfer) (page : ℕ) (bytes : List ℕ) → answers_in (xs ++ Answered page bytes ∷ []) ≡ answers_in xs ++ bytes ∷ []
answered_last [] page bytes = refl
answered_last (Wrote p b ∷ xs) page bytes = answered_last xs page bytes
answered_last (Answered p b ∷ xs) page bytes = ap (λ l. b ∷ l) (answered_last xs page bytes)

heard_more : (lists : Transfers) (page : ℕ) (bytes : List ℕ) →
    heard_in (with_transfer lists page (Answered page bytes)) ≡ put (heard_in lists) page (appended (heard_in lists page) bytes)
heard_more lists page bytes = fun_ext (λ p. ap (λ b. answers_in (cond b (lists p ++ Answered page bytes ∷ []) (lists p))) (same_test p page) ∙ go p (nat_eq page p) refl)
  where
    go : (p : ℕ) (b : Bool) → nat_eq page p ≡ b → answers_in (cond b (lists p ++ Answered page bytes ∷ []) (lists p)) ≡ cond b (appended (answers_in (lists page)) bytes) (answers_in (lists p))
    go p true e = answered_last (lists p) page bytes ∙ ap (λ k. answers_in (lists k) ++ bytes ∷ []) (sym (eqb-true page p e))
    go p false e = refl

pub sent_more : (wires : Wires) (worker target : ℕ) (wire : List ℕ) →
    (λ t. with_wire wires worker target wire worker t) ≡ put (λ t. wires worker t) target (appended (wires worker target) wire)
sent_more wires worker target wire = fun_ext (λ t. ap (λ b. cond (b && nat_eq target t) (appended (wires worker target) wire) (wires worker t)) (eq-eqb worker worker refl))

and_true : (b : Bool) → (b && true) ≡ b
and_true true = refl
and_true false = refl

pub received_more : (wires : Wires) (source worker : ℕ) (wire : List ℕ) →
    (λ s. with_wire wires source worker wire s worker) ≡ put (λ s. wires s worker) source (appended (wires source worker) wire)
received_more wires source worker wire = fun_ext (λ s.
    ap (λ b. cond (nat_eq source s && b) (appended (wires source worker) wire) (wires s worker)) (eq-eqb worker worker refl)
    ∙ ap (λ b. cond b (appended (wires source worker) wire) (wires s worker)) (and_true (nat_eq source s)))

module _ {W : Type 0} (rules : Rules W) (start : Flying (Engine rules.State) (List ℕ)) where
  -- what a worker of a part does next
  abbrev next_of : WorkerPart → Flying (Engine rules.State) (List ℕ) → Hearing (Flying (Engine rules.State) (List ℕ)) (Call rules.State W) (List ℕ) (List ℕ)
  next_of part worker = hears_in (doing rules part.limits.page part.directives worker.engine) worker

  abbrev Along : (part : WorkerPart) (state : Flying (Engine rules.State) (List ℕ)) (heard : ℕ → List (List ℕ)) (said : List (Call rules.State W))
      (taken sent : ℕ → List (List ℕ)) → Type 0
  Along part state heard said taken sent = IsAlongAnswers (next_of part) start state heard said taken sent

  moved_to : (part : WorkerPart) (s s' : Flying (Engine rules.State) (List ℕ)) (h h' : ℕ → List (List ℕ)) (said : List (Call rules.State W))
      (t t' u u' : ℕ → List (List ℕ)) → s' ≡ s → h' ≡ h → t' ≡ t → u' ≡ u → Along part s h said t u → Along part s' h' said t' u'
  moved_to part s s' h h' said t t' u u' es eh et eu along =
      subst (λ (x : Flying (Engine rules.State) (List ℕ)). Along part x h' said t' u') (sym es)
      (subst (λ (x : ℕ → List (List ℕ)). Along part s x said t' u') (sym eh)
      (subst (λ (x : ℕ → List (List ℕ)). Along part s h said x u') (sym et)
      (subst (λ (x : ℕ → List (List ℕ)). Along part s h said t x) (sym eu) along)))

  module _ (old new : Seen rules.State) (before after : LinkTold) (moved : Kind) (move : IsMove rules old new before after moved) where
    same_part : new.part ≡ old.part
    same_part = ap (λ (m : Seen rules.State). m.part) move.rest

    goes : (bank filled : ℕ → List ℕ) → HoldSame new filled → (said : List (Call rules.State W)) →
        Along old.part (worker_with new filled) (heard_in new.port.finished) said
        (λ source. after.received source old.part.worker) (λ target. after.sent old.part.worker target) → GoesAlong rules start new after
    goes bank filled holds said along = record {
      bank = filled;
      holds = holds;
      said = said;
      along = subst (λ (p : WorkerPart). Along p (worker_with new filled) (heard_in new.port.finished) said
          (λ source. after.received source p.worker) (λ target. after.sent p.worker target)) (sym same_part) along;
    }

    step_on : (bank filled : ℕ → List ℕ) → HoldSame new filled → (said : List (Call rules.State W)) →
        Along old.part (worker_with old bank) (heard_in old.port.finished) said
        (λ source. before.received source old.part.worker) (λ target. before.sent old.part.worker target) →
        (h : Hearing (Flying (Engine rules.State) (List ℕ)) (Call rules.State W) (List ℕ) (List ℕ)) → next_of old.part (worker_with old bank) ≡ h →
        Happens h old.part.worker (record { finished = old.port.finished; link = before }) (record { finished = new.port.finished; link = after }) (worker_with new filled) →
        GoesAlong rules start new after
    step_on bank filled holds said along (Does (Moves x state)) e h =
        goes bank filled holds (said ++ x) (moved_to old.part _ _ _ _ (said ++ x) _ _ _ _ h.0 h.2
        (ap (λ (l : LinkTold). λ (source : ℕ). l.received source old.part.worker) h.1) (ap (λ (l : LinkTold). λ (target : ℕ). l.sent old.part.worker target) h.1)
        (heard_moved (next_of old.part) start (worker_with old bank) state (heard_in old.port.finished) said x
        (λ source. before.received source old.part.worker) (λ target. before.sent old.part.worker target) e along))
    step_on bank filled holds said along (Does (Sends target wire state)) e h =
        goes bank filled holds said (moved_to old.part _ _ _ _ said _ _ _ _ h.0 h.2
        (ap (λ (l : LinkTold). λ (source : ℕ). l.received source old.part.worker) h.1)
        (ap (λ (l : LinkTold). λ (t : ℕ). l.sent old.part.worker t) h.1 ∙ sent_more before.sent old.part.worker target wire)
        (heard_sends (next_of old.part) start (worker_with old bank) state (heard_in old.port.finished) said
        (λ source. before.received source old.part.worker) (λ t. before.sent old.part.worker t) target wire e along))
    step_on bank filled holds said along (Does (Takes source state)) e h =
        goes bank filled holds said (moved_to old.part _ _ _ _ said _ _ _ _ h.1 h.3
        (ap (λ (l : LinkTold). λ (s : ℕ). l.received s old.part.worker) h.2 ∙ received_more before.received source old.part.worker h.0)
        (ap (λ (l : LinkTold). λ (t : ℕ). l.sent old.part.worker t) h.2)
        (heard_takes (next_of old.part) start (worker_with old bank) state (heard_in old.port.finished) said
        (λ s. before.received s old.part.worker) (λ t. before.sent old.part.worker t) source h.0 e along))
    step_on bank filled holds said along (Does Stops) e h = absurd h
    step_on bank filled holds said along (Hears page state) e h =
        goes bank filled holds said (moved_to old.part _ _ _ _ said _ _ _ _ h.1 (ap heard_in h.3 ∙ heard_more old.port.finished page h.0)
        (ap (λ (l : LinkTold). λ (s : ℕ). l.received s old.part.worker) h.2)
        (ap (λ (l : LinkTold). λ (t : ℕ). l.sent old.part.worker t) h.2)
        (heard_hears (next_of old.part) start (worker_with old bank) state (heard_in old.port.finished) said
        (λ s. before.received s old.part.worker) (λ t. before.sent old.part.worker t) page h.0 e along))

    pub still_along : IsTrue old.driver.told → GoesAlong rules start old before → GoesAlong rules start new after
    still_along told was =
        let found = move.event told was.bank was.holds in
        step_on was.bank found.0 found.1 was.said was.along (next_of old.part (worker_with old was.bank)) refl found.2

-- where the core's worker begins, with its driver in this state
module _ {W : Type 0} (rules : Rules W) (part : WorkerPart) (driver : Told rules.State) (port : PortTold) (link : LinkTold)
    (running : driver.standing ≡ standing.Running) (unused : IsUnused port) (no_wires : links.IsUnused link) where
  same_worker : worker_with (opened rules part driver port) (λ frame. cleared rules part.limits.page) ≡ first_worker rules part.limits.page driver.state
  same_worker =
      ap₂ (λ (b : Bool) (f : ℕ → Option (net.Transfer (List ℕ))). record {
        engine = record (engines.opened rules part.limits.page driver.state) { is_finished = b };
        flights = f;
      }) (ap is_finished running) (fun_ext (λ s. ap flight_of (unused.idle s)))

  pub along_first : GoesAlong rules (first_worker rules part.limits.page driver.state) (opened rules part driver port) link
  along_first = record {
    bank = λ frame. cleared rules part.limits.page;
    holds = λ frame left. refl;
    said = [];
    along = moved_to rules (first_worker rules part.limits.page driver.state) part _ _ _ _ [] _ _ _ _ same_worker (fun_ext (λ page. ap answers_in (unused.empty page)))
        (fun_ext (λ source. no_wires.received source part.worker)) (fun_ext (λ target. no_wires.sent part.worker target))
        (heard_start (next_of rules (first_worker rules part.limits.page driver.state) part) (first_worker rules part.limits.page driver.state));
  }
