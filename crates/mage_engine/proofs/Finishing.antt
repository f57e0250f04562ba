-- Transfers that are finished, or aren't yet.
use Rattle.std.proofs.Common.{◌≡◌, ◌<◌, ◌+◌, ◌++◌, ℕ, suc, ◌==◌, Bool, true, false, cond, List, [], ◌∷◌, length, drop, Option, Some, Ok, nat_eq, refl, sym, ap, ◌∙◌, subst}
use Rattle.std.specs.Prelude.{◌||◌}
use Rattle.std.proofs.lemmas.Bool.{eqb-true}
use Rattle.std.proofs.lemmas.List.{length-set}
use mathlib.Core.Path.{fun_ext}
use Rattle.mage_base.specs.Store.{Transfer, Answered, Wrote}
use Rattle.mage_instr.specs.declared.directive.Directive.{Directive}
use Rattle.mage_instr.specs.declared.directive.Directive.TheVariants as entry
use Rattle.mage_network.specs.Network.{put}
use Rattle.mage_network.specs.Slots as net
use Rattle.mage_network.specs.Reading.{reads_flying, writes_flying}
use Rattle.mage_driver.specs.Rules.{Rules}
use Rattle.mage_driver.specs.Calls.{Call}
use Rattle.mage_link.specs.Links.{LinkTold}
use Rattle.mage_port.specs.declared.ready.Ready.{Ready}
use Rattle.mage_port.specs.declared.ready.Ready.TheVariants as answer
use Rattle.mage_port.specs.Port.{PortTold, SlotState, Transfers, Idle, AskedRead, AskedWrite, Finishes, Brings, Saves, Waits, IsUnderWay, IsAsked, IsAskedRead, slot_state, after_read, after_write, with_transfer, has_transfers, is_idle, is_asked_write}
use Rattle.mage_steps.specs.Engines.{Engine, advanced}
use Rattle.mage_verify.specs.declared.slot.Slot.{Slot}
use Rattle.mage_verify.specs.declared.slot.Slot.TheVariants as does
use Rattle.mage_verify.specs.Leaving.{is_left}
use Rattle.mage_verify.specs.State.{writes}
use Rattle.mage_engine.specs.Seen.{Seen, flight_of, engine_with, worker_with, HoldSame}
use Rattle.mage_engine.specs.Ready.{IsAt, IsReady, Stands, state_at}
use Rattle.mage_engine.specs.Steps.{IsMove, IsWait, Happens, finished_by, answers_in, heard_in}
use Rattle.mage_engine.specs.declared.turn.Kind.TheVariants as kind
use Rattle.mage_engine.specs.declared.turn.Why.TheVariants as why
use Rattle.mage_engine.proofs.Pages.{put_here}
use Rattle.mage_engine.proofs.Slots.{flights_after, does_after, reading_when, writing_when}
use Rattle.mage_engine.proofs.Advancing.{left_here, meets, ready, running, next_ready, stands_of}
use Rattle.mage_engine.proofs.Moving.{EventAt, Behind, moved_so, stands_so, same_driver}

-- a page with one transfer more is held, and so is each that was
some_more : (xs : List Transfer) (t : Transfer) → has_transfers (xs ++ t ∷ []) ≡ true
some_more [] t = refl
some_more (x ∷ xs) t = refl

still_held : (port : PortTold) (page p : ℕ) (t : Transfer) → has_transfers (port.finished p) ≡ true → has_transfers (with_transfer port.finished page t p) ≡ true
still_held port page p t held = go (p == page)
  where
    go : (b : Bool) → has_transfers (cond b (port.finished p ++ t ∷ []) (port.finished p)) ≡ true
    go true = some_more (port.finished p) t
    go false = held

now_held : (port : PortTold) (page p : ℕ) (t : Transfer) → (p == page || has_transfers (port.finished p)) ≡ true → has_transfers (with_transfer port.finished page t p) ≡ true
now_held port page p t = go (p == page)
  where
    go : (b : Bool) → (b || has_transfers (port.finished p)) ≡ true → has_transfers (cond b (port.finished p ++ t ∷ []) (port.finished p)) ≡ true
    go true h = some_more (port.finished p) t
    go false h = h

-- a write that is finished is no answer
wrote_last : (xs : List Transfer) (page : ℕ) (bytes : List ℕ) → answers_in (xs ++ Wrote page bytes ∷ []) ≡ answers_in xs
wrote_last [] page bytes = refl
wrote_last (Wrote p b ∷ xs) page bytes = wrote_last xs page bytes
wrote_last (Answered p b ∷ xs) page bytes = ap (λ l. b ∷ l) (wrote_last xs page bytes)

wrote_heard : (lists : Transfers) (page : ℕ) (bytes : List ℕ) → heard_in (with_transfer lists page (Wrote page bytes)) ≡ heard_in lists
wrote_heard lists page bytes = fun_ext (λ p. go p (p == page))
  where
    go : (p : ℕ) (b : Bool) → answers_in (cond b (lists p ++ Wrote page bytes ∷ []) (lists p)) ≡ answers_in (lists p)
    go p true = wrote_last (lists p) page bytes
    go p false = refl

pub put_same : {X : Type 0} (each : ℕ → X) (i : ℕ) → put each i (each i) ≡ each
put_same each i = fun_ext (λ k. go k (nat_eq i k) refl)
  where
    go : (k : ℕ) (b : Bool) → nat_eq i k ≡ b → cond b (each i) (each k) ≡ each k
    go k true e = ap each (eqb-true i k e)
    go k false e = refl

module _ {W : Type 0} (rules : Rules W) (wb : ℕ) (finished : Bool) (old : Seen rules.State) where
  -- ---- a transfer that is under way

  pub waiting : (x : Directive) (at : IsAt old x) (slot : ℕ) (new : Seen rules.State) → finished_by (Some x) ≡ Some slot →
      new ≡ record old { port = new.port } → IsUnderWay old.port new.port → (link : LinkTold) → IsWait rules old new link link (why.Slot slot)
  waiting x at slot new of is under link = (ap finished_by at.here ∙ of, is, under, refl)

  pub stands_waiting : (x : Directive) (at : IsAt old x) (stands : Stands wb finished old.fault old) (new : Seen rules.State) (after : PortTold) →
      new ≡ record old { port = after } → IsUnderWay old.port after → Stands wb finished old.fault new
  stands_waiting x at stands new after is under =
      let r = ready wb finished old x at stands in
      subst (λ (n : Seen rules.State). Stands wb finished old.fault n) (sym (is ∙ ap (λ (p : PortTold). record old { port = p }) under.0))
      (stands_of wb finished old.fault (record old { port = record old.port { waits = after.waits } }) at.sound (record {
        safe = r.safe;
        runs = r.runs;
        within = r.within;
        wire = r.wire;
        lengths = r.lengths;
        bytes = r.bytes;
        count = r.count;
        takes = r.takes;
        slots = r.slots;
        held = r.held;
        standing = r.standing;
        early = r.early;
      }))

  -- ---- a read is finished

  module _ (slot frame : ℕ) (at : IsAt old (entry.FinishIn slot frame)) (stands : Stands wb finished old.fault old) where
    pub reads : (page : ℕ) × (slot_state old.port slot ≡ AskedRead page)
    reads =
        let m = meets wb finished old (entry.FinishIn slot frame) at stands in
        let r = ready wb finished old (entry.FinishIn slot frame) at stands in
        (m.2.0, reading_when (slot_state old.port slot) m.2.0 (r.slots slot ∙ ap Some m.2.1))

    pub asked_read : IsAskedRead old.port slot
    asked_read = let s = reads in record { asked = ap is_idle s.1; no_write = ap is_asked_write s.1 }

    within_in : slot < length old.port.slots
    within_in =
        let m = meets wb finished old (entry.FinishIn slot frame) at stands in
        let r = ready wb finished old (entry.FinishIn slot frame) at stands in
        subst (λ n. slot < n) (sym r.count) m.0

    pub brought : (given : Ready) (after : PortTold) (was bytes : List ℕ) → Finishes old.port after slot was bytes (Ok given) →
        Brings old.port after slot bytes (slot_state old.port slot)
    brought answer.Read after was bytes h = h
    brought answer.Wrote after was bytes h = let s = reads in absurd (subst (λ (state : SlotState). Saves old.port after slot state) s.1 h.1)

    pub underway : (after : PortTold) → Waits old.port after (slot_state old.port slot) → IsUnderWay old.port after
    underway after h = let s = reads in subst (λ (state : SlotState). Waits old.port after state) s.1 h

    module _ (after : PortTold) (bytes : List ℕ) (brings : Brings old.port after slot bytes (slot_state old.port slot)) where
      page : ℕ
      page = reads.0

      after_is : after ≡ after_read old.port slot reads.0 bytes
      after_is = let s = reads in (subst (λ (state : SlotState). Brings old.port after slot bytes state) s.1 brings).1

      event_in : (link : LinkTold) → EventAt rules old (entry.FinishIn slot frame) at
          (Behind rules old (entry.FinishIn slot frame) at wb finished stands refl old.driver (after_read old.port slot reads.0 bytes) (put old.bank frame bytes)) link link
      event_in link bank same =
          let new = Behind rules old (entry.FinishIn slot frame) at wb finished stands refl old.driver (after_read old.port slot reads.0 bytes) (put old.bank frame bytes) in
          let engine : List ℕ → Engine rules.State = λ b. record (advanced (engine_with old bank)) { bank = put bank frame b } in
          let s = reads in (
            put bank frame bytes,
            holds bank same,
            subst (λ (f : Option (net.Transfer (List ℕ))). Happens (reads_flying {L = Call rules.State W} {W = List ℕ} f slot engine (worker_with old bank)) old.part.worker
                (record { finished = old.port.finished; link = link }) (record { finished = new.port.finished; link = link }) (worker_with new (put bank frame bytes)))
                (sym (ap flight_of s.1))
                (bytes, ap (λ f. record { engine = engine bytes; flights = f }) (flights_after old.port slot Idle within_in), refl, refl),
          )
        where
          holds : (bank : ℕ → List ℕ) → HoldSame old bank → (f : ℕ) → is_left f (drop (suc old.place) old.part.directives) ≡ false → put bank frame bytes f ≡ put old.bank frame bytes f
          holds bank same f left = go (nat_eq frame f) refl
            where
              go : (b : Bool) → nat_eq frame f ≡ b → cond b bytes (bank f) ≡ cond b bytes (old.bank f)
              go true e = refl
              go false e = same f (ap (is_left f) (left_here old.part.directives old.place (entry.FinishIn slot frame) at.here)
                  ∙ ap (λ b. cond b true (is_left f (drop (suc old.place) old.part.directives))) e ∙ left)

      pub finished_in : (new : Seen rules.State) →
          new ≡ record old { port = after; place = old.place + 1; bank = put old.bank frame bytes } →
          (link : LinkTold) → IsMove rules old new link link kind.Finish
      finished_in new is link =
          moved_so rules old (entry.FinishIn slot frame) at wb finished stands refl new old.driver (after_read old.port slot reads.0 bytes) (put old.bank frame bytes) kind.Finish
          (is ∙ ap (λ (p : PortTold). record old { port = p; place = old.place + 1; bank = put old.bank frame bytes }) after_is) refl
          (same_driver rules old (entry.FinishIn slot frame) at wb finished stands refl)
          (subst (λ (b : List ℕ). Brings old.port (after_read old.port slot reads.0 bytes) slot b (slot_state old.port slot)) (sym (put_here old.bank frame bytes))
          (subst (λ (p : PortTold). Brings old.port p slot bytes (slot_state old.port slot)) after_is brings))
          tt link refl (λ told. event_in link) (λ told. tt)

      pub stands_in : (new : Seen rules.State) →
          new ≡ record old { port = after; place = old.place + 1; bank = put old.bank frame bytes } →
          Stands wb finished old.fault new
      stands_in new is =
          let r = ready wb finished old (entry.FinishIn slot frame) at stands in
          stands_so rules old (entry.FinishIn slot frame) at wb finished stands refl new old.driver (after_read old.port slot reads.0 bytes) (put old.bank frame bytes)
          (is ∙ ap (λ (p : PortTold). record old { port = p; place = old.place + 1; bank = put old.bank frame bytes }) after_is)
          (next_ready wb finished old (entry.FinishIn slot frame) at stands old.driver (after_read old.port slot reads.0 bytes) (put old.bank frame bytes)
          (running wb finished old (entry.FinishIn slot frame) at stands) refl refl (length-set old.port.slots slot Idle)
          (does_after old.port slot Idle does.Idle (state_at old).slot within_in refl r.slots)
          (λ p is'. still_held old.port reads.0 p (Answered reads.0 bytes) (r.held p is')))

  -- ---- a write is finished

  module _ (slot : ℕ) (at : IsAt old (entry.FinishOut slot)) (stands : Stands wb finished old.fault old) where
    pub writes_page : (page : ℕ) × ((state_at old).slot slot ≡ does.Writing page)
    writes_page = (meets wb finished old (entry.FinishOut slot) at stands).1

    pub writes_bytes : (bytes : List ℕ) × (slot_state old.port slot ≡ AskedWrite writes_page.0 bytes)
    writes_bytes =
        let w = writes_page in
        let r = ready wb finished old (entry.FinishOut slot) at stands in
        writing_when (slot_state old.port slot) w.0 (r.slots slot ∙ ap Some w.1)

    pub asked_write : IsAsked old.port slot
    asked_write = let s = writes_bytes in ap is_idle s.1

    within_out : slot < length old.port.slots
    within_out =
        let m = meets wb finished old (entry.FinishOut slot) at stands in
        let r = ready wb finished old (entry.FinishOut slot) at stands in
        subst (λ n. slot < n) (sym r.count) m.0

    pub saved : (given : Ready) (after : PortTold) (was bytes : List ℕ) → Finishes old.port after slot was bytes (Ok given) →
        Saves old.port after slot (slot_state old.port slot)
    saved answer.Read after was bytes h = let s = writes_bytes in absurd (subst (λ (state : SlotState). Brings old.port after slot bytes state) s.1 h)
    saved answer.Wrote after was bytes h = h.1

    pub underway_out : (after : PortTold) → Waits old.port after (slot_state old.port slot) → IsUnderWay old.port after
    underway_out after h = let s = writes_bytes in subst (λ (state : SlotState). Waits old.port after state) s.1 h

    module _ (after : PortTold) (saves : Saves old.port after slot (slot_state old.port slot)) where
      after_is_out : after ≡ after_write old.port slot writes_page.0 writes_bytes.0
      after_is_out = let s = writes_bytes in subst (λ (state : SlotState). Saves old.port after slot state) s.1 saves

      event_out : (link : LinkTold) → EventAt rules old (entry.FinishOut slot) at
          (Behind rules old (entry.FinishOut slot) at wb finished stands refl old.driver (after_write old.port slot writes_page.0 writes_bytes.0) old.bank) link link
      event_out link bank same =
          let new = Behind rules old (entry.FinishOut slot) at wb finished stands refl old.driver (after_write old.port slot writes_page.0 writes_bytes.0) old.bank in
          let s = writes_bytes in (
            bank,
            λ f left. same f (ap (is_left f) (left_here old.part.directives old.place (entry.FinishOut slot) at.here) ∙ left),
            subst (λ (f : Option (net.Transfer (List ℕ))). Happens (writes_flying {L = Call rules.State W} {W = List ℕ} f slot (advanced (engine_with old bank)) (worker_with old bank)) old.part.worker
                (record { finished = old.port.finished; link = link }) (record { finished = new.port.finished; link = link }) (worker_with new bank))
                (sym (ap flight_of s.1))
                (ap (λ f. record { engine = advanced (engine_with old bank); flights = f }) (flights_after old.port slot Idle within_out), refl, wrote_heard old.port.finished writes_page.0 writes_bytes.0),
          )

      pub finished_out : (new : Seen rules.State) →
          new ≡ record old { port = after; place = old.place + 1 } →
          (link : LinkTold) → IsMove rules old new link link kind.Finish
      finished_out new is link =
          moved_so rules old (entry.FinishOut slot) at wb finished stands refl new old.driver (after_write old.port slot writes_page.0 writes_bytes.0) old.bank kind.Finish
          (is ∙ ap (λ (p : PortTold). record old { port = p; place = old.place + 1 }) after_is_out) refl
          (same_driver rules old (entry.FinishOut slot) at wb finished stands refl)
          (subst (λ (p : PortTold). Saves old.port p slot (slot_state old.port slot)) after_is_out saves)
          tt link refl (λ told. event_out link) (λ told. tt)

      pub stands_out : (new : Seen rules.State) →
          new ≡ record old { port = after; place = old.place + 1 } →
          Stands wb finished old.fault new
      stands_out new is =
          let r = ready wb finished old (entry.FinishOut slot) at stands in
          stands_so rules old (entry.FinishOut slot) at wb finished stands refl new old.driver (after_write old.port slot writes_page.0 writes_bytes.0) old.bank
          (is ∙ ap (λ (p : PortTold). record old { port = p; place = old.place + 1 }) after_is_out)
          (next_ready wb finished old (entry.FinishOut slot) at stands old.driver (after_write old.port slot writes_page.0 writes_bytes.0) old.bank
          (running wb finished old (entry.FinishOut slot) at stands) refl refl (length-set old.port.slots slot Idle)
          (does_after old.port slot Idle does.Idle (state_at old).slot within_out refl r.slots)
          (λ p is'. stored_held r p is'))
        where
          stored_held : IsReady wb finished old → (p : ℕ) → (writes p ((state_at old).slot slot) || (state_at old).stored p) ≡ true →
              has_transfers (with_transfer old.port.finished writes_page.0 (Wrote writes_page.0 writes_bytes.0) p) ≡ true
          stored_held r p is' =
              now_held old.port writes_page.0 p (Wrote writes_page.0 writes_bytes.0)
              (or_held (nat_eq p writes_page.0) ((state_at old).stored p) (has_transfers (old.port.finished p)) (r.held p)
              (ap (λ (slot' : Slot). writes p slot' || (state_at old).stored p) (sym writes_page.1) ∙ is'))
            where
              or_held : (a b c : Bool) → (b ≡ true → c ≡ true) → (a || b) ≡ true → (a || c) ≡ true
              or_held true b c h e = refl
              or_held false b c h e = h e
