-- Transfers that are asked for.
use Rattle.std.specs.Prelude.{IsTrue, IfSome}
use Rattle.std.proofs.Common.{◌≡◌, ◌<◌, ◌+◌, ℕ, suc, Bool, true, false, cond, List, length, drop, Option, Some, None, nat_eq, refl, sym, ap, ◌∙◌, subst}
use Rattle.std.proofs.lemmas.Bool.{eqb-true, eq-eqb, false≢true}
use Rattle.std.proofs.lemmas.List.{length-set}
use Rattle.mage_instr.specs.declared.directive.Directive.{Directive}
use Rattle.mage_instr.specs.declared.directive.Directive.TheVariants as entry
use Rattle.mage_network.specs.Network.{put}
use Rattle.mage_network.specs.Slots.{Transfer, Reads, Writes}
use Rattle.mage_network.specs.Reading.{asks_flying, flies}
use Rattle.mage_driver.specs.Rules.{Rules}
use Rattle.mage_driver.specs.Calls.{Call}
use Rattle.mage_link.specs.Links.{LinkTold}
use Rattle.mage_port.specs.Port.{AskedRead, AskedWrite, CanAsk, CanRead, CanWrite, slot_state, with_state}
use Rattle.mage_steps.specs.Engines.{Engine, advanced}
use Rattle.mage_verify.specs.declared.slot.Slot.TheVariants as does
use Rattle.mage_verify.specs.Leaving.{is_left, leaves_first, leaves_at}
use Rattle.mage_verify.specs.Runs as verifier
use Rattle.mage_engine.specs.Seen.{Seen, flight_of, flights_in, engine_with, worker_with}
use Rattle.mage_engine.specs.Ready.{IsAt, Stands, state_at, page_moved}
use Rattle.mage_engine.specs.Steps.{IsMove, Happens, heard_in}
use Rattle.mage_engine.specs.declared.turn.Kind.TheVariants as kind
use Rattle.mage_engine.proofs.Slots.{flights_after, does_after, idle_when, free_so}
use Rattle.mage_engine.proofs.Advancing.{left_here, meets, ready, running, next_ready}
use Rattle.mage_engine.proofs.Moving.{EventAt, Behind, moved_so, stands_so, same_driver}

module _ {W : Type 0} (rules : Rules W) (wb : ℕ) (finished : Bool) (old : Seen rules.State) where
  -- a slot that stands idle may be asked
  can_ask : (x : Directive) (at : IsAt old x) (stands : Stands wb finished old.fault old) (slot page : ℕ) → slot < old.part.limits.buffer →
      page_moved x ≡ Some page → (state_at old).slot slot ≡ does.Idle → verifier.IsStill old.part.limits.buffer (state_at old) page →
      CanAsk old.port slot page
  can_ask x at stands slot page within moves idle still =
      let r = ready wb finished old x at stands in record {
        within = subst (λ n. slot < n) (sym r.count) within;
        idle = idle_when (slot_state old.port slot) (r.slots slot ∙ ap Some idle);
        taken = subst (λ (o : Option ℕ). IfSome o (λ p. IsTrue (old.port.takes p))) moves
            (subst (λ (o : Option Directive). IfSome o (λ directive. IfSome (page_moved directive) (λ p. IsTrue (old.port.takes p)))) at.here (r.takes old.place));
        free = free_so old.port (state_at old) page (subst (λ n. verifier.IsStill n (state_at old) page) (sym r.count) still) r.slots;
      }

  -- what the worker does where its slot is idle
  asks_so : (flight : Option (Transfer (List ℕ))) (slot : ℕ) (transfer : Transfer (List ℕ)) (engine : Engine rules.State) (bank : ℕ → List ℕ)
      (link : LinkTold) (new : Seen rules.State) (filled : ℕ → List ℕ) → flight ≡ None →
      worker_with new filled ≡ flies slot (Some transfer) engine (worker_with old bank) → heard_in new.port.finished ≡ heard_in old.port.finished →
      Happens (asks_flying {L = Call rules.State W} {W = List ℕ} flight slot transfer engine (worker_with old bank)) old.part.worker
      (record { finished = old.port.finished; link = link }) (record { finished = new.port.finished; link = link }) (worker_with new filled)
  asks_so None slot transfer engine bank link new filled e same heard = (same, refl, heard)
  asks_so (Some flight) slot transfer engine bank link new filled e same heard = absurd cc

  -- ---- a read is asked for

  module _ (slot page : ℕ) (at : IsAt old (entry.IssueIn slot page)) (stands : Stands wb finished old.fault old) where
    met : verifier.Meets old.part.limits old.part.pages (state_at old) (entry.IssueIn slot page)
    met = meets wb finished old (entry.IssueIn slot page) at stands

    asked_in : CanAsk old.port slot page
    asked_in = let m = met in can_ask (entry.IssueIn slot page) at stands slot page m.0 refl m.2 m.3

    pub can_read : CanRead old.port slot page
    can_read = let m = met in record { can_ask = asked_in; held = (ready wb finished old (entry.IssueIn slot page) at stands).held page m.4 }

    event_in : (link : LinkTold) → EventAt rules old (entry.IssueIn slot page) at
        (Behind rules old (entry.IssueIn slot page) at wb finished stands refl old.driver (with_state old.port slot (AskedRead page)) old.bank) link link
    event_in link bank same =
        let can = asked_in in
        let new = Behind rules old (entry.IssueIn slot page) at wb finished stands refl old.driver (with_state old.port slot (AskedRead page)) old.bank in (
          bank,
          λ frame left. same frame (ap (is_left frame) (left_here old.part.directives old.place (entry.IssueIn slot page) at.here) ∙ left),
          asks_so (flights_in old.port slot) slot (Reads page) (advanced (engine_with old bank)) bank link new bank (ap flight_of can.idle)
              (ap (λ f. record { engine = engine_with new bank; flights = f }) (flights_after old.port slot (AskedRead page) can.within)) refl,
        )

    pub issued_in : (new : Seen rules.State) →
        new ≡ record old { port = with_state old.port slot (AskedRead page); place = old.place + 1 } →
        (link : LinkTold) → IsMove rules old new link link kind.Ask
    issued_in new is link =
        moved_so rules old (entry.IssueIn slot page) at wb finished stands refl new old.driver (with_state old.port slot (AskedRead page)) old.bank kind.Ask is refl
        (same_driver rules old (entry.IssueIn slot page) at wb finished stands refl) refl can_read link refl (λ told. event_in link)
        (λ told. tt)

    pub stands_in : (new : Seen rules.State) →
        new ≡ record old { port = with_state old.port slot (AskedRead page); place = old.place + 1 } →
        Stands wb finished old.fault new
    stands_in new is =
        let r = ready wb finished old (entry.IssueIn slot page) at stands in
        let can = asked_in in
        stands_so rules old (entry.IssueIn slot page) at wb finished stands refl new old.driver (with_state old.port slot (AskedRead page)) old.bank is
        (next_ready wb finished old (entry.IssueIn slot page) at stands old.driver (with_state old.port slot (AskedRead page)) old.bank
        (running wb finished old (entry.IssueIn slot page) at stands) refl refl (length-set old.port.slots slot (AskedRead page))
        (does_after old.port slot (AskedRead page) (does.Reading page) (state_at old).slot can.within refl r.slots) r.held)

  -- ---- a write is asked for

  module _ (slot frame page : ℕ) (at : IsAt old (entry.IssueOut slot frame page)) (stands : Stands wb finished old.fault old) where
    asked_out : CanAsk old.port slot page
    asked_out =
        let m = meets wb finished old (entry.IssueOut slot frame page) at stands in
        can_ask (entry.IssueOut slot frame page) at stands slot page m.0 refl m.3 m.4

    pub can_write : length (old.bank frame) ≡ old.port.page_bytes → CanWrite old.port slot page (old.bank frame)
    can_write whole = record { can_ask = asked_out; whole = whole }

    -- the frames that hold the same behind the directive hold the same before it, and so does its own
    kept_before : (f : ℕ) → is_left f (drop (suc old.place) old.part.directives) ≡ false → is_left f (drop old.place old.part.directives) ≡ false
    kept_before f left = ap (is_left f) (left_here old.part.directives old.place (entry.IssueOut slot frame page) at.here) ∙ go (nat_eq frame f)
      where
        go : (b : Bool) → cond b false (is_left f (drop (suc old.place) old.part.directives)) ≡ false
        go true = refl
        go false = left

    own_before : is_left frame (drop old.place old.part.directives) ≡ false
    own_before = ap (is_left frame) (left_here old.part.directives old.place (entry.IssueOut slot frame page) at.here)
        ∙ ap (λ b. cond b false (is_left frame (drop (suc old.place) old.part.directives))) (eq-eqb frame frame refl)

    -- of the frames that aren't left behind it, none changed
    abbrev pub KeepsOthers : (bank : ℕ → List ℕ) → Type 0
    KeepsOthers bank = (f : ℕ) → is_left f (drop (suc old.place) old.part.directives) ≡ false → old.bank f ≡ bank f

    event_out : (filled : ℕ → List ℕ) → KeepsOthers filled → (link : LinkTold) → EventAt rules old (entry.IssueOut slot frame page) at
        (Behind rules old (entry.IssueOut slot frame page) at wb finished stands refl old.driver (with_state old.port slot (AskedWrite page (old.bank frame))) filled) link link
    event_out filled others link bank same =
        let can = asked_out in
        let new = Behind rules old (entry.IssueOut slot frame page) at wb finished stands refl old.driver (with_state old.port slot (AskedWrite page (old.bank frame))) filled in (
          bank,
          λ f left. same f (kept_before f left) ∙ others f left,
          asks_so (flights_in old.port slot) slot (Writes page (bank frame)) (advanced (engine_with old bank)) bank link new bank (ap flight_of can.idle)
              (ap (λ f. record { engine = engine_with new bank; flights = f }) (flights_after old.port slot (AskedWrite page (old.bank frame)) can.within
              ∙ ap (λ bytes. put (flights_in old.port) slot (Some (Writes page bytes))) (sym (same frame own_before)))) refl,
        )

    pub issued_out : (new : Seen rules.State) (filled : ℕ → List ℕ) → KeepsOthers filled →
        new ≡ record old { port = with_state old.port slot (AskedWrite page (old.bank frame)); place = old.place + 1; bank = filled } →
        (link : LinkTold) → IsMove rules old new link link kind.Ask
    issued_out new filled others is link =
        moved_so rules old (entry.IssueOut slot frame page) at wb finished stands refl new old.driver (with_state old.port slot (AskedWrite page (old.bank frame))) filled kind.Ask is refl
        (same_driver rules old (entry.IssueOut slot frame page) at wb finished stands refl) refl asked_out link refl (λ told. event_out filled others link)
        (λ told. tt)

    pub stands_out : (new : Seen rules.State) (filled : ℕ → List ℕ) →
        new ≡ record old { port = with_state old.port slot (AskedWrite page (old.bank frame)); place = old.place + 1; bank = filled } →
        Stands wb finished old.fault new
    stands_out new filled is =
        let r = ready wb finished old (entry.IssueOut slot frame page) at stands in
        let can = asked_out in
        stands_so rules old (entry.IssueOut slot frame page) at wb finished stands refl new old.driver (with_state old.port slot (AskedWrite page (old.bank frame))) filled is
        (next_ready wb finished old (entry.IssueOut slot frame page) at stands old.driver (with_state old.port slot (AskedWrite page (old.bank frame))) filled
        (running wb finished old (entry.IssueOut slot frame page) at stands) refl refl (length-set old.port.slots slot (AskedWrite page (old.bank frame)))
        (does_after old.port slot (AskedWrite page (old.bank frame)) (does.Writing page) (state_at old).slot can.within refl r.slots) r.held)

    -- a frame that is left may hold anything
    pub left_others : (bytes : List ℕ) → leaves_at old.part.directives old.place ≡ true → KeepsOthers (put old.bank frame bytes)
    left_others bytes leaves f left = go (nat_eq frame f) refl
      where
        is : is_left frame (drop (suc old.place) old.part.directives) ≡ true
        is = ap leaves_first (sym (left_here old.part.directives old.place (entry.IssueOut slot frame page) at.here)) ∙ leaves

        go : (b : Bool) → nat_eq frame f ≡ b → old.bank f ≡ cond b bytes (old.bank f)
        go true e = absurd (false≢true (sym left ∙ ap (λ k. is_left k (drop (suc old.place) old.part.directives)) (sym (eqb-true frame f e)) ∙ is))
        go false e = refl
