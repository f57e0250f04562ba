-- A port that a caller writes through and reads back.
use Rattle.std.proofs.Common.{◌≡◌, ◌<◌, ◌∙◌, sym, subst, ap, refl, ℕ, List, [], ◌∷◌, ◌++◌, length, get_or, set, Bool, true, false, IsTrue, Ok, Err}
use Rattle.std.specs.Prelude.{◌==◌}
use Rattle.std.proofs.lemmas.List.{get_or-set_same, get_or-set_other, length-set}
use Rattle.std.proofs.lemmas.Bool.{eq-eqb, eqb-true, eqb-false}
use Rattle.mage_base.specs.Store.{Transfer, Wrote}
use Rattle.mage_port.specs.declared.ready.Ready.{Ready}
use Rattle.mage_port.specs.declared.ready.Ready.TheVariants as ready
use Rattle.mage_port.specs.declared.ready.PortWait.{PortWait}
use Rattle.mage_port.specs.declared.ready.PortWait.TheVariants as waits
use Rattle.mage_port.specs.Port.{PortTold, SlotState, Idle, AskedRead, AskedWrite, HasFailed, IsDamaged, slot_state, with_state, has_page, has_transfers, is_held, is_idle, is_asked_write, after_read, after_write, CanAsk, CanRead, CanWrite, IsAsked, IsAskedRead, Finishes, Brings, Saves, Waits, Fails, Spoils}
use Rattle.mage_store_tests.specs.declared.caller.Went.{Went}
use Rattle.mage_store_tests.specs.declared.caller.Went.TheVariants as wents
use Rattle.mage_store_tests.specs.Rest.{IsAtRest, IsReady, StaysAtRest, IsNotBack, Comes}

-- the first slot of a port at rest may be asked for a page that the port takes
rest_asks : (port : PortTold) (page : ℕ) → IsAtRest port → IsTrue (port.takes page) → CanAsk port 0 page
rest_asks port page rest taken =
    record { within = rest.some; idle = rest.idle 0; taken = taken; free = λ other. ap (has_page page) (rest.idle other) }

pub rest_writes : (port : PortTold) (page : ℕ) (bytes : List ℕ) → IsAtRest port → IsTrue (port.takes page) → length bytes ≡ port.page_bytes → CanWrite port 0 page bytes
rest_writes port page bytes rest taken whole = record { can_ask = rest_asks port page rest taken; whole = whole }

-- a slot that came into a state
pub state_here : (port : PortTold) (state : SlotState) → IsAtRest port → slot_state (with_state port 0 state) 0 ≡ state
state_here port state rest = get_or-set_same port.slots 0 state Idle rest.some

idle_again : (port : PortTold) (state : SlotState) (slot : ℕ) → IsAtRest port → get_or (set (set port.slots 0 state) 0 Idle) slot Idle ≡ Idle
idle_again port state slot rest = go (slot == 0) refl
  where
    At : ℕ → Type 0
    At i = get_or (set (set port.slots 0 state) 0 Idle) i Idle ≡ Idle

    within : 0 < length (set port.slots 0 state)
    within = subst (λ (n : ℕ). 0 < n) (sym (length-set port.slots 0 state)) rest.some

    go : (test : Bool) → (slot == 0) ≡ test → At slot
    go true e = subst At (sym (eqb-true slot 0 e)) (get_or-set_same (set port.slots 0 state) 0 Idle Idle within)
    go false e =
        get_or-set_other (set port.slots 0 state) 0 slot Idle Idle (eqb-false slot 0 e)
        ∙ get_or-set_other port.slots 0 slot state Idle (eqb-false slot 0 e) ∙ rest.idle slot

some_again : (port : PortTold) (state : SlotState) → IsAtRest port → 0 < length (set (set port.slots 0 state) 0 Idle)
some_again port state rest = subst (λ (n : ℕ). 0 < n) (sym (length-set (set port.slots 0 state) 0 Idle ∙ length-set port.slots 0 state)) rest.some

-- ---- a write

pub rest_after_write : (port after : PortTold) (page : ℕ) (bytes : List ℕ) → IsAtRest port → Saves (with_state port 0 (AskedWrite page bytes)) after 0 (slot_state (with_state port 0 (AskedWrite page bytes)) 0) → IsAtRest after
rest_after_write port after page bytes rest saves =
    let left : after ≡ after_write (with_state port 0 (AskedWrite page bytes)) 0 page bytes =
    subst (Saves (with_state port 0 (AskedWrite page bytes)) after 0) (state_here port (AskedWrite page bytes) rest) saves in
    subst IsAtRest (sym left) (record { some = some_again port (AskedWrite page bytes) rest; idle = λ slot. idle_again port (AskedWrite page bytes) slot rest })

some_transfers : (transfers : List Transfer) (transfer : Transfer) → has_transfers (transfers ++ transfer ∷ []) ≡ true
some_transfers [] transfer = refl
some_transfers (first ∷ transfers) transfer = refl

held_now : (port : PortTold) (page : ℕ) (bytes : List ℕ) → is_held (after_write (with_state port 0 (AskedWrite page bytes)) 0 page bytes) page ≡ true
held_now port page bytes = rw (eq-eqb page page refl) (some_transfers (port.finished page) (Wrote page bytes))

-- a page that was written may be read
pub rest_reads : (port after : PortTold) (page : ℕ) (bytes : List ℕ) → IsAtRest port → IsTrue (port.takes page) → Saves (with_state port 0 (AskedWrite page bytes)) after 0 (slot_state (with_state port 0 (AskedWrite page bytes)) 0) → CanRead after 0 page
rest_reads port after page bytes rest taken saves =
    let left : after ≡ after_write (with_state port 0 (AskedWrite page bytes)) 0 page bytes =
    subst (Saves (with_state port 0 (AskedWrite page bytes)) after 0) (state_here port (AskedWrite page bytes) rest) saves in
    let resting = rest_after_write port after page bytes rest saves in
    record {
      can_ask = rest_asks after page resting (subst (λ (p : PortTold). IsTrue (p.takes page)) (sym left) taken);
      held = subst (λ (p : PortTold). IsTrue (is_held p page)) (sym left) (held_now port page bytes);
    }

pub same_after_write : (port after : PortTold) (page : ℕ) (bytes : List ℕ) → IsAtRest port → Saves (with_state port 0 (AskedWrite page bytes)) after 0 (slot_state (with_state port 0 (AskedWrite page bytes)) 0) → StaysAtRest port after
same_after_write port after page bytes rest saves =
    let left : after ≡ after_write (with_state port 0 (AskedWrite page bytes)) 0 page bytes =
    subst (Saves (with_state port 0 (AskedWrite page bytes)) after 0) (state_here port (AskedWrite page bytes) rest) saves in
    record {
      rest = rest_after_write port after page bytes rest saves;
      takes = ap (λ (p : PortTold). p.takes) left;
      page_bytes = ap (λ (p : PortTold). p.page_bytes) left;
    }

-- ---- a read

pub same_after_read : (port after : PortTold) (page : ℕ) (bytes : List ℕ) → IsAtRest port → Brings (with_state port 0 (AskedRead page)) after 0 bytes (slot_state (with_state port 0 (AskedRead page)) 0) → StaysAtRest port after
same_after_read port after page bytes rest brings =
    let came = subst (Brings (with_state port 0 (AskedRead page)) after 0 bytes) (state_here port (AskedRead page) rest) brings in
    let left : after ≡ after_read (with_state port 0 (AskedRead page)) 0 page bytes = came.1 in
    record {
      rest = subst IsAtRest (sym left) (record { some = some_again port (AskedRead page) rest; idle = λ slot. idle_again port (AskedRead page) slot rest });
      takes = ap (λ (p : PortTold). p.takes) left;
      page_bytes = ap (λ (p : PortTold). p.page_bytes) left;
    }

pub stays_twice : (before between after : PortTold) → StaysAtRest before between → StaysAtRest between after → StaysAtRest before after
stays_twice before between after first second =
    record { rest = second.rest; takes = second.takes ∙ first.takes; page_bytes = second.page_bytes ∙ first.page_bytes }

-- ---- a transfer that wasn't done

came_to : (before after : PortTold) (slot : ℕ) (state : SlotState) → slot < length before.slots → after.slots ≡ set before.slots slot state → slot_state after slot ≡ state
came_to before after slot state within slots = ap (λ (l : List SlotState). get_or l slot Idle) slots ∙ get_or-set_same before.slots slot state Idle within

module _ (before after : PortTold) (slot page : ℕ) (within : slot < length before.slots) where
  -- a slot that was asked for a read is asked for one still, or stopped for good
  pub still_read : (old new : List ℕ) (wait : PortWait) → slot_state before slot ≡ AskedRead page → Finishes before after slot old new (Err wait) → IsAskedRead after slot
  still_read old new waits.Pending is left =
      let under_way = subst (Waits before after) is left.1 in
      let now : slot_state after slot ≡ AskedRead page = ap (λ (p : PortTold). slot_state p slot) under_way.0 ∙ is in
      record { asked = ap is_idle now; no_write = ap is_asked_write now }
  still_read old new waits.Failed is left =
      let failed = subst (Fails before after slot) is left in
      let now = came_to before after slot (HasFailed page) within (ap (λ (p : PortTold). p.slots) failed) in
      record { asked = ap is_idle now; no_write = ap is_asked_write now }
  still_read old new (waits.Damaged damage) is left =
      let spoiled = subst (Spoils before after slot damage) is left in
      let now = came_to before after slot (IsDamaged damage) within (ap (λ (p : PortTold). p.slots) spoiled.1.left) in
      record { asked = ap is_idle now; no_write = ap is_asked_write now }

  -- a slot that was asked for a write is asked still, or failed
  pub still_written : (bytes old new : List ℕ) (wait : PortWait) → slot_state before slot ≡ AskedWrite page bytes → Finishes before after slot old new (Err wait) → IsAsked after slot
  still_written bytes old new waits.Pending is left =
      let under_way = subst (Waits before after) is left.1 in
      ap is_idle (ap (λ (p : PortTold). slot_state p slot) under_way.0 ∙ is)
  still_written bytes old new waits.Failed is left =
      let failed = subst (Fails before after slot) is left in
      ap is_idle (came_to before after slot (HasFailed page) within (ap (λ (p : PortTold). p.slots) failed.1))
  still_written bytes old new (waits.Damaged damage) is left = absurd (subst (Spoils before after slot damage) is left)

-- ---- what is answered to an asked slot

-- of a slot that was asked for a write, that it wrote
only_wrote_of : (before after : PortTold) (slot page : ℕ) (bytes old new : List ℕ) (done : Ready) → slot_state before slot ≡ AskedWrite page bytes → Finishes before after slot old new (Ok done) → Saves before after slot (slot_state before slot)
only_wrote_of before after slot page bytes old new ready.Read is left = absurd (subst (Brings before after slot new) is left)
only_wrote_of before after slot page bytes old new ready.Wrote is left = left.1

pub only_wrote : (told before after : PortTold) (slot page : ℕ) (bytes old new : List ℕ) (done : Ready) → told ≡ before → slot_state before slot ≡ AskedWrite page bytes → Finishes told after slot old new (Ok done) → Saves before after slot (slot_state before slot)
only_wrote told before after slot page bytes old new done same is left =
    only_wrote_of before after slot page bytes old new done is (subst (λ (p : PortTold). Finishes p after slot old new (Ok done)) same left)

-- and of one that was asked for a read, that it read
only_read_of : (before after : PortTold) (slot page : ℕ) (old new : List ℕ) (done : Ready) → slot_state before slot ≡ AskedRead page → Finishes before after slot old new (Ok done) → Brings before after slot new (slot_state before slot)
only_read_of before after slot page old new ready.Read is left = left
only_read_of before after slot page old new ready.Wrote is left = absurd (subst (Saves before after slot) is left.1)

pub only_read : (told before after : PortTold) (slot page : ℕ) (old new : List ℕ) (done : Ready) → told ≡ before → slot_state before slot ≡ AskedRead page → Finishes told after slot old new (Ok done) → Brings before after slot new (slot_state before slot)
only_read told before after slot page old new done same is left =
    only_read_of before after slot page old new done is (subst (λ (p : PortTold). Finishes p after slot old new (Ok done)) same left)

-- what came of a call that didn't bring the page back
pub comes_not : (before after : PortTold) (went : Went) → IsNotBack went → Comes before after went
comes_not before after wents.Back none = absurd none
comes_not before after (wents.NotWritten _ _) none = tt
comes_not before after (wents.NotRead _ _) none = tt

-- a port that is ready, after a page came back
pub ready_again : (before after : PortTold) (page_bytes : ℕ) → IsReady before page_bytes → StaysAtRest before after → IsReady after page_bytes
ready_again before after page_bytes ready stays =
    record {
      rest = stays.rest;
      taken = subst (λ (t : ℕ → Bool). IsTrue (t 1)) (sym stays.takes) ready.taken;
      long = stays.page_bytes ∙ ready.long;
    }
