-- The slots of a port beside those of the verifier, and what each has in flight.
use Rattle.std.proofs.Common.{◌≡◌, ◌≢◌, ◌<◌, ℕ, Bool, true, false, cond, length, get_or, set, nat_eq, Some, refl, sym, ap, ◌∙◌, subst, inl, inr}
use Rattle.std.proofs.lemmas.Bool.{eqb-true, eqb-false, eq-eqb, ne_eqb, cases_lt}
use Rattle.std.proofs.lemmas.List.{get_or-set_same, get_or-set_other, get_or_past}
use mathlib.Core.Path.{fun_ext}
use Rattle.mage_network.specs.Network.{put}
use Rattle.mage_port.specs.Port.{PortTold, SlotState, Idle, AskedRead, AskedWrite, HasFailed, IsDamaged, slot_state, with_state, has_page}
use Rattle.mage_verify.specs.declared.slot.Slot.{Slot}
use Rattle.mage_verify.specs.declared.slot.Slot.TheVariants as does
use Rattle.mage_verify.specs.Runs.{IsStill}
use Rattle.mage_verify.specs.State.{State, with_slot}
use Rattle.mage_engine.specs.Seen.{flight_of, flights_in}
use Rattle.mage_engine.specs.Ready.{does_of}

pub same_test : (a b : ℕ) → nat_eq a b ≡ nat_eq b a
same_test a b = go (nat_eq a b) (nat_eq b a) refl refl
  where
    go : (x y : Bool) → nat_eq a b ≡ x → nat_eq b a ≡ y → nat_eq a b ≡ nat_eq b a
    go true y e f = e ∙ sym (eq-eqb b a (sym (eqb-true a b e)))
    go false true e f = eq-eqb a b (sym (eqb-true b a f)) ∙ sym f
    go false false e f = e ∙ sym f

-- ---- one slot changes

slot_after : (port : PortTold) (slot s : ℕ) (state : SlotState) → slot < length port.slots →
    slot_state (with_state port slot state) s ≡ cond (nat_eq slot s) state (slot_state port s)
slot_after port slot s state within = go (nat_eq slot s) refl
  where
    go : (b : Bool) → nat_eq slot s ≡ b → get_or (set port.slots slot state) s Idle ≡ cond b state (get_or port.slots s Idle)
    go true e = subst (λ k. get_or (set port.slots slot state) k Idle ≡ state) (eqb-true slot s e) (get_or-set_same port.slots slot state Idle within)
    go false e = get_or-set_other port.slots slot s state Idle (λ other. eqb-false slot s e (sym other))

pub flights_after : (port : PortTold) (slot : ℕ) (state : SlotState) → slot < length port.slots →
    flights_in (with_state port slot state) ≡ put (flights_in port) slot (flight_of state)
flights_after port slot state within = fun_ext (λ s. ap flight_of (slot_after port slot s state within) ∙ go s (nat_eq slot s))
  where
    go : (s : ℕ) (b : Bool) → flight_of (cond b state (slot_state port s)) ≡ cond b (flight_of state) (flights_in port s)
    go s true = refl
    go s false = refl

pub does_after : (port : PortTold) (slot : ℕ) (state : SlotState) (now : Slot) (slots : ℕ → Slot) → slot < length port.slots →
    does_of state ≡ Some now → ((s : ℕ) → does_of (slot_state port s) ≡ Some (slots s)) →
    (s : ℕ) → does_of (slot_state (with_state port slot state) s) ≡ Some (with_slot slot now slots s)
does_after port slot state now slots within is are s =
    ap does_of (slot_after port slot s state within) ∙ go (nat_eq slot s)
    ∙ ap (λ b. Some (cond b now (slots s))) (same_test slot s)
  where
    go : (b : Bool) → does_of (cond b state (slot_state port s)) ≡ Some (cond b now (slots s))
    go true = is
    go false = are s

-- ---- what the verifier says of a slot

pub idle_when : (state : SlotState) → does_of state ≡ Some does.Idle → state ≡ Idle
idle_when Idle e = refl
idle_when (AskedRead page) e = absurd cc
idle_when (AskedWrite page bytes) e = absurd cc
idle_when (HasFailed page) e = absurd cc
idle_when (IsDamaged damage) e = absurd cc

pub reading_when : (state : SlotState) (page : ℕ) → does_of state ≡ Some (does.Reading page) → state ≡ AskedRead page
reading_when Idle page e = absurd cc
reading_when (AskedRead asked) page e = let same : asked ≡ page = cc in ap AskedRead same
reading_when (AskedWrite asked bytes) page e = absurd cc
reading_when (HasFailed asked) page e = absurd cc
reading_when (IsDamaged damage) page e = absurd cc

pub writing_when : (state : SlotState) (page : ℕ) → does_of state ≡ Some (does.Writing page) → (bytes : _) × (state ≡ AskedWrite page bytes)
writing_when Idle page e = absurd cc
writing_when (AskedRead asked) page e = absurd cc
writing_when (AskedWrite asked bytes) page e = let same : asked ≡ page = cc in (bytes, ap (λ p. AskedWrite p bytes) same)
writing_when (HasFailed asked) page e = absurd cc
writing_when (IsDamaged damage) page e = absurd cc

-- a page that no slot of the verifier names is one that no slot has
module _ (port : PortTold) (state : State) (page : ℕ) (still : IsStill (length port.slots) state page)
    (are : (s : ℕ) → does_of (slot_state port s) ≡ Some (state.slot s)) where
  apart : (s asked : ℕ) (now : Slot) → s < length port.slots → now ≡ state.slot s → (now ≡ does.Reading page → ⊥) × (now ≡ does.Writing page → ⊥)
  apart s asked now within is =
      let both = still s within in
      (λ e. both.0 (sym is ∙ e), λ e. both.1 (sym is ∙ e))

  inside : (s : ℕ) (state' : SlotState) → slot_state port s ≡ state' → state' ≢ Idle → s < length port.slots
  inside s state' is busy = elim (cases_lt s (length port.slots)) [ inl less ↦ less | inr past ↦ absurd (busy (sym is ∙ get_or_past port.slots s Idle past)) ]

  pub free_so : (s : ℕ) → has_page page (slot_state port s) ≡ false
  free_so s = go (slot_state port s) refl (are s)
    where
      go : (state' : SlotState) → slot_state port s ≡ state' → does_of state' ≡ Some (state.slot s) → has_page page state' ≡ false
      go Idle is e = refl
      go (AskedRead asked) is e =
          let now : does.Reading asked ≡ state.slot s = cc in
          let within = inside s (AskedRead asked) is (λ f. absurd cc) in
          ne_eqb asked page (λ same. (apart s asked (does.Reading asked) within now).0 (ap does.Reading same))
      go (AskedWrite asked bytes) is e =
          let now : does.Writing asked ≡ state.slot s = cc in
          let within = inside s (AskedWrite asked bytes) is (λ f. absurd cc) in
          ne_eqb asked page (λ same. (apart s asked (does.Writing asked) within now).1 (ap does.Writing same))
      go (HasFailed asked) is e = absurd cc
      go (IsDamaged damage) is e = absurd cc
