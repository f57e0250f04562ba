-- What a sealed port keeps while its slots are used.
use Rattle.std.proofs.Common.{◌≡◌, ◌≢◌, ◌∙◌, sym, subst, refl, ℕ, List, [], ◌∷◌, ◌++◌, Bool, true, false, IsTrue, Option, Some, None, IfSome}
use Rattle.std.specs.Prelude.{◌==◌, if◌then◌else◌}
use Rattle.std.specs.Option.{option_map}
use Rattle.std.proofs.lemmas.Bool.{eq-eqb, eqb-true}
use Rattle.mage_base.specs.Store.{Pages, Transfer, Wrote, Answered, with_page}
use Rattle.sha2.specs.Sha256.{sha256}
use Rattle.mage_port.specs.Port.{SlotState, Transfers, Idle, AskedRead, AskedWrite, HasFailed, IsDamaged, has_page, has_transfers, last_written_after, with_transfer}
use Rattle.mage_store.specs.Seals.{Digests}
use Rattle.mage_store.specs.SealedPort.{AreSealed, AreSealedAfter, EndInDamage, IsKept, held_in, KeepsState, is_damaged_at, States, IsFree, IsUndamaged, AreKept}

-- ---- one place of a function

-- a function that is given anew at one place
abbrev pub put : {X : Type 0} → (ℕ → X) → (place : ℕ) → X → ℕ → X
put each place x other = if other == place then x else each other

pub put_here : {X : Type 0} (each : ℕ → X) (place : ℕ) (x : X) → put each place x place ≡ x
put_here each place x = rw (eq-eqb place place refl) refl

pub put_same : {X : Type 0} (each : ℕ → X) (place : ℕ) (x : X) (other : ℕ) → (other == place) ≡ true → put each place x other ≡ x
put_same each place x other same = rw same refl

pub put_other : {X : Type 0} (each : ℕ → X) (place : ℕ) (x : X) (other : ℕ) → (other == place) ≡ false → put each place x other ≡ each other
put_other each place x other apart = rw apart refl

at_test : {X : Type 0} (P : ℕ → X → Type 0) (each : ℕ → X) (place : ℕ) (x : X) (other : ℕ) (test : Bool) → (other == place) ≡ test → P place x → ((other == place) ≡ false → P other (each other)) → P other (if test then x else each other)
at_test P each place x other true is here there = subst (λ (n : ℕ). P n x) (sym (eqb-true other place is)) here
at_test P each place x other false is here there = there is

-- what holds of the new value there, and of the others, holds everywhere
pub put_each : {X : Type 0} (P : ℕ → X → Type 0) (each : ℕ → X) (place : ℕ) (x : X) → P place x → ((other : ℕ) → (other == place) ≡ false → P other (each other)) → (other : ℕ) → P other (put each place x other)
put_each P each place x here there other = at_test P each place x other (other == place) refl here (there other)

-- ---- transfers

pub last_written-wrote : (before : List ℕ) (transfers : List Transfer) (page : ℕ) (bytes : List ℕ) → last_written_after before (transfers ++ Wrote page bytes ∷ []) ≡ bytes
last_written-wrote before [] page bytes = refl
last_written-wrote before (Wrote _ written ∷ later) page bytes = last_written-wrote written later page bytes
last_written-wrote before (Answered _ _ ∷ later) page bytes = last_written-wrote before later page bytes

pub last_written-answered : (before : List ℕ) (transfers : List Transfer) (page : ℕ) (bytes : List ℕ) → last_written_after before (transfers ++ Answered page bytes ∷ []) ≡ last_written_after before transfers
last_written-answered before [] page bytes = refl
last_written-answered before (Wrote _ written ∷ later) page bytes = last_written-answered written later page bytes
last_written-answered before (Answered _ _ ∷ later) page bytes = last_written-answered before later page bytes

pub sealed-wrote : (before : List ℕ) (transfers : List Transfer) (page : ℕ) (bytes : List ℕ) → AreSealedAfter before transfers → AreSealedAfter before (transfers ++ Wrote page bytes ∷ [])
sealed-wrote before [] page bytes sealed = tt
sealed-wrote before (Wrote _ written ∷ later) page bytes sealed = sealed-wrote written later page bytes sealed
sealed-wrote before (Answered _ _ ∷ later) page bytes sealed = (sealed.0, sealed-wrote before later page bytes sealed.1)

pub sealed-answered : (before : List ℕ) (transfers : List Transfer) (page : ℕ) (bytes : List ℕ) → AreSealedAfter before transfers → sha256 bytes ≡ sha256 (last_written_after before transfers) → AreSealedAfter before (transfers ++ Answered page bytes ∷ [])
sealed-answered before [] page bytes sealed same = (same, tt)
sealed-answered before (Wrote _ written ∷ later) page bytes sealed same = sealed-answered written later page bytes sealed same
sealed-answered before (Answered _ _ ∷ later) page bytes sealed same = (sealed.0, sealed-answered before later page bytes sealed.1 same)

-- a page that had one transfer more
pub with_transfer-here : (finished : Transfers) (page : ℕ) (transfer : Transfer) → with_transfer finished page transfer page ≡ finished page ++ transfer ∷ []
with_transfer-here finished page transfer = rw (eq-eqb page page refl) refl

pub with_transfer-other : (finished : Transfers) (page : ℕ) (transfer : Transfer) (other : ℕ) → (other == page) ≡ false → with_transfer finished page transfer other ≡ finished other
with_transfer-other finished page transfer other apart = rw apart refl

pub held-here : (pages : Option Pages) (page : ℕ) (bytes : List ℕ) → IfSome (held_in (option_map (λ told. with_page told page bytes) pages) page) (λ held. held ≡ bytes)
held-here None page bytes = tt
held-here (Some told) page bytes = rw (eq-eqb page page refl) refl

pub held-other : (pages : Option Pages) (page : ℕ) (bytes : List ℕ) (other : ℕ) → (other == page) ≡ false → held_in (option_map (λ told. with_page told page bytes) pages) other ≡ held_in pages other
held-other None page bytes other apart = refl
held-other (Some told) page bytes other apart = rw apart refl

-- ---- one slot

-- what is kept of the state of a slot, where nothing of its page changed
same_state : (finished finished' : Transfers) (pages pages' : Option Pages) (digests digests' : Digests) (page : ℕ) → ((other : ℕ) → (other == page) ≡ false → finished' other ≡ finished other) → ((other : ℕ) → (other == page) ≡ false → held_in pages' other ≡ held_in pages other) → ((other : ℕ) → (other == page) ≡ false → digests' other ≡ digests other) → (state : SlotState) → has_page page state ≡ false → KeepsState finished pages digests state → KeepsState finished' pages' digests' state
same_state finished finished' pages pages' digests digests' page f p d Idle apart keeps = tt
same_state finished finished' pages pages' digests digests' page f p d (AskedRead q) apart keeps =
    subst (λ (l : List Transfer). IsKept l (held_in pages' q) (digests' q)) (sym (f q apart))
    (subst (λ (h : Option (List ℕ)). IsKept (finished q) h (digests' q)) (sym (p q apart))
    (subst (λ (g : Option (List ℕ)). IsKept (finished q) (held_in pages q) g) (sym (d q apart)) keeps))
same_state finished finished' pages pages' digests digests' page f p d (AskedWrite q bytes) apart keeps = d q apart ∙ keeps
same_state finished finished' pages pages' digests digests' page f p d (HasFailed _) apart keeps = tt
same_state finished finished' pages pages' digests digests' page f p d (IsDamaged damage) apart keeps =
    subst (λ (l : List Transfer). EndInDamage damage l) (sym (f damage.page apart)) keeps

pub undamaged : (state : SlotState) (page : ℕ) → has_page page state ≡ false → is_damaged_at page state ≡ false
undamaged Idle page apart = refl
undamaged (AskedRead _) page apart = refl
undamaged (AskedWrite _ _) page apart = refl
undamaged (HasFailed _) page apart = refl
undamaged (IsDamaged _) page apart = apart

-- a page and another that a state has differ
pages_differ : (state : SlotState) (page other : ℕ) → has_page page state ≡ false → IsTrue (has_page other state) → (other == page) ≡ false
pages_differ Idle page other apart has = cc
pages_differ (AskedRead q) page other apart has = rw (sym (eqb-true q other has)) apart
pages_differ (AskedWrite q _) page other apart has = rw (sym (eqb-true q other has)) apart
pages_differ (HasFailed q) page other apart has = rw (sym (eqb-true q other has)) apart
pages_differ (IsDamaged damage) page other apart has = rw (sym (eqb-true damage.page other has)) apart

-- ---- one move

-- The slot comes into this state, and nothing changes but what is kept of this page, which it had or which no slot had.
pub record Moves (states : States) (finished finished' : Transfers) (pages pages' : Option Pages) (digests digests' : Digests) (slot page : ℕ) (state : SlotState) : Type 0 where
  pub others : (other : ℕ) → (other == slot) ≡ false → has_page page (states other) ≡ false
  pub was : (other : ℕ) → (other == page) ≡ false → has_page other (states slot) ≡ false
  pub is : (other : ℕ) → (other == page) ≡ false → has_page other state ≡ false
  pub same_finished : (other : ℕ) → (other == page) ≡ false → finished' other ≡ finished other
  pub same_pages : (other : ℕ) → (other == page) ≡ false → held_in pages' other ≡ held_in pages other
  pub same_digests : (other : ℕ) → (other == page) ≡ false → digests' other ≡ digests other
  pub here : KeepsState finished' pages' digests' state
  pub free : has_page page state ≡ false → IsTrue (has_transfers (finished' page)) → IsKept (finished' page) (held_in pages' page) (digests' page)
  pub sealed : is_damaged_at page state ≡ false → AreSealed (finished' page)

module _ (states : States) (finished finished' : Transfers) (pages pages' : Option Pages) (digests digests' : Digests) (slot page : ℕ) (state : SlotState) (kept : AreKept states finished pages digests) (move : Moves states finished finished' pages pages' digests digests' slot page state) where
  free_before : (other : ℕ) → (other == page) ≡ false → IsFree (put states slot state) other → IsFree states other
  free_before other apart free j = go (j == slot) refl
    where
      go : (test : Bool) → (j == slot) ≡ test → has_page other (states j) ≡ false
      go true e = subst (λ (i : ℕ). has_page other (states i) ≡ false) (sym (eqb-true j slot e)) (move.was other apart)
      go false e = subst (λ (s : SlotState). has_page other s ≡ false) (put_other states slot state j e) (free j)

  undamaged_before : (other : ℕ) → (other == page) ≡ false → IsUndamaged (put states slot state) other → IsUndamaged states other
  undamaged_before other apart whole j = go (j == slot) refl
    where
      go : (test : Bool) → (j == slot) ≡ test → is_damaged_at other (states j) ≡ false
      go true e = subst (λ (i : ℕ). is_damaged_at other (states i) ≡ false) (sym (eqb-true j slot e)) (undamaged (states slot) other (move.was other apart))
      go false e = subst (λ (s : SlotState). is_damaged_at other s ≡ false) (put_other states slot state j e) (whole j)

  free_after : (other : ℕ) → IsFree (put states slot state) other → IsTrue (has_transfers (finished' other)) → IsKept (finished' other) (held_in pages' other) (digests' other)
  free_after other free held = go (other == page) refl
    where
      Kept : ℕ → Type 0
      Kept q = IsKept (finished' q) (held_in pages' q) (digests' q)

      go : (test : Bool) → (other == page) ≡ test → Kept other
      go true e =
          let here : has_page page state ≡ false =
          subst (λ (q : ℕ). has_page q state ≡ false) (eqb-true other page e) (subst (λ (s : SlotState). has_page other s ≡ false) (put_here states slot state) (free slot)) in
          subst Kept (sym (eqb-true other page e)) (move.free here (subst (λ (q : ℕ). IsTrue (has_transfers (finished' q))) (eqb-true other page e) held))
      go false e =
          let before = kept.free other (free_before other e free) (subst (λ (l : List Transfer). IsTrue (has_transfers l)) (move.same_finished other e) held) in
          subst (λ (l : List Transfer). IsKept l (held_in pages' other) (digests' other)) (sym (move.same_finished other e))
          (subst (λ (h : Option (List ℕ)). IsKept (finished other) h (digests' other)) (sym (move.same_pages other e))
          (subst (λ (g : Option (List ℕ)). IsKept (finished other) (held_in pages other) g) (sym (move.same_digests other e)) before))

  sealed_after : (other : ℕ) → IsUndamaged (put states slot state) other → AreSealed (finished' other)
  sealed_after other whole = go (other == page) refl
    where
      go : (test : Bool) → (other == page) ≡ test → AreSealed (finished' other)
      go true e =
          let here : is_damaged_at page state ≡ false =
          subst (λ (q : ℕ). is_damaged_at q state ≡ false) (eqb-true other page e) (subst (λ (s : SlotState). is_damaged_at other s ≡ false) (put_here states slot state) (whole slot)) in
          subst (λ (q : ℕ). AreSealed (finished' q)) (sym (eqb-true other page e)) (move.sealed here)
      go false e = subst AreSealed (sym (move.same_finished other e)) (kept.sealed other (undamaged_before other e whole))

  -- no other slot has a page that the slot comes to have
  apart_here : (other j : ℕ) → (j == slot) ≡ false → IsTrue (has_page other state) → has_page other (states j) ≡ false
  apart_here other j e has = go (other == page) refl
    where
      go : (test : Bool) → (other == page) ≡ test → has_page other (states j) ≡ false
      go true same = subst (λ (q : ℕ). has_page q (states j) ≡ false) (sym (eqb-true other page same)) (move.others j e)
      go false differs = absurd (cc (move.is other differs, has))

  apart_there : (other j : ℕ) → (j == slot) ≡ false → IsTrue (has_page other (states j)) → has_page other state ≡ false
  apart_there other j e has = go (has_page other state) refl
    where
      go : (test : Bool) → has_page other state ≡ test → has_page other state ≡ false
      go true is = absurd (cc (apart_here other j e is, has))
      go false is = is

  apart_after : (other j k : ℕ) → j ≢ k → IsTrue (has_page other (put states slot state j)) → has_page other (put states slot state k) ≡ false
  apart_after other j k differ has = go (j == slot) (k == slot) refl refl
    where
      Has : SlotState → Type 0
      Has s = IsTrue (has_page other s)

      HasNot : SlotState → Type 0
      HasNot s = has_page other s ≡ false

      go : (first second : Bool) → (j == slot) ≡ first → (k == slot) ≡ second → HasNot (put states slot state k)
      go true true e d = absurd (differ (eqb-true j slot e ∙ sym (eqb-true k slot d)))
      go true false e d = subst HasNot (sym (put_other states slot state k d)) (apart_here other k d (subst Has (put_same states slot state j e) has))
      go false true e d = subst HasNot (sym (put_same states slot state k d)) (apart_there other j e (subst Has (put_other states slot state j e) has))
      go false false e d = subst HasNot (sym (put_other states slot state k d)) (kept.apart other j k differ (subst Has (put_other states slot state j e) has))

  pub moves : AreKept (put states slot state) finished' pages' digests'
  moves =
      record {
        slots = put_each (λ i s. KeepsState finished' pages' digests' s) states slot state move.here (λ j e. same_state finished finished' pages pages' digests digests' page move.same_finished move.same_pages move.same_digests (states j) (move.others j e) (kept.slots j));
        free = free_after;
        sealed = sealed_after;
        apart = apart_after;
      }
