-- A port that keeps the digest of each page that is written, and compares with it what comes back.
use Rattle.std.specs.Prelude.{◌≡◌, ◌≢◌, ◌⊎◌, ◌==◌, ◌++◌, ◌∷◌, ℕ, List, [], length, get_or, set, Bool, false, IsTrue, is_some, IsSome, Option, Some, None, IfSome, Result, Ok, Err}
use Rattle.std.specs.Option.{option_map}
use Rattle.mage_base.specs.declared.failure.Damage.{Damage}
use Rattle.mage_base.specs.Store.{Pages, Transfer, Wrote, Answered}
use Rattle.sha2.specs.Sha256.{sha256}
use Rattle.mage_port.specs.Port.{PortTold, SlotState, Transfers, Idle, AskedRead, AskedWrite, HasFailed, IsDamaged, slot_state, has_page, has_transfers, last_written}
use Rattle.mage_port.specs.declared.ready.Ready.{Ready}
use Rattle.mage_port.specs.declared.ready.Ready.TheVariants as ready
use Rattle.mage_port.specs.declared.ready.PortWait.{PortWait}
use Rattle.mage_port.specs.declared.ready.PortWait.TheVariants as waits
use Rattle.mage_store.specs.declared.watch.Watch.{Watch}
use Rattle.mage_store.specs.Seals.{Digests, digest_of}

-- the port below, for each slot the page that it was asked to read and the damage found, and the digests that are kept
pub record SealedState (P : Type 0) : Type 0 where
  pub port : P
  pub watches : List Watch
  pub seals : List (ℕ × List ℕ)

-- a slot that wasn't asked for a read yet
abbrev pub no_watch : Watch
no_watch = record { page = 0; damage = None }

-- ---- what the port tells

-- what a slot of the port below is doing, or that damage was found
abbrev pub watched_by : Option Damage → SlotState → SlotState
watched_by None state = state
watched_by (Some damage) state = IsDamaged damage

abbrev pub watched : Watch → SlotState → SlotState
watched watch state = watched_by watch.damage state

-- the same of all slots
abbrev pub all_watched : List Watch → List SlotState → List SlotState
all_watched watches [] = []
all_watched [] (state ∷ states) = state ∷ states
all_watched (watch ∷ watches) (state ∷ states) = watched watch state ∷ all_watched watches states

-- what the port tells, where the port below tells this: it takes the pages that have room for a digest
abbrev pub sealed_told : (below : PortTold) → List Watch → Digests → PortTold
sealed_told below watches digests =
    record below {
      slots = all_watched watches below.slots;
      takes = λ page. is_some (digests page);
    }

-- the same over a port that tells by this
abbrev pub port_told : {P : Type 0} → (tells : P → PortTold) → SealedState P → PortTold
port_told tells port = sealed_told (tells port.port) port.watches (digest_of port.seals)

-- ---- what it keeps

-- each read was answered with a page that has the digest of what was last written, by these transfers
abbrev pub AreSealedAfter : (written : List ℕ) → List Transfer → Type 0
AreSealedAfter written [] = Unit {0}
AreSealedAfter written (Wrote _ bytes ∷ later) = AreSealedAfter bytes later
AreSealedAfter written (Answered _ bytes ∷ later) = (sha256 bytes ≡ sha256 written) × AreSealedAfter written later

abbrev pub AreSealed : List Transfer → Type 0
AreSealed transfers = AreSealedAfter [] transfers

-- The last of these transfers is a read that was answered with the digest found, where the last write before it has the
-- digest kept, which is another. All before that is sealed.
pub record EndInDamage (damage : Damage) (transfers : List Transfer) : Type 0 where
  pub before : List Transfer
  pub bytes : List ℕ
  pub is : transfers ≡ before ++ Answered damage.page bytes ∷ []
  pub sealed : AreSealed before
  pub kept : damage.kept ≡ sha256 (last_written before)
  pub found : damage.found ≡ sha256 bytes
  pub differs : damage.kept ≢ damage.found

-- the digest of a page, and where it is told what the page holds, are those of what was last written to it
pub record IsKept (transfers : List Transfer) (held : Option (List ℕ)) (digest : Option (List ℕ)) : Type 0 where
  pub digest_is : digest ≡ Some (sha256 (last_written transfers))
  pub held_is : IfSome held (λ bytes. bytes ≡ last_written transfers)

-- what a page holds, where pages are told
abbrev pub held_in : Option Pages → (page : ℕ) → Option (List ℕ)
held_in pages page = option_map (λ told. told page) pages

-- what is kept of the page of a slot in this state
abbrev pub KeepsState : Transfers → Option Pages → Digests → SlotState → Type 0
KeepsState finished pages digests Idle = Unit {0}
KeepsState finished pages digests (AskedRead page) = IsKept (finished page) (held_in pages page) (digests page)
KeepsState finished pages digests (AskedWrite page bytes) = digests page ≡ Some (sha256 bytes)
KeepsState finished pages digests (HasFailed _) = Unit {0}
KeepsState finished pages digests (IsDamaged damage) = EndInDamage damage (finished damage.page)

-- whether a slot in this state found damage of this page
abbrev pub is_damaged_at : (page : ℕ) → SlotState → Bool
is_damaged_at page Idle = false
is_damaged_at page (AskedRead _) = false
is_damaged_at page (AskedWrite _ _) = false
is_damaged_at page (HasFailed _) = false
is_damaged_at page (IsDamaged damage) = damage.page == page

-- the states of slots, by their numbers
abbrev pub States : Type 0
States = ℕ → SlotState

-- no slot has the page
abbrev pub IsFree : States → (page : ℕ) → Type 0
IsFree states page = (slot : ℕ) → has_page page (states slot) ≡ false

abbrev pub IsUndamaged : States → (page : ℕ) → Type 0
IsUndamaged states page = (slot : ℕ) → is_damaged_at page (states slot) ≡ false

-- What is kept while these slots, with these finished transfers and pages, are used.
pub record AreKept (states : States) (finished : Transfers) (pages : Option Pages) (digests : Digests) : Type 0 where
  -- of the page of each slot, and of each page that no slot has
  pub slots : (slot : ℕ) → KeepsState finished pages digests (states slot)
  pub free : (page : ℕ) → IsFree states page → IsTrue (has_transfers (finished page)) → IsKept (finished page) (held_in pages page) (digests page)
  -- a page whose damage wasn't found is sealed
  pub sealed : (page : ℕ) → IsUndamaged states page → AreSealed (finished page)
  -- no two slots have one page
  pub apart : (page slot other : ℕ) → slot ≢ other → IsTrue (has_page page (states slot)) → has_page page (states other) ≡ false

-- How the slots that are watched stand to those of the port below.
pub record Watches (states : List SlotState) (takes : ℕ → Bool) (watches : List Watch) (digests : Digests) : Type 0 where
  pub count : length watches ≡ length states
  pub asked : (slot page : ℕ) → get_or states slot Idle ≡ AskedRead page → (get_or watches slot no_watch).page ≡ page
  pub idle : (slot : ℕ) → IsSome (get_or watches slot no_watch).damage → get_or states slot Idle ≡ Idle
  pub taken : (page : ℕ) → IsSome (digests page) → IsTrue (takes page)

-- what holds of a sealed port
pub record IsSealed (below : PortTold) (watches : List Watch) (digests : Digests) : Type 0 where
  pub watch : Watches below.slots below.takes watches digests
  pub kept : AreKept (slot_state (sealed_told below watches digests)) below.finished below.pages digests

-- ---- what a call does

-- these bytes of the page don't have the digest that is kept
pub record IsDamageOf (kept : List ℕ) (page : ℕ) (bytes : List ℕ) (damage : Damage) : Type 0 where
  pub page_is : damage.page ≡ page
  pub kept_is : damage.kept ≡ kept
  pub found : damage.found ≡ sha256 bytes
  pub differs : damage.kept ≢ damage.found

-- A page that came back is compared with the digest that is kept of it, and damage is noted.
abbrev pub Judges : (digest : Option (List ℕ)) → (bytes : List ℕ) → (before after : List Watch) → (slot : ℕ) → Result Ready PortWait → Type 0
Judges digest bytes before after slot (Ok ready.Read) = IfSome digest (λ kept. kept ≡ sha256 bytes) × (after ≡ before)
Judges digest bytes before after slot (Ok ready.Wrote) = ⊥
Judges digest bytes before after slot (Err waits.Pending) = ⊥
Judges digest bytes before after slot (Err waits.Failed) = ⊥
Judges digest bytes before after slot (Err (waits.Damaged damage)) =
    IfSome digest (λ kept. IsDamageOf kept (get_or before slot no_watch).page bytes damage)
    × (after ≡ set before slot (record (get_or before slot no_watch) { damage = Some damage }))

-- a page that a slot was asked to read has the digest of what was last written to it
abbrev pub HasSealOf : (before : PortTold) → (bytes : List ℕ) → SlotState → Type 0
HasSealOf before bytes Idle = Unit {0}
HasSealOf before bytes (AskedRead page) = sha256 bytes ≡ sha256 (last_written (before.finished page))
HasSealOf before bytes (AskedWrite _ _) = Unit {0}
HasSealOf before bytes (HasFailed _) = Unit {0}
HasSealOf before bytes (IsDamaged _) = Unit {0}

-- so has one that is answered to be read
abbrev pub BringsSealed : (before : PortTold) → (slot : ℕ) → (bytes : List ℕ) → Result Ready PortWait → Type 0
BringsSealed before slot bytes (Ok ready.Read) = HasSealOf before bytes (slot_state before slot)
BringsSealed before slot bytes (Ok ready.Wrote) = Unit {0}
BringsSealed before slot bytes (Err _) = Unit {0}

-- ---- what the port below is left with

-- what a slot is doing is what it does in the port below, or there it is idle and damage was found
abbrev pub IsOver : (above below : SlotState) → Type 0
IsOver above below = (above ≡ below) ⊎ ((damage : Damage) × (above ≡ IsDamaged damage) × (below ≡ Idle))

-- How what a sealed port tells stands to what the port below tells: the lists of finished transfers are one.
pub record StandsOver (above below : PortTold) : Type 0 where
  pub same : above ≡ record below { slots = above.slots; takes = above.takes }
  pub slots : (slot : ℕ) → IsOver (slot_state above slot) (slot_state below slot)
  pub sealed : (page : ℕ) → IsUndamaged (slot_state above) page → AreSealed (below.finished page)
  pub damaged : (slot : ℕ) (damage : Damage) → slot_state above slot ≡ IsDamaged damage → EndInDamage damage (below.finished damage.page)
