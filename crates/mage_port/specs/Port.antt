-- What a port of pages tells, and what its calls ask for and leave.
use Rattle.std.specs.Prelude.{◌≡◌, ◌≢◌, ◌≤◌, ◌<◌, ◌+◌, ◌==◌, ◌∷◌, ◌++◌, ℕ, List, [], length, get_or, set, Bool, true, false, IsTrue, Option, IfSome, IsNone, Result, Ok, Err, if◌then◌else◌}
use Rattle.std.specs.Option.{option_map}
use Rattle.mage_base.specs.declared.failure.Damage.{Damage}
use Rattle.mage_base.specs.Faults.{Rose, top}
use Rattle.mage_base.specs.Store.{StoreTold, Pages, Transfer, Wrote, Answered, with_page}
use Rattle.sha2.specs.Sha256.{sha256}
use Rattle.mage_port.specs.declared.ready.Ready.{Ready}
use Rattle.mage_port.specs.declared.ready.Ready.TheVariants as ready
use Rattle.mage_port.specs.declared.ready.PortWait.{PortWait}
use Rattle.mage_port.specs.declared.ready.PortWait.TheVariants as waits

-- what a slot is doing, with its page: nothing, a read, a write of these bytes, or it stopped for good
pub data SlotState : Type 0 where
  Idle : SlotState
  AskedRead : (page : ℕ) → SlotState
  AskedWrite : (page : ℕ) (bytes : List ℕ) → SlotState
  HasFailed : (page : ℕ) → SlotState
  IsDamaged : (damage : Damage) → SlotState

-- for each page, its finished transfers in order
abbrev pub Transfers : Type 0
Transfers = ℕ → List Transfer

pub record PortTold : Type 0 where
  -- what each slot is doing
  pub slots : List SlotState
  -- the bytes of a page and the pages that the port takes, which no call changes
  pub page_bytes : ℕ
  pub takes : ℕ → Bool
  -- what each page holds that was written, where the stores behind tell it
  pub pages : Option Pages
  -- how many reads and writes were finished, and how often an answer was that a transfer is under way
  pub reads : ℕ
  pub writes : ℕ
  pub waits : ℕ
  -- the finished transfers of each page since the port was made
  pub finished : Transfers
  -- what the stores behind told when they were handed in, where the port has them; no call changes it
  pub handed_in : List StoreTold
  -- whether a transfer fails only on a page past these, or at a count that stands at its greatest value
  pub steady : Bool
  pub page_count : ℕ

-- ---- slots

-- what a slot is doing, which is nothing past the last one
abbrev pub slot_state : PortTold → (slot : ℕ) → SlotState
slot_state port slot = get_or port.slots slot Idle

-- the port with one slot in this state
abbrev pub with_state : PortTold → (slot : ℕ) → SlotState → PortTold
with_state port slot state = record port { slots = set port.slots slot state }

-- whether a slot in this state has this page
abbrev pub has_page : (page : ℕ) → SlotState → Bool
has_page page Idle = false
has_page page (AskedRead asked) = asked == page
has_page page (AskedWrite asked _) = asked == page
has_page page (HasFailed asked) = asked == page
has_page page (IsDamaged damage) = damage.page == page

abbrev pub is_idle : SlotState → Bool
is_idle Idle = true
is_idle (AskedRead _) = false
is_idle (AskedWrite _ _) = false
is_idle (HasFailed _) = false
is_idle (IsDamaged _) = false

abbrev pub is_asked_write : SlotState → Bool
is_asked_write Idle = false
is_asked_write (AskedRead _) = false
is_asked_write (AskedWrite _ _) = true
is_asked_write (HasFailed _) = false
is_asked_write (IsDamaged _) = false

-- ---- pages

-- whether the port holds the page: a transfer of it was finished, of which the first is a write
abbrev pub has_transfers : List Transfer → Bool
has_transfers [] = false
has_transfers (_ ∷ _) = true

abbrev pub is_held : PortTold → (page : ℕ) → Bool
is_held port page = has_transfers (port.finished page)

-- the bytes that were written last by these transfers, or none
abbrev pub last_written_after : (bytes : List ℕ) → List Transfer → List ℕ
last_written_after bytes [] = bytes
last_written_after bytes (Wrote _ written ∷ later) = last_written_after written later
last_written_after bytes (Answered _ _ ∷ later) = last_written_after bytes later

abbrev pub last_written : List Transfer → List ℕ
last_written transfers = last_written_after [] transfers

-- a port of which nothing was asked yet
pub record IsUnused (port : PortTold) : Type 0 where
  pub idle : (slot : ℕ) → slot_state port slot ≡ Idle
  pub empty : (page : ℕ) → port.finished page ≡ []

-- ---- asking

-- a slot may be asked: it is idle, and the page is one that the port takes and that no slot has
pub record CanAsk (port : PortTold) (slot page : ℕ) : Type 0 where
  pub within : slot < length port.slots
  pub idle : slot_state port slot ≡ Idle
  pub taken : IsTrue (port.takes page)
  pub free : (other : ℕ) → has_page page (slot_state port other) ≡ false

-- it may be asked for a read: the page was written
pub record CanRead (port : PortTold) (slot page : ℕ) : Type 0 where
  pub can_ask : CanAsk port slot page
  pub held : IsTrue (is_held port page)

-- it may be asked for a write of these bytes: they are a page
pub record CanWrite (port : PortTold) (slot page : ℕ) (bytes : List ℕ) : Type 0 where
  pub can_ask : CanAsk port slot page
  pub whole : length bytes ≡ port.page_bytes

-- ---- finishing

-- the slot was asked; it may have stopped for good
abbrev pub IsAsked : PortTold → (slot : ℕ) → Type 0
IsAsked port slot = is_idle (slot_state port slot) ≡ false

-- it was asked, and not for a write
pub record IsAskedRead (port : PortTold) (slot : ℕ) : Type 0 where
  pub asked : IsAsked port slot
  pub no_write : is_asked_write (slot_state port slot) ≡ false

-- one transfer more of a page
abbrev pub with_transfer : Transfers → (page : ℕ) → Transfer → Transfers
with_transfer lists page transfer other = if other == page then lists other ++ transfer ∷ [] else lists other

-- the port after a read of this page was finished, which brought these bytes
abbrev pub after_read : PortTold → (slot page : ℕ) → (bytes : List ℕ) → PortTold
after_read port slot page bytes =
    record (with_state port slot Idle) {
      reads = port.reads + 1;
      finished = with_transfer port.finished page (Answered page bytes);
    }

-- the port after a write of these bytes to this page was finished
abbrev pub after_write : PortTold → (slot page : ℕ) → (bytes : List ℕ) → PortTold
after_write port slot page bytes =
    record (with_state port slot Idle) {
      pages = option_map (λ pages. with_page pages page bytes) port.pages;
      writes = port.writes + 1;
      finished = with_transfer port.finished page (Wrote page bytes);
    }

-- A read is finished: where the pages are told, with what was last written to the page.
abbrev pub Brings : (before after : PortTold) → (slot : ℕ) → (bytes : List ℕ) → SlotState → Type 0
Brings before after slot bytes Idle = ⊥
Brings before after slot bytes (AskedRead page) =
    IfSome before.pages (λ pages. bytes ≡ pages page) × (after ≡ after_read before slot page bytes)
Brings before after slot bytes (AskedWrite _ _) = ⊥
Brings before after slot bytes (HasFailed _) = ⊥
Brings before after slot bytes (IsDamaged _) = ⊥

-- a write is finished
abbrev pub Saves : (before after : PortTold) → (slot : ℕ) → SlotState → Type 0
Saves before after slot Idle = ⊥
Saves before after slot (AskedRead _) = ⊥
Saves before after slot (AskedWrite page bytes) = after ≡ after_write before slot page bytes
Saves before after slot (HasFailed _) = ⊥
Saves before after slot (IsDamaged _) = ⊥

-- a transfer is under way, which is counted
abbrev pub IsUnderWay : (before after : PortTold) → Type 0
IsUnderWay before after =
    (after ≡ record before { waits = after.waits }) × (before.waits ≤ after.waits) × Rose before.waits after.waits

abbrev pub Waits : (before after : PortTold) → SlotState → Type 0
Waits before after Idle = ⊥
Waits before after (AskedRead _) = IsUnderWay before after
Waits before after (AskedWrite _ _) = IsUnderWay before after
Waits before after (HasFailed _) = ⊥
Waits before after (IsDamaged _) = ⊥

-- A transfer failed, now or before. After a write that fails, nothing is said of what its page holds.
abbrev pub Fails : (before after : PortTold) → (slot : ℕ) → SlotState → Type 0
Fails before after slot Idle = ⊥
Fails before after slot (AskedRead page) = after ≡ with_state before slot (HasFailed page)
Fails before after slot (AskedWrite page _) =
    (left : List ℕ)
    × (after ≡ record (with_state before slot (HasFailed page)) { pages = option_map (λ pages. with_page pages page left) before.pages })
Fails before after slot (HasFailed _) = after ≡ before
Fails before after slot (IsDamaged _) = ⊥

-- A page came back other than it was written, now or before: the digest of these bytes, which the read brought, isn't
-- that of the bytes last written. That never happens where the pages are told.
pub record Spoiled (before after : PortTold) (slot page : ℕ) (damage : Damage) (bytes : List ℕ) : Type 0 where
  pub untold : IsNone before.pages
  pub of_page : damage.page ≡ page
  pub kept : damage.kept ≡ sha256 (last_written (before.finished page))
  pub found : damage.found ≡ sha256 bytes
  pub differs : damage.kept ≢ damage.found
  pub left : after ≡ record (after_read before slot page bytes) { slots = set before.slots slot (IsDamaged damage) }

abbrev pub Spoils : (before after : PortTold) → (slot : ℕ) → Damage → SlotState → Type 0
Spoils before after slot damage Idle = ⊥
Spoils before after slot damage (AskedRead page) = (bytes : List ℕ) × Spoiled before after slot page damage bytes
Spoils before after slot damage (AskedWrite _ _) = ⊥
Spoils before after slot damage (HasFailed _) = ⊥
Spoils before after slot damage (IsDamaged found) = (damage ≡ found) × (after ≡ before)

-- What an answer says, and what it leaves in the port and in the buffer, which held `old` and holds `new`.
abbrev pub Finishes : (before after : PortTold) → (slot : ℕ) → (old new : List ℕ) → Result Ready PortWait → Type 0
Finishes before after slot old new (Ok ready.Read) = Brings before after slot new (slot_state before slot)
Finishes before after slot old new (Ok ready.Wrote) = (new ≡ old) × Saves before after slot (slot_state before slot)
Finishes before after slot old new (Err waits.Pending) = (new ≡ old) × Waits before after (slot_state before slot)
Finishes before after slot old new (Err waits.Failed) = Fails before after slot (slot_state before slot)
Finishes before after slot old new (Err (waits.Damaged damage)) = Spoils before after slot damage (slot_state before slot)

-- ---- steady ports

-- any answer but that a transfer failed
abbrev pub IsNoFailure : Result Ready PortWait → Type 0
IsNoFailure (Ok _) = Unit {0}
IsNoFailure (Err waits.Pending) = Unit {0}
IsNoFailure (Err waits.Failed) = ⊥
IsNoFailure (Err (waits.Damaged _)) = Unit {0}

-- a transfer of a page of a steady port doesn't fail while its count is below its greatest value
abbrev pub KeepsOn : PortTold → SlotState → Result Ready PortWait → Type 0
KeepsOn port Idle result = Unit {0}
KeepsOn port (AskedRead page) result = page < port.page_count → port.reads < top → IsNoFailure result
KeepsOn port (AskedWrite page _) result = page < port.page_count → port.writes < top → IsNoFailure result
KeepsOn port (HasFailed _) result = Unit {0}
KeepsOn port (IsDamaged _) result = Unit {0}
