-- The slots of a worker as the code keeps them, and what its calls make of them.
use Rattle.std.specs.Prelude.{◌≡◌, ◌<◌, ℕ, List, Bool, true, false, length, map, get_or}
use Rattle.std.specs.List.{All}
use Rattle.mage_bank.specs.Bank.{bank_of, lengths_of}
use Rattle.mage_network.specs.Network.{put}
use Rattle.mage_network.specs.Slots as net
use Rattle.mage_world.specs.declared.slot.Slot.{Slot}
use Rattle.mage_world.specs.declared.slot.Transfer.{Transfer}
use Rattle.mage_world.specs.declared.slot.Transfer.TheVariants as goes
use Rattle.mage_world.specs.declared.slot.Work.{Work}
use Rattle.mage_world.specs.declared.slot.Work.TheVariants as work

-- ---- as the core sees them

-- a transfer, where a write takes these bytes
abbrev pub transfer_of : Transfer → (bytes : List ℕ) → net.Transfer (List ℕ)
transfer_of (goes.Read page) bytes = net.Reads page
transfer_of (goes.Write page) bytes = net.Writes page bytes

abbrev pub slot_with : Work → (bytes : List ℕ) → net.Slot (List ℕ)
slot_with work.Idle bytes = net.Idle
slot_with (work.Asked transfer) bytes = net.Asked (transfer_of transfer bytes)
slot_with (work.Busy transfer) bytes = net.Busy (transfer_of transfer bytes)
slot_with (work.Served transfer) bytes = net.Served (transfer_of transfer bytes) bytes

abbrev pub slot_of : Slot → net.Slot (List ℕ)
slot_of slot = slot_with slot.work slot.bytes.items

abbrev pub slots_of : List Slot → List (net.Slot (List ℕ))
slots_of slots = map slot_of slots

-- slot i; one that isn't there has nothing
abbrev pub slot_at : List (net.Slot (List ℕ)) → (i : ℕ) → net.Slot (List ℕ)
slot_at slots i = get_or slots i net.Idle

abbrev pub in_slots : List Slot → (i : ℕ) → net.Slot (List ℕ)
in_slots slots i = slot_at (slots_of slots) i

-- what page i holds; one that isn't there holds what is given
abbrev pub page_at : (empty : List ℕ) → List (List ℕ) → (i : ℕ) → List ℕ
page_at empty pages i = get_or pages i empty

-- ---- what a slot is ready for

abbrev pub is_idle : {B : Type 0} → net.Slot B → Bool
is_idle net.Idle = true
is_idle _ = false

abbrev pub is_asked : {B : Type 0} → net.Slot B → Bool
is_asked (net.Asked transfer) = true
is_asked _ = false

abbrev pub is_busy : {B : Type 0} → net.Slot B → Bool
is_busy (net.Busy transfer) = true
is_busy _ = false

abbrev pub has_read : {B : Type 0} → net.Slot B → Bool
has_read (net.Served (net.Reads page) bytes) = true
has_read _ = false

abbrev pub has_written : {B : Type 0} → net.Slot B → Bool
has_written (net.Served (net.Writes page bytes) same) = true
has_written _ = false

-- ---- room

-- each slot has room for so many bytes
abbrev pub AreLong : (bytes : ℕ) → List Slot → Type 0
AreLong bytes slots = All (λ slot. length slot.bytes.items ≡ bytes) slots

abbrev pub page_in : Transfer → ℕ
page_in (goes.Read page) = page
page_in (goes.Write page) = page

-- the page of a slot is one of so many
abbrev pub Within : (pages : ℕ) → Work → Type 0
Within pages work.Idle = Unit {0}
Within pages (work.Asked transfer) = page_in transfer < pages
Within pages (work.Busy transfer) = page_in transfer < pages
Within pages (work.Served transfer) = page_in transfer < pages

abbrev pub AreWithin : (pages : ℕ) → List Slot → Type 0
AreWithin pages slots = All (λ slot. Within pages slot.work) slots

-- ---- calls

-- one slot has this now, and each has as much room as before
pub record Becomes (old new : List Slot) (slot : ℕ) (now : net.Slot (List ℕ)) : Type 0 where
  pub slots : in_slots new ≡ put (in_slots old) slot now
  pub count : length new ≡ length old
  pub long : (bytes : ℕ) → AreLong bytes old → AreLong bytes new

-- An ask: the slot was idle, and is asked; or it wasn't, and nothing changed.
abbrev pub Begins : (old new : List Slot) → (slot : ℕ) → net.Transfer (List ℕ) → Bool → Type 0
Begins old new slot transfer true =
    (in_slots old slot ≡ net.Idle) × Becomes old new slot (net.Asked transfer)
Begins old new slot transfer false = (is_idle (in_slots old slot) ≡ false) × (new ≡ old)

-- A claim: the slot was asked, and is busy; or it wasn't, and nothing changed.
abbrev pub Claims : (old new : List Slot) → (slot : ℕ) → Bool → Type 0
Claims old new slot true =
    (transfer : net.Transfer (List ℕ)) × (in_slots old slot ≡ net.Asked transfer)
    × Becomes old new slot (net.Busy transfer)
Claims old new slot false = (is_asked (in_slots old slot) ≡ false) × (new ≡ old)

-- A service: the slot was busy, and its transfer's bytes went over; or it wasn't, and nothing changed.
abbrev pub Serves : (old new : List Slot) → (slot : ℕ) → (before after : List (List ℕ)) → Bool → Type 0
Serves old new slot before after true =
    (transfer : net.Transfer (List ℕ)) × (in_slots old slot ≡ net.Busy transfer)
    × ((empty : List ℕ) → Becomes old new slot
    (net.Served transfer (net.bytes_of transfer (page_at empty before)))
    × (page_at empty after ≡ net.pages_after transfer (page_at empty before)))
    × (lengths_of after ≡ lengths_of before)
Serves old new slot before after false =
    (is_busy (in_slots old slot) ≡ false) × (new ≡ old) × (after ≡ before)

-- The finish of a read: the slot had its bytes, which are in the frame now; or it hadn't, and nothing changed.
abbrev pub EndsRead : (old new : List Slot) → (slot : ℕ) → (before after : List (List ℕ)) → (frame : ℕ) →
    Bool → Type 0
EndsRead old new slot before after frame true =
    (page : ℕ) × (bytes : List ℕ) × (in_slots old slot ≡ net.Served (net.Reads page) bytes)
    × Becomes old new slot net.Idle × (bank_of after ≡ put (bank_of before) frame bytes)
    × (lengths_of after ≡ lengths_of before)
EndsRead old new slot before after frame false =
    (has_read (in_slots old slot) ≡ false) × (new ≡ old) × (after ≡ before)

-- The finish of a write.
abbrev pub EndsWrite : (old new : List Slot) → (slot : ℕ) → Bool → Type 0
EndsWrite old new slot true =
    (page : ℕ) × (bytes same : List ℕ) × (in_slots old slot ≡ net.Served (net.Writes page bytes) same)
    × Becomes old new slot net.Idle
EndsWrite old new slot false = (has_written (in_slots old slot) ≡ false) × (new ≡ old)
