-- What the tables of the code stand for.
use Rattle.std.specs.Prelude.{◌≡◌, ℕ, Bool, true, false, map, Option, Some, None, option_map}
use Rattle.std.specs.Ordering.{nat_cmp}
use Rattle.std.specs.BTreeMap.{get}
use Rattle.mage_carry.specs.declared.held.Held.{Held}
use Rattle.mage_carry.specs.declared.transfer.Transfer.{Transfer}
use Rattle.mage_carry.specs.declared.transfer.Transfer.TheVariants as transfer
use Rattle.mage_carry.specs.declared.walk.Walk.{Walk}
use Rattle.mage_carry.specs.State.{Content, Slot, Idle, Reads, Writes, State}

-- what a map of variables holds
abbrev pub content_of : Held → Content
content_of held offset = get nat_cmp held.variables offset

-- what a slot is doing
abbrev pub slot_of : Transfer → Slot
slot_of transfer.Idle = Idle
slot_of (transfer.Read page) = Reads page
slot_of (transfer.Write page held) = Writes page (content_of held)

-- what a table of pages holds
abbrev pub pages_in : Walk → ℕ → Option Content
pages_in walk page = option_map content_of (get nat_cmp walk.pages page)

-- the state of a walk
unfoldable pub state_of : Walk → State
state_of walk = record { frames = map content_of walk.frames.items; slots = map slot_of walk.slots.items; pages = pages_in walk; next = walk.next }

-- a step came to this state, or broke the rules
abbrev pub Goes : Bool → State → Option State → Type 0
Goes true after step = step ≡ Some after
Goes false after step = step ≡ None
