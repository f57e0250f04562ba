-- The slots of a serial port, each with a buffer.
use Rattle.std.specs.Prelude.{ℕ, List, [], replicate, get_or, set}
use Rattle.mage_store.specs.declared.slot.Slot.{Slot}
use Rattle.mage_store.specs.declared.slot.Task.{Task}
use Rattle.mage_store.specs.declared.slot.Task.TheVariants as tasks
use Rattle.mage_port.specs.Port.{SlotState, Idle, AskedRead, AskedWrite, HasFailed, IsDamaged}

pub record SlotsState : Type 0 where
  pub states : List SlotState
  pub page_bytes : ℕ

-- what a slot with this task and this buffer is doing
abbrev pub state_with : Task → (buffer : List ℕ) → SlotState
state_with tasks.Idle buffer = Idle
state_with (tasks.Read page) buffer = AskedRead page
state_with (tasks.Write page) buffer = AskedWrite page buffer
state_with (tasks.Failed page) buffer = HasFailed page

abbrev pub state_of : Slot → SlotState
state_of slot = state_with slot.task slot.buffer.items

-- so many idle slots
abbrev pub idle_slots : (count page_bytes : ℕ) → SlotsState
idle_slots count page_bytes = record { states = replicate count Idle; page_bytes = page_bytes }

abbrev pub state_at : SlotsState → (slot : ℕ) → SlotState
state_at slots slot = get_or slots.states slot Idle

abbrev pub with_state_at : SlotsState → (slot : ℕ) → SlotState → SlotsState
with_state_at slots slot state = record slots { states = set slots.states slot state }

-- the bytes that a slot is to write
abbrev pub bytes_to_write : SlotState → List ℕ
bytes_to_write Idle = []
bytes_to_write (AskedRead _) = []
bytes_to_write (AskedWrite _ bytes) = bytes
bytes_to_write (HasFailed _) = []
bytes_to_write (IsDamaged _) = []
