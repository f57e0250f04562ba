-- A port over another one, where each transfer is under way for a while.
use Rattle.std.specs.Prelude.{◌≡◌, ◌<◌, ℕ, Bool, true, false}
use Rattle.mage_port.specs.Port.{PortTold, SlotState, Idle, AskedRead, AskedWrite, HasFailed, IsDamaged, slot_state}

-- the port below, and how often a transfer was under way
pub record SlowState (P : Type 0) : Type 0 where
  pub port : P
  pub waits : ℕ

-- what the port below tells, with this count of waits
abbrev pub counted : PortTold → (waits : ℕ) → PortTold
counted below waits = record below { waits = waits }

abbrev pub slow_told : {P : Type 0} → (tells : P → PortTold) → SlowState P → PortTold
slow_told tells slow = counted (tells slow.port) slow.waits

-- a slot in this state has a transfer to make
abbrev pub is_busy : SlotState → Bool
is_busy Idle = false
is_busy (AskedRead page) = true
is_busy (AskedWrite page bytes) = true
is_busy (HasFailed page) = false
is_busy (IsDamaged damage) = false

-- while asks are left for a slot, it has a transfer to make
abbrev pub MayWait : PortTold → (left slot : ℕ) → Type 0
MayWait below left slot = 0 < left → is_busy (slot_state below slot) ≡ true
