-- How a worker's port stands to the store that was handed in.
use Rattle.std.specs.Prelude.{◌≡◌, ℕ, is_some}
use Rattle.std.specs.List.{Contains}
use Rattle.mage_base.specs.Store.{StoreTold}
use Rattle.mage_port.specs.Port.{PortTold, SlotState, Idle, AskedRead, AskedWrite, HasFailed, IsDamaged, slot_state}
use Rattle.mage_verify.specs.Parts.{WorkerPart}
use Rattle.mage_core.specs.Ports.{pages_moved}

-- a slot in this state, where it is asked, moves a page that the part moves
abbrev pub IsOfPart : WorkerPart → SlotState → Type 0
IsOfPart part Idle = Unit {0}
IsOfPart part (AskedRead page) = Contains (pages_moved part.directives) page
IsOfPart part (AskedWrite page _) = Contains (pages_moved part.directives) page
IsOfPart part (HasFailed _) = Unit {0}
IsOfPart part (IsDamaged _) = Unit {0}

-- The port of a part tells of its store what that told, and its slots move pages of the part alone.
pub record KeepsStore (part : WorkerPart) (store : StoreTold) (port : PortTold) : Type 0 where
  pub pages : is_some port.pages ≡ is_some store.pages
  pub page_bytes : port.page_bytes ≡ store.page_bytes
  pub steady : port.steady ≡ store.steady
  pub page_count : port.page_count ≡ store.page_count
  pub slots : (slot : ℕ) → IsOfPart part (slot_state port slot)
