-- A port over one store: what it holds and tells.
use Rattle.std.specs.Prelude.{◌≡◌, ◌≤◌, ◌==◌, ◌++◌, ◌∷◌, ℕ, List, [], Bool, true, false, Result, Ok, Err}
use Rattle.std.specs.List.{list_any, filter}
use Rattle.std.specs.Option.{option_map}
use Rattle.mage_base.specs.Faults.{Rose}
use Rattle.mage_base.specs.Store.{StoreTold, Transfer, Wrote, Answered}
use Rattle.mage_port.specs.Port.{PortTold, SlotState, Transfers, Idle, AskedRead, AskedWrite, HasFailed, IsDamaged}
use Rattle.mage_store.specs.Slots.{SlotsState, idle_slots}
use Rattle.mage_port.specs.declared.ready.Ready.{Ready}
use Rattle.mage_port.specs.declared.ready.PortWait.{PortWait}
use Rattle.mage_port.specs.declared.ready.PortWait.TheVariants as waits

-- the store as it is and as it was handed in, the slots, and the transfers that were finished, in order
pub record SerialState (S : Type 0) : Type 0 where
  pub store : S
  pub first : S
  pub slots : SlotsState
  pub made : List Transfer

-- a port over a store of which nothing was asked yet
abbrev pub new_serial : {S : Type 0} → (store : S) → (count page_bytes : ℕ) → SerialState S
new_serial store count page_bytes =
    record { store = store; first = store; slots = idle_slots count page_bytes; made = [] }

abbrev pub is_of : (page : ℕ) → Transfer → Bool
is_of page (Wrote of _) = page == of
is_of page (Answered of _) = page == of

-- the transfers of each page among these
abbrev pub transfers_of : List Transfer → Transfers
transfers_of made page = filter (is_of page) made

-- what the port tells, where its store tells this: it takes every page, and no transfer is ever under way
abbrev pub serial_told : (store first : StoreTold) → SlotsState → List Transfer → PortTold
serial_told store first slots made =
    record {
      slots = slots.states;
      page_bytes = slots.page_bytes;
      takes = λ page. true;
      pages = store.pages;
      reads = store.reads;
      writes = store.writes;
      waits = 0;
      finished = transfers_of made;
      handed_in = first ∷ [];
      steady = store.steady;
      page_count = store.page_count;
    }

-- the same of a port whose store tells by this
abbrev pub port_told : {S : Type 0} → (tells : S → StoreTold) → SerialState S → PortTold
port_told tells port = serial_told (tells port.store) (tells port.first) port.slots port.made

abbrev pub has_failed : SlotState → Bool
has_failed Idle = false
has_failed (AskedRead _) = false
has_failed (AskedWrite _ _) = false
has_failed (HasFailed _) = true
has_failed (IsDamaged _) = false

-- What became of the store: its log grew by the transfers that were made, and its count of faults rose just where some
-- slot is failed.
pub record CameFrom (first store : StoreTold) (slots : SlotsState) (made : List Transfer) : Type 0 where
  pub page_bytes : slots.page_bytes ≡ store.page_bytes
  pub log : store.log ≡ option_map (λ earlier. earlier ++ made) first.log
  pub steady : store.steady ≡ first.steady
  pub page_count : store.page_count ≡ first.page_count
  pub grown : first.faults ≤ store.faults
  pub sound : list_any has_failed slots.states ≡ false → store.faults ≡ first.faults
  pub broken : list_any has_failed slots.states ≡ true → Rose first.faults store.faults

-- any answer but that a transfer is under way
abbrev pub IsNotUnderWay : Result Ready PortWait → Type 0
IsNotUnderWay (Ok _) = Unit {0}
IsNotUnderWay (Err waits.Pending) = ⊥
IsNotUnderWay (Err waits.Failed) = Unit {0}
IsNotUnderWay (Err (waits.Damaged _)) = Unit {0}
