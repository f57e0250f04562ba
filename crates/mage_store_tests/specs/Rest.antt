-- A port at rest, and what a caller leaves of one.
use Rattle.std.specs.Prelude.{◌≡◌, ◌<◌, ℕ, length, IsTrue}
use Rattle.mage_port.specs.Port.{PortTold, Idle, slot_state}
use Rattle.mage_store_tests.specs.declared.caller.Went.{Went}
use Rattle.mage_store_tests.specs.declared.caller.Went.TheVariants as went

-- none of its slots is asked for anything, and there is one
pub record IsAtRest (port : PortTold) : Type 0 where
  pub some : 0 < length port.slots
  pub idle : (slot : ℕ) → slot_state port slot ≡ Idle

-- it takes page 1, and pages have this length
pub record IsReady (port : PortTold) (page_bytes : ℕ) : Type 0 where
  pub rest : IsAtRest port
  pub taken : IsTrue (port.takes 1)
  pub long : port.page_bytes ≡ page_bytes

-- a page came back, and the port is at rest as before
pub record StaysAtRest (before after : PortTold) : Type 0 where
  pub rest : IsAtRest after
  pub takes : after.takes ≡ before.takes
  pub page_bytes : after.page_bytes ≡ before.page_bytes

abbrev pub IsNotBack : Went → Type 0
IsNotBack went.Back = ⊥
IsNotBack (went.NotWritten _ _) = Unit {0}
IsNotBack (went.NotRead _ _) = Unit {0}

abbrev pub Comes : (before after : PortTold) → Went → Type 0
Comes before after went.Back = StaysAtRest before after
Comes before after (went.NotWritten _ _) = Unit {0}
Comes before after (went.NotRead _ _) = Unit {0}
