-- Machines whose reads bring what was last written: they go along a run over pages.
use Rattle.std.specs.Prelude.{◌≡◌, ◌≢◌, ◌==◌, ℕ, List, [], ◌∷◌, Bool, true, false, Option, IfSome, IsSome}
use Rattle.mage_base.specs.Store.{Pages, Transfer, Wrote, Answered}
use Rattle.mage_network.specs.Workers.{Act}
use Rattle.mage_network.specs.Pasts.{IsAlong}
use Rattle.mage_network.specs.Slots as net
use Rattle.mage_network.specs.Slots.{Paged, idle, at_once}
use Rattle.mage_driver.specs.Rules.{Rules}
use Rattle.mage_driver.specs.Calls.{Call, NoneIsDue}
use Rattle.mage_link.specs.Links.{LinkTold}
use Rattle.mage_port.specs.Port.{SlotState, Transfers, Idle, AskedRead, AskedWrite, HasFailed, IsDamaged, slot_state, has_page, has_transfers, last_written}
use Rattle.mage_steps.specs.Frames.{cleared}
use Rattle.mage_steps.specs.Engines.{Engine, doing, opened}
use Rattle.mage_verify.specs.Parts.{WorkerPart}
use Rattle.mage_engine.specs.Seen.{Seen, engine_with, HoldSame}

-- each answer among these transfers of a page is what was last written before it
abbrev pub AreRightAfter : (written : List ℕ) → List Transfer → Type 0
AreRightAfter written [] = Unit {0}
AreRightAfter written (Wrote _ bytes ∷ later) = AreRightAfter bytes later
AreRightAfter written (Answered _ bytes ∷ later) = (bytes ≡ written) × AreRightAfter written later

-- the same of the transfers of each page
abbrev pub AllRight : Transfers → Type 0
AllRight finished = (page : ℕ) → AreRightAfter [] (finished page)

-- What holds of the slots of a port, its finished transfers and the pages that it tells.
pub record KeepsPages (pages : Option Pages) (states : ℕ → SlotState) (finished : Transfers) : Type 0 where
  -- a page that is read was written
  pub reads : (slot page : ℕ) → states slot ≡ AskedRead page → has_transfers (finished page) ≡ true
  -- no two slots have one page
  pub apart : (page slot other : ℕ) → slot ≢ other → has_page page (states slot) ≡ true → has_page page (states other) ≡ false
  -- where the pages are told, each holds what was last written to it, and each answer was that
  pub holds : (page : ℕ) → has_transfers (finished page) ≡ true → IfSome pages (λ told. told page ≡ last_written (finished page))
  pub right : IsSome pages → AllRight finished

-- ---- a worker over pages

-- its slot, by what the port's slot is doing: a read brings what was last written
abbrev pub slot_of : Transfers → SlotState → net.Slot (List ℕ)
slot_of finished Idle = net.Idle
slot_of finished (AskedRead page) = net.Served (net.Reads page) (last_written (finished page))
slot_of finished (AskedWrite page bytes) = net.Served (net.Writes page bytes) bytes
slot_of finished (HasFailed page) = net.Idle
slot_of finished (IsDamaged damage) = net.Idle

-- a slot is to write this page
abbrev pub is_writing : (page : ℕ) → SlotState → Bool
is_writing page Idle = false
is_writing page (AskedRead asked) = false
is_writing page (AskedWrite asked bytes) = asked == page
is_writing page (HasFailed asked) = false
is_writing page (IsDamaged damage) = false

-- Its slots and pages beside those of the port: a page that is to be written holds those bytes already, and each other page what
-- was last written to it.
pub record HasPages (states : ℕ → SlotState) (finished : Transfers) (slots : ℕ → net.Slot (List ℕ)) (pages : ℕ → List ℕ) : Type 0 where
  pub each : (slot : ℕ) → slots slot ≡ slot_of finished (states slot)
  pub written : (slot page : ℕ) (bytes : List ℕ) → states slot ≡ AskedWrite page bytes → pages page ≡ bytes
  pub settled : (page : ℕ) → ((slot : ℕ) → is_writing page (states slot) ≡ false) → has_transfers (finished page) ≡ true →
      pages page ≡ last_written (finished page)

module _ {W : Type 0} (rules : Rules W) where
  -- what it does next
  abbrev pub paged_act : WorkerPart → Paged (Engine rules.State) (List ℕ) → Act (Paged (Engine rules.State) (List ℕ)) (Call rules.State W) (List ℕ)
  paged_act part = at_once (λ number. doing rules part.limits.page part.directives) part.worker

  -- before its first directive, with its driver in this state
  abbrev pub first_paged : (page : ℕ) → rules.State → Paged (Engine rules.State) (List ℕ)
  first_paged page driver = idle (opened rules page driver) (λ stored. cleared rules page)

  -- A worker over pages that went along its own run from this start stands where the machine stands, with the wires that the links
  -- carried; in none of the calls that its driver got was a fault due.
  pub record GoesOverPages (start : Paged (Engine rules.State) (List ℕ)) (machine : Seen rules.State) (link : LinkTold) : Type 0 where
    pub bank : ℕ → List ℕ
    pub holds : HoldSame machine bank
    pub worker : Paged (Engine rules.State) (List ℕ)
    pub engine : worker.engine ≡ engine_with machine bank
    pub has : HasPages (slot_state machine.port) machine.port.finished worker.slots worker.pages
    pub said : List (Call rules.State W)
    pub passed : NoneIsDue rules said
    pub along : IsAlong (paged_act machine.part) start worker said
        (λ source. link.received source machine.part.worker) (λ target. link.sent machine.part.worker target)
