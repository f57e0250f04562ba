-- What becomes of the stores that a command asks a desk for.
use Rattle.std.specs.Prelude.{◌≡◌, ◌≤◌, ◌⊎◌, ℕ, List, [], ◌∷◌, false, Some, None, slice_get, if◌then◌else◌}
use Rattle.mage_base.specs.declared.failure.Damage.{Damage}
use Rattle.mage_base.specs.Desk.{DeskTold}
use Rattle.mage_base.specs.Store.{StoreTold, Transfer}
use Rattle.mage_store.specs.SealedPort.{EndInDamage}
use Rattle.mage_store.specs.SerialPort.{transfers_of}
use Rattle.mage_core.specs.Joined.{IsForged}
use Rattle.mage_lending.specs.Stores.{AreBack}
use Rattle.mage_source_runs.specs.Moves.{Moves}

-- These are the transfers that a store made, which it tells where the desk's stores tell their logs.
abbrev pub Made : DeskTold → StoreTold → List Transfer → Type 0
Made desk store made = store.log ≡ (if desk.stores_tell_logs then Some made else None)

-- one store for each of the first workers, each a store of the desk
abbrev pub AreOfDesk : DeskTold → (shelves : List (List StoreTold)) → Type 0
AreOfDesk desk [] = Unit {0}
AreOfDesk desk ((store ∷ []) ∷ shelves) = ((made : List Transfer) × Made desk store made) × AreOfDesk desk shelves
AreOfDesk desk _ = ⊥

-- The first workers had a store each, which are given back so. All else that the desk tells stays.
pub record GivesBack (shelves : List (List StoreTold)) (before after : DeskTold) : Type 0 where
  pub own : AreOfDesk before shelves
  pub back : AreBack before.lent before after shelves

-- ---- what happened to them

-- a store was read and written so often, and never failed
pub record HasMoved (moves : Moves) (store : StoreTold) : Type 0 where
  pub reads : store.reads ≡ moves.reads
  pub writes : store.writes ≡ moves.writes
  pub faults : store.faults ≡ 0

-- each worker's store was
abbrev pub HaveMoved : List Moves → (shelves : List (List StoreTold)) → Type 0
HaveMoved [] [] = Unit {0}
HaveMoved (own ∷ moves) ((store ∷ []) ∷ shelves) = HasMoved own store × HaveMoved moves shelves
HaveMoved _ _ = ⊥

-- the store of a worker failed
pub record HasBroken (shelves : List (List StoreTold)) (worker : ℕ) : Type 0 where
  pub store : StoreTold
  pub of_worker : slice_get shelves worker ≡ Some (store ∷ [])
  pub failed : 1 ≤ store.faults

-- The desk's stores don't tell their pages, and that of a worker brought back a page with another digest than it was written with.
pub record HasDamaged (desk : DeskTold) (shelves : List (List StoreTold)) (worker : ℕ) (damage : Damage) : Type 0 where
  pub untold : desk.stores_tell_pages ≡ false
  pub store : StoreTold
  pub of_worker : slice_get shelves worker ≡ Some (store ∷ [])
  pub made : List Transfer
  pub made_so : Made desk store made
  pub ends : EndInDamage damage (transfers_of made damage.page)

-- The desk's stores don't tell their pages, and one answered a read with other bytes than were last written, which have the same
-- digest.
pub record WereDeceived (desk : DeskTold) (shelves : List (List StoreTold)) : Type 0 where
  pub untold : desk.stores_tell_pages ≡ false
  pub worker : ℕ
  pub store : StoreTold
  pub of_worker : slice_get shelves worker ≡ Some (store ∷ [])
  pub made : List Transfer
  pub made_so : Made desk store made
  pub page : ℕ
  pub forged : IsForged (transfers_of made page)

-- what is put out is right, unless the stores deceived
abbrev pub IsRight : {T : Type 0} → DeskTold → (shelves : List (List StoreTold)) → (own out : T) → Type 0
IsRight desk shelves own out = (out ≡ own) ⊎ WereDeceived desk shelves
