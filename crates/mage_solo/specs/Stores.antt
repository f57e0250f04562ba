-- What a run does to the stores of its workers.
use Rattle.std.specs.Prelude.{◌≡◌, ◌<◌, ◌≤◌, ◌+◌, ℕ, List, [], ◌∷◌, map, Vec, IfSome, IsTrue, IsSome, slice_get, None, Some}
use Rattle.std.specs.Global.{Global}
use Rattle.std.specs.List.{All}
use Rattle.mage_base.specs.declared.failure.Damage.{Damage}
use Rattle.mage_base.specs.Faults.{Rose}
use Rattle.mage_base.specs.Store.{StoreTold, Transfer}
use Rattle.mage_store.specs.SealedPort.{EndInDamage}
use Rattle.mage_store.specs.SerialPort.{transfers_of}
use Rattle.mage_verify.specs.Parts.{WorkerPart}
use Rattle.mage_core.specs.Going.{reads_of, writes_of}
use Rattle.mage_core.specs.Joined.{IsForged}
use Rattle.mage_core.specs.Made.{shelves}
use Rattle.mage_core.specs.Ports.{pages_moved}
use Rattle.mage_core.specs.Results.{Gained, Grew}

-- what the stores of each worker tell
abbrev pub told_by : {S : Type 0} → (S → StoreTold) → List (Vec S Global) → List (List StoreTold)
told_by tells stores = map (λ shelf. map tells shelf) (shelves stores)

-- a worker of a run: its part, and what its one store told before the run and tells after it
pub record Stored (parts : List WorkerPart) (before after : List (List StoreTold)) (worker : ℕ) : Type 0 where
  pub part : WorkerPart
  pub old : StoreTold
  pub new : StoreTold
  pub part_so : slice_get parts worker ≡ Some part
  pub old_so : slice_get before worker ≡ Some (old ∷ [])
  pub new_so : slice_get after worker ≡ Some (new ∷ [])

-- A store was read and written as often as a part finishes reads and writes, and it never failed.
pub record IsMoved (part : WorkerPart) (old new : StoreTold) : Type 0 where
  pub reads : new.reads ≡ old.reads + reads_of part.directives
  pub writes : new.writes ≡ old.writes + writes_of part.directives
  pub faults : new.faults ≡ old.faults

-- A store doesn't tell its pages, and among the transfers of the damaged page that its log gained the last is a read that was
-- answered with the digest found, where the last write before it has the digest kept, which is another.
pub record IsDamagedBy (damage : Damage) (old new : StoreTold) : Type 0 where
  pub untold : old.pages ≡ None
  pub made : List Transfer
  pub gained : Gained old new made
  pub ends : EndInDamage damage (transfers_of made damage.page)

-- A store suffices for a part: it tells its pages, it fails only on pages that it doesn't have, it was neither read nor written
-- yet, and it has each page that the part moves.
pub record SufficesFor (part : WorkerPart) (store : StoreTold) : Type 0 where
  pub told : IsSome store.pages
  pub steady : IsTrue store.steady
  pub no_reads : store.reads ≡ 0
  pub no_writes : store.writes ≡ 0
  pub pages : All (λ page. page < store.page_count) (pages_moved part.directives)

module _ (parts : List WorkerPart) (before after : List (List StoreTold)) where
  -- each worker's store was moved as its part says
  abbrev pub AreMoved : Type 0
  AreMoved = (w : ℕ) (worker : Stored parts before after w) → IsMoved worker.part worker.old worker.new

  -- what each worker's store tells grew
  abbrev pub HaveGrown : Type 0
  HaveGrown = (w : ℕ) (worker : Stored parts before after w) → Grew worker.old worker.new

  -- the store of a worker failed
  abbrev pub HasBroken : ℕ → Type 0
  HasBroken w = (worker : Stored parts before after w)
      × (worker.old.faults ≤ worker.new.faults) × Rose worker.old.faults worker.new.faults

  -- the store of a worker brought a page back that wasn't what it was given
  abbrev pub HasDamaged : ℕ → Damage → Type 0
  HasDamaged w damage = (worker : Stored parts before after w) × IsDamagedBy damage worker.old worker.new

  -- The store of some worker doesn't tell its pages, and answered a read with other bytes than were last written, which have the
  -- same digest: so it is among the transfers that its log gained, where it tells it.
  pub record WereDeceived : Type 0 where
    pub number : ℕ
    pub worker : Stored parts before after number
    pub untold : worker.old.pages ≡ None
    pub made : List Transfer
    pub gained : Gained worker.old worker.new made
    pub page : ℕ
    pub forged : IsForged (transfers_of made page)

-- each worker's store suffices for its part
abbrev pub AllSuffice : List WorkerPart → List (List StoreTold) → Type 0
AllSuffice parts stores =
    (w : ℕ) → IfSome (slice_get parts w) (λ part. IfSome (slice_get stores w) (All (SufficesFor part)))
