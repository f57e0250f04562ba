-- What running a memory program over stores of the desk comes to.
use Rattle.std.specs.Prelude.{◌≡◌, ◌≤◌, ◌<◌, ◌*◌, ◌++◌, ◌⊎◌, ℕ, List, length, map, Vec, Option, Some, None, Result, Ok, Err}
use Rattle.std.specs.declared.alloc.Global.{Global}
use Rattle.mage_base.specs.declared.failure.DeskError.{DeskError}
use Rattle.mage_base.specs.declared.failure.DeskError.TheVariants as errors
use Rattle.mage_base.specs.Desk.{DeskTold}
use Rattle.mage_base.specs.Faults.{Rose}
use Rattle.mage_base.specs.Sink.{SinkTold}
use Rattle.mage_base.specs.Store.{StoreTold}
use Rattle.mage_texts.specs.Lists.{lists_of}
use Rattle.mage_texts.specs.OutputText.{text_of}
use Rattle.mage_verify.specs.Parts.{WorkerPart}
use Rattle.mage_core.specs.declared.fault.RunFault.{RunFault}
use Rattle.mage_core.specs.declared.fault.RunFault.TheVariants as fault
use Rattle.mage_lending.specs.declared.stores.StoreOrder.{StoreOrder}
use Rattle.mage_lending.specs.Names.{worker_files}
use Rattle.mage_lending.specs.Sinks.{AreOpened, HaveFiles, with_empty}
use Rattle.mage_lending.specs.Stores.{AreLent, NoneAreLent, own_stores}
use Rattle.mage_planner.specs.declared.refusal.Refusal.{Refusal}
use Rattle.mage_planner.specs.declared.refusal.Refusal.TheVariants as refusal
use Rattle.mage_planner.specs.declared.work.Garbling.{Garbling}
use Rattle.mage_planner.specs.Outcome.{Done}
use Rattle.mage_planner.specs.Answer.{NothingIsWrong, ReadsThese, Returns}
use Rattle.mage_planner.specs.Steps.{RefusalCounted}
use Rattle.mage_planner.specs.Stores.{GivesBack, HaveMoved, HasBroken, HasDamaged, IsRight, WereDeceived}

-- the stores that parts need, where a wire takes so many bytes: as many pages as they name, each of as many wires as they have
abbrev pub orders_of : (wire_bytes : ℕ) → List WorkerPart → List StoreOrder
orders_of wire_bytes parts = map (λ part. record { pages = part.pages; page_bytes = part.limits.page * wire_bytes }) parts

-- what asking for so many stores leaves: they are lent, or none is
abbrev pub LendsSo : {T : Type 0} → (workers : ℕ) → Result T Refusal → (before after : DeskTold) → Type 0
LendsSo workers (Ok x) before after = after ≡ record before { lent = before.lent ++ own_stores 0 workers }
LendsSo workers (Err refusal.Desk) before after =
    NoneAreLent before after workers × (before.faults ≤ after.faults) × Rose before.faults after.faults
LendsSo workers (Err refusal.Memory) before after = NoneAreLent before after workers × (after.faults ≡ before.faults)
LendsSo workers (Err other) before after = ⊥

-- The desk has lent a store for each part, and is else as it was before.
pub record HasLent (wire_bytes : ℕ) (before : DeskTold) (parts : List WorkerPart) (fresh : List (List StoreTold)) (now : DeskTold) : Type 0 where
  pub stores : AreLent before (orders_of wire_bytes parts) fresh
  pub rest : now ≡ record before { lent = before.lent ++ own_stores 0 (length parts) }

-- why a run stopped that asked for the stores of so many workers
abbrev pub IsHalt : (workers : ℕ) → (before : DeskTold) → (shelves : List (List StoreTold)) → (after : DeskTold) → Refusal → Type 0
IsHalt workers before shelves after refusal.Desk = Unit {0}
IsHalt workers before shelves after refusal.Memory = Unit {0}
IsHalt workers before shelves after (refusal.Store worker) =
    (worker < workers) × HasBroken shelves worker × Rose (before.returned worker).faults (after.returned worker).faults
IsHalt workers before shelves after (refusal.Damaged worker damage) = (worker < workers) × HasDamaged before shelves worker damage
IsHalt workers before shelves after other = ⊥

-- The stores are back that were moved as often as is due, and this text is to be said. Where the desk's own streams were read nothing
-- is wrong with them.
pub record Ran (done : Done) (text : List ℕ) (before after : DeskTold) : Type 0 where
  pub shelves : List (List StoreTold)
  pub moved : HaveMoved done.moves shelves
  pub given : GivesBack shelves before after
  pub right : ReadsThese before.files done.reads → IsRight before shelves done.said text
  pub sound : ReadsThese before.files done.reads → NothingIsWrong (length done.moves) done.reads ⊎ WereDeceived before shelves

-- A run of so many workers was stopped by this: the stores are back, and nothing was said and no file written.
pub record Halted (workers : ℕ) (why : Refusal) (before after : DeskTold) : Type 0 where
  pub shelves : List (List StoreTold)
  pub between : DeskTold
  pub returns : Returns workers shelves before between
  pub cause : IsHalt workers before shelves between why
  pub rest : after ≡ record between { faults = after.faults }
  pub faults : RefusalCounted between.faults after.faults why

-- a run that was to do this put this out, or was stopped, and the stores are back
abbrev pub EndsSo : Done → Result (Vec (Vec ℕ Global) Global) RunFault → (before after : DeskTold) → Type 0
EndsSo done (Ok outputs) before after = Ran done (text_of (lists_of outputs.items)) before after
EndsSo done (Err (fault.Store worker)) before after = Halted (length done.moves) (refusal.Store worker) before after
EndsSo done (Err (fault.Damaged worker damage)) before after = Halted (length done.moves) (refusal.Damaged worker damage) before after
EndsSo done (Err (fault.Driver worker f)) before after = ⊥
EndsSo done (Err fault.Memory) before after = Halted (length done.moves) refusal.Memory before after

-- a run that no store stopped
abbrev pub IsUnbroken : {T : Type 0} → Result T RunFault → Type 0
IsUnbroken (Err (fault.Store worker)) = ⊥
IsUnbroken (Err (fault.Damaged worker damage)) = ⊥
IsUnbroken other = Unit {0}

-- a run that was to do this gives its text, or was stopped
abbrev pub RanSo : Done → Result (Vec ℕ Global) Refusal → (before after : DeskTold) → Type 0
RanSo done (Ok text) before after = Ran done text.items before after
RanSo done (Err why) before after = Halted (length done.moves) why before after

-- The desk has lent a store for each part, and each worker's stream file is open and empty; it is else as it was before.
pub record HasOpened (before : DeskTold) (garbling : Garbling) (fresh : List (List StoreTold)) (names : List (List ℕ)) (sinks : List SinkTold) (now : DeskTold) :
    Type 0 where
  pub stores : AreLent before (orders_of 16 garbling.parts.items) fresh
  pub named : names ≡ worker_files garbling.stream.now 0 (length garbling.rooms.items)
  pub handed : AreOpened before garbling.rooms.items sinks
  pub there : HaveFiles now.files names
  pub rest : now ≡ record before {
    files = with_empty before.files names;
    lent = before.lent ++ own_stores 0 (length garbling.parts.items);
  }

-- the refusal of what stopped a run that garbled: a fault of a driver is one of its sink, and so the desk's
abbrev pub stopped_by : RunFault → Refusal
stopped_by (fault.Store worker) = refusal.Store worker
stopped_by (fault.Damaged worker damage) = refusal.Damaged worker damage
stopped_by (fault.Driver worker f) = refusal.Desk
stopped_by fault.Memory = refusal.Memory

-- the refusal of what kept its streams from being opened
abbrev pub unopened_by : DeskError → Refusal
unopened_by errors.Memory = refusal.Memory
unopened_by other = refusal.Desk

-- what such a run comes to, with what closing its streams came to: the run's fault came first
abbrev pub ended_so : {T E : Type 0} → Option RunFault → Result T E → Result T Refusal
ended_so (Some stopped) closed = Err (stopped_by stopped)
ended_so None (Ok x) = Ok x
ended_so None (Err e) = Err refusal.Desk
