-- What a desk tells, and what its calls answer and leave.
use Rattle.std.specs.Prelude.{◌≡◌, ◌≤◌, ◌<◌, ◌==◌, ◌&&◌, ◌++◌, ◌∷◌, ℕ, List, [], length, take, Bool, IsTrue, Option, Some, IfSome, IsSome, IsSomeAnd, Result, Ok, Err, Vec, option_and_then, if◌then◌else◌}
use Rattle.std.specs.Option.{option_map}
use Rattle.std.specs.Str.{bytes_eq}
use Rattle.std.specs.declared.alloc.Global.{Global}
use Rattle.mage_base.specs.declared.failure.DeskError.{DeskError}
use Rattle.mage_base.specs.declared.failure.DeskError.TheVariants as errors
use Rattle.mage_base.specs.Faults.{Rose, count_after}
use Rattle.mage_base.specs.Sink.{SinkTold}
use Rattle.mage_base.specs.Source.{SourceTold}
use Rattle.mage_base.specs.Store.{StoreTold, Transfer, new_store}

-- the bytes of each file, by its name
abbrev pub Files : Type 0
Files = List ℕ → Option (List ℕ)

-- the store of a shard of a worker
pub record StoreId : Type 0 where
  pub worker : ℕ
  pub shard : ℕ

-- what the stores of a worker that were given back come to: their counts, and where told their logs, one behind the other
pub record Returned : Type 0 where
  pub reads : ℕ
  pub writes : ℕ
  pub faults : ℕ
  pub log : Option (List Transfer)

pub record DeskTold : Type 0 where
  -- the files, where the desk tells them
  pub files : Option Files
  -- what was said and what was warned so far, where told
  pub said : Option (List ℕ)
  pub warned : Option (List ℕ)
  -- how often the desk failed, with the faults of the sources and sinks that it got back
  pub faults : ℕ
  -- whether it fails only for want of a file or of room; and how many bytes may still be said and warned then
  pub steady : Bool
  pub room : ℕ
  pub warn_room : ℕ
  -- whether the stores that it hands out tell their pages, and their logs
  pub stores_tell_pages : Bool
  pub stores_tell_logs : Bool
  -- the stores that it handed out and that aren't given back yet
  pub lent : List StoreId
  -- for each worker, its stores that were given back
  pub returned : ℕ → Returned

-- ---- files

-- these files and one more, in place of one of its name
abbrev pub with_file : Files → (name bytes : List ℕ) → Files
with_file files name bytes other = if bytes_eq name other then Some bytes else files other

-- the same of files that are told
abbrev pub files_with : Option Files → (name bytes : List ℕ) → Option Files
files_with files name bytes = option_map (λ told. with_file told name bytes) files

-- an answer other than a fault
abbrev pub IsNoFault : {T : Type 0} → Result T DeskError → Type 0
IsNoFault (Ok _) = Unit {0}
IsNoFault (Err errors.TooLong) = Unit {0}
IsNoFault (Err errors.Fault) = ⊥
IsNoFault (Err errors.Memory) = Unit {0}

-- an answer other than that the file is too long
abbrev pub IsNotTooLong : {T : Type 0} → Result T DeskError → Type 0
IsNotTooLong (Ok _) = Unit {0}
IsNotTooLong (Err errors.TooLong) = ⊥
IsNotTooLong (Err errors.Fault) = Unit {0}
IsNotTooLong (Err errors.Memory) = Unit {0}

-- a call raised the count of faults where it answers a fault, and else left it
abbrev pub FaultCounted : {T : Type 0} → ℕ → ℕ → Result T DeskError → Type 0
FaultCounted before now (Ok _) = now ≡ before
FaultCounted before now (Err errors.TooLong) = now ≡ before
FaultCounted before now (Err errors.Fault) = (before ≤ now) × Rose before now
FaultCounted before now (Err errors.Memory) = now ≡ before

-- what a fetch may answer where the file, or that there is none, is told
abbrev pub Fetched : Option (List ℕ) → ℕ → Result (Vec ℕ Global) DeskError → Type 0
Fetched file limit (Ok bytes) = file ≡ Some bytes.items
Fetched file limit (Err errors.TooLong) = IsSomeAnd file (λ bytes. limit < length bytes)
Fetched file limit (Err errors.Fault) = Unit {0}
Fetched file limit (Err errors.Memory) = IsSomeAnd file (λ bytes. length bytes ≤ limit)

-- a steady desk that tells its files finds a name that is there
abbrev pub Finds : {T : Type 0} → DeskTold → (name : List ℕ) → Result T DeskError → Type 0
Finds desk name result = IsTrue desk.steady → IfSome desk.files (λ files. IsSome (files name) → IsNoFault result)

-- the source of a file: all its bytes are left
pub record HandsSource (desk : DeskTold) (name : List ℕ) (source : SourceTold) : Type 0 where
  pub bytes : IfSome desk.files (λ files. IsSomeAnd (files name) (λ bytes. source.left ≡ Some bytes))
  pub no_fault : source.faults ≡ 0
  pub steady : IsTrue desk.steady → IsTrue source.steady

-- the sink of a file that is made empty
pub record HandsSink (desk : DeskTold) (room : ℕ) (sink : SinkTold) : Type 0 where
  pub taken : IfSome desk.files (λ _. sink.taken ≡ Some [])
  pub no_fault : sink.faults ≡ 0
  pub steady : IsTrue desk.steady → IsTrue sink.steady × (sink.room ≡ room)

-- what a call leaves that opens a file to be written
abbrev pub OpensOut : {T : Type 0} → (before after : DeskTold) → (name : List ℕ) → Result T DeskError → Type 0
OpensOut before after name (Ok _) = after ≡ record before { files = files_with before.files name [] }
OpensOut before after name (Err _) = after ≡ record before { faults = after.faults }

-- What closing a file leaves: the file is what the sink took, or after a fault a front of that, and the sink's faults are
-- counted.
abbrev pub ClosesOut : {T E : Type 0} → (before after : DeskTold) → (name : List ℕ) → SinkTold → Result T E → Type 0
ClosesOut before after name sink (Ok _) =
    (bytes : List ℕ) × IfSome sink.taken (λ taken. bytes ≡ taken)
    × (after ≡ record before { files = files_with before.files name bytes; faults = count_after before.faults sink.faults })
ClosesOut before after name sink (Err _) =
    (bytes : List ℕ) × IfSome sink.taken (λ taken. (n : ℕ) × (bytes ≡ take n taken))
    × (after ≡ record before { files = files_with before.files name bytes; faults = after.faults })
    × Rose (count_after before.faults sink.faults) after.faults

-- ---- stores

-- a store to which nothing was written yet
pub record HandsStore (desk : DeskTold) (pages page_bytes : ℕ) (store : StoreTold) : Type 0 where
  pub fresh : store ≡ new_store desk.stores_tell_pages desk.stores_tell_logs store.steady store.page_count page_bytes
  pub steady : IsTrue desk.steady → IsTrue store.steady × (store.page_count ≡ pages)

-- what a call leaves that hands out a store
abbrev pub Lends : {T : Type 0} → (before after : DeskTold) → StoreId → Result T DeskError → Type 0
Lends before after id (Ok _) = after ≡ record before { lent = before.lent ++ id ∷ [] }
Lends before after id (Err _) = after ≡ record before { faults = after.faults }

abbrev pub is_store : StoreId → StoreId → Bool
is_store a b = a.worker == b.worker && a.shard == b.shard

-- the stores without the first with this name
abbrev pub without_store : List StoreId → StoreId → List StoreId
without_store [] id = []
without_store (first ∷ others) id = if is_store first id then others else first ∷ without_store others id

-- two logs, one behind the other, where both are told
abbrev pub joined : (earlier later : Option (List Transfer)) → Option (List Transfer)
joined earlier later = option_and_then (λ first. option_map (λ second. first ++ second) later) earlier

-- what was given back, and this store too
abbrev pub with_store : Returned → StoreTold → Returned
with_store returned store =
    record {
      reads = count_after returned.reads store.reads;
      writes = count_after returned.writes store.writes;
      faults = count_after returned.faults store.faults;
      log = joined returned.log store.log;
    }

-- what the desk tells after a store was given back
abbrev pub after_giving : DeskTold → StoreId → StoreTold → DeskTold
after_giving desk id store =
    record desk {
      lent = without_store desk.lent id;
      returned = λ worker. if worker == id.worker then with_store (desk.returned worker) store else desk.returned worker;
    }
