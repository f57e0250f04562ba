-- The workers' files that are written.
use Rattle.std.specs.Prelude.{◌≡◌, ◌≤◌, ℕ, List, [], ◌∷◌, take, Option, IfSome, IsSome, Result, Ok, Err}
use Rattle.std.specs.List.{All}
use Rattle.mage_base.specs.declared.failure.DeskError.{DeskError}
use Rattle.mage_base.specs.declared.failure.DeskError.TheVariants as errors
use Rattle.mage_base.specs.Desk.{DeskTold, Files, HandsSink, files_with}
use Rattle.mage_base.specs.Faults.{Rose, count_after}
use Rattle.mage_base.specs.Sink.{SinkTold}
use Rattle.mage_lending.specs.Names.{worker_files}

-- these files and more, in place of those of their names: each name with the bytes at its place
abbrev pub with_all : Option Files → (names contents : List (List ℕ)) → Option Files
with_all files [] contents = files
with_all files (name ∷ names) [] = files
with_all files (name ∷ names) (bytes ∷ contents) = with_all (files_with files name bytes) names contents

-- these files, of which those with the names are empty
abbrev pub with_empty : Option Files → (names : List (List ℕ)) → Option Files
with_empty files [] = files
with_empty files (name ∷ names) = with_empty (files_with files name []) names

-- each name has a file, where the files are told
abbrev pub HaveFiles : Option Files → (names : List (List ℕ)) → Type 0
HaveFiles told names = IfSome told (λ files. All (λ name. IsSome (files name)) names)

-- each sink is that of a file that was made empty, with its room
abbrev pub AreOpened : DeskTold → (rooms : List ℕ) → List SinkTold → Type 0
AreOpened desk [] [] = Unit {0}
AreOpened desk [] (sink ∷ sinks) = ⊥
AreOpened desk (room ∷ rooms) [] = ⊥
AreOpened desk (room ∷ rooms) (sink ∷ sinks) = HandsSink desk room sink × AreOpened desk rooms sinks

-- The count of faults rose where the answer is the desk's fault, and stays where it is Ok. Where memory is wanting, it
-- may have risen as what was opened was closed again.
abbrev pub OpenedCounted : {T : Type 0} → (before now : ℕ) → Result T DeskError → Type 0
OpenedCounted before now (Ok _) = now ≡ before
OpenedCounted before now (Err errors.TooLong) = ⊥
OpenedCounted before now (Err errors.Fault) = (before ≤ now) × Rose before now
OpenedCounted before now (Err errors.Memory) = before ≤ now

-- What opening files leaves: all of them are empty, or with any answer but Ok so many of the first, and no other changed.
abbrev pub OpensAll : {T : Type 0} → (before after : DeskTold) → (prefix : List ℕ) → (workers : ℕ) → Result T DeskError → Type 0
OpensAll before after prefix workers (Ok _) = after ≡ record before { files = with_empty before.files (worker_files prefix 0 workers) }
OpensAll before after prefix workers (Err _) =
    (count : ℕ) × (count ≤ workers)
    × (after ≡ record before { files = with_empty before.files (worker_files prefix 0 count); faults = after.faults })

-- each file is what its sink took
abbrev pub AreTaken : List SinkTold → (contents : List (List ℕ)) → Type 0
AreTaken [] [] = Unit {0}
AreTaken [] (bytes ∷ contents) = ⊥
AreTaken (sink ∷ sinks) [] = ⊥
AreTaken (sink ∷ sinks) (bytes ∷ contents) = IfSome sink.taken (λ taken. bytes ≡ taken) × AreTaken sinks contents

-- each file is a front of what its sink took
abbrev pub AreFronts : List SinkTold → (contents : List (List ℕ)) → Type 0
AreFronts [] [] = Unit {0}
AreFronts [] (bytes ∷ contents) = ⊥
AreFronts (sink ∷ sinks) [] = ⊥
AreFronts (sink ∷ sinks) (bytes ∷ contents) =
    IfSome sink.taken (λ taken. (n : ℕ) × (bytes ≡ take n taken)) × AreFronts sinks contents

-- a count of faults, and those of the sinks
abbrev pub with_faults : ℕ → List SinkTold → ℕ
with_faults faults [] = faults
with_faults faults (sink ∷ sinks) = with_faults (count_after faults sink.faults) sinks

-- What closing files leaves: each is what its sink took, or where a close failed a front of that. The sinks' faults are
-- counted, and a close that failed too.
abbrev pub ClosesAll : {T E : Type 0} → (before after : DeskTold) → (names : List (List ℕ)) → List SinkTold → Result T E → Type 0
ClosesAll before after names sinks (Ok _) =
    (contents : List (List ℕ)) × AreTaken sinks contents
    × (after ≡ record before { files = with_all before.files names contents; faults = with_faults before.faults sinks })
ClosesAll before after names sinks (Err _) =
    (contents : List (List ℕ)) × AreFronts sinks contents
    × (after ≡ record before { files = with_all before.files names contents; faults = after.faults })
    × Rose (with_faults before.faults sinks) after.faults
