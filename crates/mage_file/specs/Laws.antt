-- What is read is spelled so and in range, and what is in range is read back from its spelling, in both versions.
use Rattle.std.specs.Prelude.{◌≡◌, ◌≤◌, ◌<◌, ◌+◌, ◌*◌, ◌^◌, ◌↔◌, ℕ, List, length, map, slice_index, Ok}
use Rattle.std.specs.List.{AllByRecursion, sum_by}
use Rattle.mage_instr.specs.declared.replaced.Job.{Job}
use Rattle.mage_instr.specs.declared.replaced.Spot.{Spot}
use Rattle.mage_instr.specs.declared.directive.Directive.{Directive}
use Rattle.mage_instr.specs.declared.directive.Directive.TheVariants as entry
use Rattle.mage_instr.specs.declared.directive.MemProgram.{MemProgram}
use Rattle.mage_directives.specs.Directives.{IsMemProgram}
use Rattle.mage_file.specs.declared.version.Version.{Version}
use Rattle.mage_file.specs.declared.version.Version.TheVariants as version
use Rattle.mage_file.specs.Stores.{store_above}
use Rattle.mage_file.specs.Grammar.{most_bytes, most_first_bytes, spelling_of, spelling_first_of, read_of, read_first_of}

-- each is the number of a byte
abbrev pub AreBytes : List ℕ → Type 0
AreBytes bytes = (i : ℕ) → slice_index bytes i < 256

-- What holds of each value of the types, but not of each number: frames, offsets and slots are below 2 ^ 16, and there
-- are three arguments.
pub record IsSpotValue (spot : Spot) : Type 0 where
  pub frame : spot.frame < 2 ^ 16
  pub offset : spot.offset < 2 ^ 16

pub record IsJobValue (job : Job) : Type 0 where
  pub out : IsSpotValue job.out
  pub count : length job.args ≡ 3
  pub args : AllByRecursion IsSpotValue job.args

abbrev pub IsDirectiveValue : Directive → Type 0
IsDirectiveValue (entry.Fresh frame page) = frame < 2 ^ 16
IsDirectiveValue (entry.IssueIn slot page) = slot < 2 ^ 16
IsDirectiveValue (entry.FinishIn slot frame) = (slot < 2 ^ 16) × (frame < 2 ^ 16)
IsDirectiveValue (entry.IssueOut slot frame page) = (slot < 2 ^ 16) × (frame < 2 ^ 16)
IsDirectiveValue (entry.FinishOut slot) = slot < 2 ^ 16
IsDirectiveValue (entry.Do job) = IsJobValue job

abbrev pub IsValue : MemProgram → Type 0
IsValue program = AllByRecursion (AllByRecursion IsDirectiveValue) program.workers

-- the bytes are a file of the program, which is in range
pub record IsFileOf (program : MemProgram) (bytes : List ℕ) : Type 0 where
  pub spelled : bytes ≡ spelling_of program
  pub in_range : IsMemProgram program
  pub value : IsValue program
  pub short : length bytes ≤ most_bytes

-- the reader gives a program exactly where the bytes are its file
abbrev pub ReadsExactly : Type 0
ReadsExactly = (bytes : List ℕ) (program : MemProgram) → AreBytes bytes → (read_of bytes ≡ Ok program) ↔ IsFileOf program bytes

-- what is spelled is read back
abbrev pub ReadsBack : Type 0
ReadsBack = (program : MemProgram) → IsMemProgram program → IsValue program → length (spelling_of program) ≤ most_bytes → read_of (spelling_of program) ≡ Ok program

-- the stores are those that the first version gives, which doesn't spell them
abbrev pub HasFirstStores : MemProgram → Type 0
HasFirstStores program = program.stores ≡ map store_above program.workers

-- the bytes are a file of the program in the first version
pub record IsFirstFileOf (program : MemProgram) (bytes : List ℕ) : Type 0 where
  pub spelled : bytes ≡ spelling_first_of program
  pub in_range : IsMemProgram program
  pub value : IsValue program
  pub stores : HasFirstStores program
  pub short : length bytes ≤ most_first_bytes

-- the reader of the first version gives a program exactly where the bytes are its file
abbrev pub ReadsFirstExactly : Type 0
ReadsFirstExactly = (bytes : List ℕ) (program : MemProgram) → AreBytes bytes → (read_first_of bytes ≡ Ok program) ↔ IsFirstFileOf program bytes

-- what is spelled in the first version is read back
abbrev pub ReadsFirstBack : Type 0
ReadsFirstBack =
    (program : MemProgram) → IsMemProgram program → IsValue program → HasFirstStores program → length (spelling_first_of program) ≤ most_first_bytes
    → read_first_of (spelling_first_of program) ≡ Ok program

-- ---- how long a file is

-- the bytes before the parts of the workers
abbrev pub front_bytes : ℕ
front_bytes = 28

-- the bytes of a directive
abbrev pub directive_bytes : ℕ
directive_bytes = 20

-- the bytes of a worker's part before its directives
abbrev pub part_bytes : Version → ℕ
part_bytes version.First = 4
part_bytes version.Second = 8

-- how many directives there are
abbrev pub directives_in : MemProgram → ℕ
directives_in program = sum_by (λ part. length part) program.workers

-- the bytes of a file of a version
abbrev pub bytes_in : Version → MemProgram → ℕ
bytes_in v program = front_bytes + part_bytes v * length program.workers + directive_bytes * directives_in program

-- the spellings of a program have so many bytes
pub record IsSoLong (program : MemProgram) : Type 0 where
  pub first : length (spelling_first_of program) ≡ bytes_in version.First program
  pub second : length (spelling_of program) ≡ bytes_in version.Second program

-- how long a spelling is depends on the numbers of workers and of directives alone, where each worker has a store
abbrev pub SpellsSoLong : Type 0
SpellsSoLong = (program : MemProgram) → length program.stores ≡ length program.workers → IsSoLong program

-- both programs have as many directives in each worker
abbrev pub AreAlike : (old new : MemProgram) → Type 0
AreAlike old new = map (λ part. length part) new.workers ≡ map (λ part. length part) old.workers

-- a program that is like one with a file of the first version has no file that is too long
abbrev pub FitsAgain : Type 0
FitsAgain =
    (old new : MemProgram) → IsMemProgram old → length (spelling_first_of old) ≤ most_first_bytes → length new.stores ≡ length new.workers → AreAlike old new
    → length (spelling_of new) ≤ most_bytes
