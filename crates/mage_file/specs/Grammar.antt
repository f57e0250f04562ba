-- The fields of the file of a memory program, in their order, for both versions. From this one list both are taken: what is
-- read of some bytes, and how a program is spelled.
use Rattle.std.specs.Prelude.{ℕ, Bool, true, false, List, [], ◌∷◌, ◌++◌, length, map, nat_lt, ◌==◌, codes, Option, Some, None, Result, Ok, Err, if◌then◌else◌}
use Rattle.std.specs.Int.{w8, w16, w32, w64, to_be_bytes}
use Rattle.mage_instr.specs.declared.op.Op.{Op}
use Rattle.mage_instr.specs.declared.op.Op.TheVariants as op
use Rattle.mage_instr.specs.declared.replaced.Job.{Job}
use Rattle.mage_instr.specs.declared.replaced.Spot.{Spot}
use Rattle.mage_instr.specs.declared.replaced.Limits.{Limits}
use Rattle.mage_instr.specs.declared.directive.Directive.{Directive}
use Rattle.mage_instr.specs.declared.directive.Directive.TheVariants as entry
use Rattle.mage_instr.specs.declared.directive.MemProgram.{MemProgram}
use Rattle.mage_instr.specs.Limits.{most_frames, most_ahead}
use Rattle.mage_instr.specs.Opcodes.{arity_of, has_result, greatest_width, most_workers}
use Rattle.mage_directives.specs.Directives.{no_spot, arg_at, most_pages}
use Rattle.mage_file.specs.declared.fault.FileFault.{FileFault}
use Rattle.mage_file.specs.declared.fault.FileFault.TheVariants as faults
use Rattle.mage_file.specs.declared.kind.Kind.{Kind}
use Rattle.mage_file.specs.declared.kind.Kind.TheVariants as kind
use Rattle.mage_file.specs.declared.kind.Row.{Row}
use Rattle.mage_file.specs.declared.section.Section.{Section}
use Rattle.mage_file.specs.declared.version.Version.{Version}
use Rattle.mage_file.specs.declared.version.Version.TheVariants as version
use Rattle.mage_file.specs.Codes.{code_of, kind_with, kind_of}
use Rattle.mage_file.specs.Rules.{within, most_if, most_of_two_bytes, greatest_page, is_page, is_buffer, is_imm, is_immediate, is_const}
use Rattle.mage_file.specs.Stores.{pages_in}
use Rattle.mage_file.specs.Formats.{Rest, after, Format, ◌of◌, ◌>>=◌, done, either, number_of, number, field, text, listed, place}

-- ---- instructions

-- frame and offset, where there is a spot; else both are 0
unfoldable pub spot : (there : Bool) → Format Spot
spot there = do
  frame ← field w16 (within 0 (most_if there most_of_two_bytes)) of (λ (s : Spot). s.frame)
  offset ← field w16 (within 0 (most_if there most_of_two_bytes)) of (λ (s : Spot). s.offset)
  done (record { frame = frame; offset = offset })

-- an instruction but Const, behind its width
unfoldable pub instruction : (workers own : ℕ) → Op → (width : ℕ) → Format Job
instruction workers own o width = do
  imm ← field w16 (is_immediate workers own o width) of (λ (j : Job). j.imm)
  out ← spot (has_result o) of (λ (j : Job). j.out)
  first ← spot (nat_lt 0 (arity_of o)) of arg_at 0
  second ← spot (nat_lt 1 (arity_of o)) of arg_at 1
  third ← spot (nat_lt 2 (arity_of o)) of arg_at 2
  done (record { op = o; width = width; imm = imm; out = out; args = first ∷ second ∷ third ∷ [] })

-- Const, behind its width: its value stands where others have two arguments
unfoldable pub constant : (width : ℕ) → Format Job
constant width = do
  none ← field w16 (within 0 0) of (λ (j : Job). 0)
  out ← spot (has_result op.Const) of (λ (j : Job). j.out)
  value ← field w64 (is_imm op.Const width) of (λ (j : Job). j.imm)
  third ← spot false of arg_at 2
  done (record { op = op.Const; width = width; imm = value; out = out; args = no_spot ∷ no_spot ∷ third ∷ [] })

-- an instruction of one of so many workers, behind its opcode
unfoldable pub job : (workers own : ℕ) → Op → Format Job
job workers own o = do
  width ← field w8 (within 1 greatest_width) of (λ (j : Job). j.width)
  either (is_const o) (constant width) (instruction workers own o width)

-- ---- the other directives

-- a directive but Do behind its code, with a slot, a frame and a page where they are there
unfoldable pub row : (slot frame page : Bool) → Format Row
row slot frame page = do
  none ← field w8 (within 0 0) of (λ (r : Row). 0)
  s ← field w16 (within 0 (most_if slot most_of_two_bytes)) of (λ (r : Row). r.slot)
  f ← field w16 (within 0 (most_if frame most_of_two_bytes)) of (λ (r : Row). r.frame)
  none ← field w16 (within 0 0) of (λ (r : Row). 0)
  p ← field w32 (within 0 (most_if page greatest_page)) of (λ (r : Row). r.page)
  none ← field w32 (within 0 0) of (λ (r : Row). 0)
  none ← field w32 (within 0 0) of (λ (r : Row). 0)
  done (record { slot = s; frame = f; page = p })

-- what a directive but Do has; what it doesn't have is 0
abbrev pub row_in : Directive → Row
row_in (entry.Fresh frame page) = record { slot = 0; frame = frame; page = page }
row_in (entry.IssueIn slot page) = record { slot = slot; frame = 0; page = page }
row_in (entry.FinishIn slot frame) = record { slot = slot; frame = frame; page = 0 }
row_in (entry.IssueOut slot frame page) = record { slot = slot; frame = frame; page = page }
row_in (entry.FinishOut slot) = record { slot = slot; frame = 0; page = 0 }
row_in (entry.Do job) = record { slot = 0; frame = 0; page = 0 }

-- the instruction of a Do; another directive has none, for which any stands
abbrev pub job_in : Directive → Job
job_in (entry.Do job) = job
job_in _ = record { op = op.Input; width = 0; imm = 0; out = no_spot; args = [] }

-- ---- directives

-- a directive of this kind, behind its code
unfoldable pub directive_of : (workers own : ℕ) → Kind → Format Directive
directive_of workers own (kind.Do o) = do
  j ← job workers own o of job_in
  done (entry.Do j)
directive_of workers own kind.Fresh = do
  r ← row false true true of row_in
  done (entry.Fresh r.frame r.page)
directive_of workers own kind.IssueIn = do
  r ← row true false true of row_in
  done (entry.IssueIn r.slot r.page)
directive_of workers own kind.FinishIn = do
  r ← row true true false of row_in
  done (entry.FinishIn r.slot r.frame)
directive_of workers own kind.IssueOut = do
  r ← row true true true of row_in
  done (entry.IssueOut r.slot r.frame r.page)
directive_of workers own kind.FinishOut = do
  r ← row true false false of row_in
  done (entry.FinishOut r.slot)

abbrev pub known : (at_place : ℕ) → Option Kind → Rest → Result (Kind × Rest) FileFault
known at_place (Some k) left = Ok (k, left)
known at_place None left = Err (faults.Field at_place)

-- the first byte of a directive, which has to be the code of a kind
unfoldable pub code : Format Kind
code = record {
  read = λ rest. after (number_of w8 rest) (λ n left. known (place rest) (kind_with n) left);
  spell = λ k more. to_be_bytes w8 (code_of k) ++ more;
}

-- a directive of one of so many workers
unfoldable pub directive : (workers own : ℕ) → Format Directive
directive workers own = do
  k ← code of kind_of
  directive_of workers own k

-- ---- workers

-- what a file tells of the pages of a store: the first version tells nothing
unfoldable pub store : Version → Format ℕ
store version.First = done 0
store version.Second = field w32 (within 0 most_pages)

-- the number of pages that is told, for which 0 stands in the first version
abbrev pub told : Version → Section → ℕ
told version.First s = 0
told version.Second s = s.pages

-- the part of one of so many workers, with how many directives it has
unfoldable pub section : Version → (workers own : ℕ) → Format Section
section v workers own = do
  pages ← store v of told v
  count ← number w32 of (λ (s : Section). length s.directives)
  directives ← listed count (λ _. directive workers own) of (λ (s : Section). s.directives)
  done (record { pages = pages_in v pages directives; directives = directives })

-- each worker's store and directives together
abbrev pub sections_of : (stores : List ℕ) → (workers : List (List Directive)) → List Section
sections_of (pages ∷ stores) (directives ∷ workers) = record { pages = pages; directives = directives } ∷ sections_of stores workers
sections_of _ _ = []

abbrev pub sections_in : MemProgram → List Section
sections_in program = sections_of program.stores program.workers

-- ---- the file

unfoldable pub limits : Format Limits
limits = do
  page ← field w32 is_page of (λ (y : Limits). y.page)
  frames ← field w32 (within 1 most_frames) of (λ (y : Limits). y.frames)
  buffer ← field w32 (is_buffer page frames) of (λ (y : Limits). y.buffer)
  ahead ← field w32 (within 0 most_ahead) of (λ (y : Limits). y.ahead)
  done (record { page = page; frames = frames; buffer = buffer; ahead = ahead })

-- what a file calls its version
abbrev pub digits : Version → List ℕ
digits version.First = codes "01"
digits version.Second = codes "02"

-- how many workers there are
unfoldable pub head : Version → Format ℕ
head v = do
  magic ← text (codes "MAGEMP") faults.Magic of (λ (n : ℕ). tt)
  version ← text (digits v) faults.Version of (λ (n : ℕ). tt)
  workers ← field w16 (within 1 most_workers) of (λ (n : ℕ). n)
  none ← field w16 (within 0 0) of (λ (n : ℕ). 0)
  done workers

-- the program of some sections, within these limits
abbrev pub program_of : Limits → List Section → MemProgram
program_of bounds sections = record { limits = bounds; stores = map (λ s. s.pages) sections; workers = map (λ s. s.directives) sections }

-- a whole file
unfoldable pub file : Version → Format MemProgram
file v = do
  workers ← head v of (λ (m : MemProgram). length m.workers)
  bounds ← limits of (λ (m : MemProgram). m.limits)
  sections ← listed workers (section v workers) of sections_in
  done (program_of bounds sections)

-- ---- whole files

-- the most bytes of a file
abbrev pub most_bytes : ℕ
most_bytes = 1073741824

-- the most bytes of a file of the first version: the file of its program in the second is at most 64 bytes longer
abbrev pub most_first_bytes : ℕ
most_first_bytes = 1073741760

-- the most bytes of a file of a version
abbrev pub most_in : Version → ℕ
most_in version.First = most_first_bytes
most_in version.Second = most_bytes

-- the spelling of a memory program in a version
abbrev pub spelling_in : Version → MemProgram → List ℕ
spelling_in v program = (file v).spell program []

-- the one spelling of a memory program
abbrev pub spelling_of : MemProgram → List ℕ
spelling_of program = spelling_in version.Second program

-- its spelling in the first version
abbrev pub spelling_first_of : MemProgram → List ℕ
spelling_first_of program = spelling_in version.First program

-- a value that has nothing behind it
abbrev pub alone : {A : Type 0} → A → Rest → Result A FileFault
alone x rest = if length rest.bytes == 0 then Ok x else Err (faults.Extra (place rest))

abbrev pub ended : {A : Type 0} → Result (A × Rest) FileFault → Result A FileFault
ended (Ok x) = alone x.0 x.1
ended (Err fault) = Err fault

-- The memory program that the bytes of a file of this version spell, or the first fault in their order. That there are too
-- many bytes comes before all others.
unfoldable pub read_in : Version → List ℕ → Result MemProgram FileFault
read_in v bytes =
    if nat_lt (most_in v) (length bytes) then Err faults.Long
    else ended ((file v).read (record { bytes = bytes; total = length bytes }))

-- what the bytes of a file say
abbrev pub read_of : List ℕ → Result MemProgram FileFault
read_of bytes = read_in version.Second bytes

-- what the bytes of a file of the first version say
abbrev pub read_first_of : List ℕ → Result MemProgram FileFault
read_first_of bytes = read_in version.First bytes
