-- What is warned of a refusal: one line.
use Rattle.std.specs.Prelude.{ℕ, List, [], ◌∷◌, codes}
use Rattle.std.specs.List.{concat}
use Rattle.std.specs.Fmt.{decimal}
use Rattle.hex.specs.Hex.{encode_lower}
use Rattle.mage_instr.specs.declared.replaced.Tight.{Tight}
use Rattle.mage_instr.specs.declared.replaced.Tight.TheVariants as tight
use Rattle.mage_lex.specs.declared.fault.LangKind.{LangKind}
use Rattle.mage_lex.specs.declared.fault.LangKind.TheVariants as kind
use Rattle.mage_instr.specs.declared.party.Party.{Party}
use Rattle.mage_instr.specs.declared.party.Party.TheVariants as party
use Rattle.mage_planner.specs.declared.refusal.Refusal.{Refusal}
use Rattle.mage_planner.specs.declared.refusal.Refusal.TheVariants as refusal
use Rattle.mage_planner.specs.declared.refusal.ProgramFault.{ProgramFault}
use Rattle.mage_planner.specs.declared.refusal.ProgramFault.TheVariants as wrong
use Rattle.mage_planner.specs.declared.refusal.StreamFault.{StreamFault}
use Rattle.mage_planner.specs.declared.refusal.StreamFault.TheVariants as stream
use Rattle.mage_planner.specs.declared.status.Status.{Status}
use Rattle.mage_planner.specs.declared.status.Status.TheVariants as status

-- the status of a refusal
abbrev pub status_of : Refusal → Status
status_of refusal.Words = status.Words
status_of (refusal.Language kind line column) = status.Language
status_of (refusal.Limits worker tight) = status.Limits
status_of (refusal.InputLine party line) = status.InputText
status_of (refusal.InputTooLong party) = status.InputText
status_of refusal.InputSeed = status.InputText
status_of (refusal.InputLabels worker) = status.InputText
status_of (refusal.MemoryProgram fault) = status.MemoryProgram
status_of (refusal.CheckNo worker directive) = status.CheckNo
status_of (refusal.Store worker) = status.Store
status_of (refusal.Damaged worker damage) = status.Damaged
status_of (refusal.Stream worker fault) = status.Stream
status_of refusal.Desk = status.Desk
status_of refusal.Memory = status.Memory

-- the name of what can be wrong with a source
abbrev pub kind_name : LangKind → List ℕ
kind_name kind.BadByte = codes "BadByte"
kind_name kind.BadNumber = codes "BadNumber"
kind_name kind.TooLong = codes "TooLong"
kind_name kind.Syntax = codes "Syntax"
kind_name kind.TooDeep = codes "TooDeep"
kind_name kind.UnknownName = codes "UnknownName"
kind_name kind.Duplicate = codes "Duplicate"
kind_name kind.WidthDiffers = codes "WidthDiffers"
kind_name kind.WorkerDiffers = codes "WorkerDiffers"
kind_name kind.IndexOut = codes "IndexOut"
kind_name kind.ConstFault = codes "ConstFault"
kind_name kind.BadWidth = codes "BadWidth"
kind_name kind.BadWorker = codes "BadWorker"

abbrev pub party_name : Party → List ℕ
party_name party.Garbler = codes "garbler"
party_name party.Evaluator = codes "evaluator"

-- what an instruction needs and doesn't have, to the end of the line
abbrev pub tight_parts : Tight → List (List ℕ)
tight_parts (tight.Frames instr needs has) =
    decimal instr ∷ codes " needs " ∷ decimal needs ∷ codes " pages, has " ∷ decimal has ∷ codes " frames\n" ∷ []
tight_parts (tight.Buffer instr) = decimal instr ∷ codes " needs a buffer slot\n" ∷ []
tight_parts (tight.Page instr class) =
    decimal instr ∷ codes " needs a page of " ∷ decimal class ∷ codes " wires\n" ∷ []

-- a worker and its directive, to the end of the line
abbrev pub directive_parts : (worker directive : ℕ) → List (List ℕ)
directive_parts worker directive =
    codes "worker " ∷ decimal worker ∷ codes " directive " ∷ decimal directive ∷ codes "\n" ∷ []

-- what is wrong with a memory program, to the end of the line
abbrev pub program_parts : ProgramFault → List (List ℕ)
program_parts wrong.TooLong = codes "too long\n" ∷ []
program_parts wrong.Magic = codes "bad magic\n" ∷ []
program_parts wrong.Version = codes "bad version\n" ∷ []
program_parts (wrong.Short place) = codes "short at " ∷ decimal place ∷ codes "\n" ∷ []
program_parts (wrong.Field place) = codes "bad field at " ∷ decimal place ∷ codes "\n" ∷ []
program_parts (wrong.Extra place) = codes "extra at " ∷ decimal place ∷ codes "\n" ∷ []
program_parts (wrong.Range worker directive) = codes "Range " ∷ directive_parts worker directive
program_parts (wrong.SlotState worker directive) = codes "SlotState " ∷ directive_parts worker directive
program_parts (wrong.PageState worker directive) = codes "PageState " ∷ directive_parts worker directive
program_parts (wrong.Width worker directive) = codes "Width " ∷ directive_parts worker directive
program_parts (wrong.Links worker directive) = codes "Links " ∷ directive_parts worker directive

-- what is wrong with a stream, to the end of the line
abbrev pub stream_parts : StreamFault → List (List ℕ)
stream_parts (stream.Short place) = codes "short at " ∷ decimal place ∷ codes "\n" ∷ []
stream_parts (stream.Long place) = codes "long at " ∷ decimal place ∷ codes "\n" ∷ []
stream_parts (stream.Colour place) = codes "colour at " ∷ decimal place ∷ codes "\n" ∷ []

-- the parts of a refusal's line
abbrev pub line_parts : Refusal → List (List ℕ)
line_parts refusal.Words = codes "mage: bad words\n" ∷ []
line_parts (refusal.Language kind line column) =
    codes "mage: source " ∷ decimal line ∷ codes ":" ∷ decimal column ∷ codes ": " ∷ kind_name kind
    ∷ codes "\n" ∷ []
line_parts (refusal.Limits worker tight) =
    codes "mage: limits: worker " ∷ decimal worker ∷ codes " instruction " ∷ tight_parts tight
line_parts (refusal.InputLine party line) =
    codes "mage: input " ∷ party_name party ∷ codes " line " ∷ decimal line ∷ codes "\n" ∷ []
line_parts (refusal.InputTooLong party) = codes "mage: input " ∷ party_name party ∷ codes " too long\n" ∷ []
line_parts refusal.InputSeed = codes "mage: input seed\n" ∷ []
line_parts (refusal.InputLabels worker) = codes "mage: input labels " ∷ decimal worker ∷ codes "\n" ∷ []
line_parts (refusal.MemoryProgram fault) = codes "mage: memory program: " ∷ program_parts fault
line_parts (refusal.CheckNo worker directive) = codes "mage: check: " ∷ directive_parts worker directive
line_parts (refusal.Store worker) = codes "mage: store fault: worker " ∷ decimal worker ∷ codes "\n" ∷ []
line_parts (refusal.Damaged worker damage) =
    codes "mage: damaged: worker " ∷ decimal worker ∷ codes " page " ∷ decimal damage.page
    ∷ codes " kept " ∷ encode_lower damage.kept ∷ codes " found " ∷ encode_lower damage.found ∷ codes "\n" ∷ []
line_parts (refusal.Stream worker fault) = codes "mage: stream of worker " ∷ decimal worker ∷ codes ": " ∷ stream_parts fault
line_parts refusal.Desk = codes "mage: desk fault\n" ∷ []
line_parts refusal.Memory = codes "mage: no memory\n" ∷ []

-- the line of a refusal
abbrev pub line_of : Refusal → List ℕ
line_of refusal = concat (line_parts refusal)
