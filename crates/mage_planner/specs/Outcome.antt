-- What a command comes to, in the order of work.
use Rattle.std.specs.Prelude.{ℕ, zero, suc, ◌+◌, ◌*◌, ◌==◌, List, [], ◌∷◌, ◌++◌, length, Option, Some, None, option_map, Result, Ok, Err, ok_or, codes, if◌then◌else◌}
use Rattle.std.specs.List.{concat}
use Rattle.std.specs.Fmt.{decimal}
use Rattle.mage_base.specs.Desk.{Files}
use Rattle.mage_chains.specs.Chains.{◌>>=◌}
use Rattle.mage_gen.specs.declared.order.GenOrder.{GenOrder}
use Rattle.mage_gen.specs.Generator.{garbler_text, evaluator_text}
use Rattle.mage_gen.specs.Source.{source_text}
use Rattle.mage_instr.specs.declared.replaced.Limits.{Limits}
use Rattle.mage_lex.specs.declared.fault.LangFault.{LangFault}
use Rattle.mage_lex.specs.declared.fault.LangFault.TheVariants as lang
use Rattle.mage_lex.specs.declared.fault.LangKind.TheVariants as kind
use Rattle.mage_instr.specs.declared.party.Party.{Party}
use Rattle.mage_instr.specs.declared.party.Party.TheVariants as party
use Rattle.mage_meaning.specs.Given.{Given}
use Rattle.mage_meaning.specs.Value.{value_of}
use Rattle.mage_instr.specs.declared.fault.DriverFault.{DriverFault}
use Rattle.mage_instr.specs.declared.fault.DriverFault.TheVariants as broken
use Rattle.mage_instr.specs.declared.instr.Instr.{Instr}
use Rattle.mage_instr.specs.declared.instr.Program.{Program}
use Rattle.mage_instr.specs.declared.directive.MemProgram.{MemProgram}
use Rattle.mage_instr.specs.Inputs.{input_widths_of}
use Rattle.mage_label.specs.declared.labels.Label.{Label}
use Rattle.mage_label_files.specs.Labels.{labels_from, wires_in}
use Rattle.mage_lending.specs.Names.{worker_file}
use Rattle.mage_linked.specs.Workers.{list_at}
use Rattle.mage_carry.specs.declared.carry.Carry.{Carry}
use Rattle.mage_carry.specs.declared.carry.Carry.TheVariants as carry
use Rattle.mage_carry.specs.Carrying.{carries_of}
use Rattle.mage_file.specs.declared.fault.FileFault.{FileFault}
use Rattle.mage_file.specs.declared.fault.FileFault.TheVariants as spelled
use Rattle.mage_file.specs.Grammar.{spelling_of, read_of, read_first_of}
use Rattle.mage_rehome.specs.Rehomed.{rehomed_of}
use Rattle.mage_verify.specs.declared.fault.VerifyFault.{VerifyFault}
use Rattle.mage_verify.specs.declared.fault.VerifyFault.TheVariants as verified
use Rattle.mage_verify.specs.Faults.{fault_of}
use Rattle.mage_streams.specs.Garbling.{bytes_of}
use Rattle.mage_streams.specs.Streams.{dealt_labels, garbled_stream}
use Rattle.mage_texts.specs.InputText.{inputs_of}
use Rattle.mage_texts.specs.OutputText.{text_of}
use Rattle.mage_pipe.specs.declared.loaded.Loaded.{Loaded}
use Rattle.mage_pipe.specs.declared.fault.PlanFault.{PlanFault}
use Rattle.mage_pipe.specs.declared.fault.PlanFault.TheVariants as plan
use Rattle.mage_pipe.specs.declared.stats.WorkerStats.{WorkerStats}
use Rattle.mage_pipe.specs.Loading.{loaded_of}
use Rattle.mage_pipe.specs.MemoryProgram.{memory_program_of}
use Rattle.mage_pipe.specs.Summary.{stats_of}
use Rattle.mage_source_runs.specs.Moves.{Moves, moves_of}
use Rattle.mage_planner.specs.declared.refusal.Refusal.{Refusal}
use Rattle.mage_planner.specs.declared.refusal.Refusal.TheVariants as refusal
use Rattle.mage_planner.specs.declared.refusal.ProgramFault.TheVariants as wrong
use Rattle.mage_planner.specs.declared.refusal.StreamFault.TheVariants as stream
use Rattle.mage_planner.specs.Evaluated.{fault_with, decoded_with}
use Rattle.mage_planner.specs.Found.{File, Absent, Long, Held, Found, SEED_BYTES, nothing_found, found_for}
use Rattle.mage_planner.specs.SummaryText.{summary_text}
use Rattle.mage_words.specs.Words.{Driver, Plain, Garble, Eval, Request, Solo, Stats, Deal, Plan, Check, Upgrade, Gen, SoloRequest, StatsRequest, DealRequest, PlanRequest, CheckRequest, UpgradeRequest, GenRequest, request_of}

-- one file that a command writes
pub record NewFile : Type 0 where
  pub name : List ℕ
  pub bytes : List ℕ

-- the streams that a run reads
pub record Reading : Type 0 where
  -- what the names of their files begin with
  pub stem : List ℕ
  -- each worker's file, as the run finds it
  pub files : ℕ → File
  -- what stops the run at the stream of a worker, if anything does
  pub wrong : (worker : ℕ) → Option Refusal

-- what a command does that isn't refused
pub record Done : Type 0 where
  -- the text that it says
  pub said : List ℕ
  -- the files that it writes, in this order
  pub files : List NewFile
  -- the stream files that it fills while its memory program runs, in this order
  pub streams : List NewFile
  -- how often it reads and writes the store of each worker; none where it asks for no store
  pub moves : List Moves
  -- the streams that it reads while its memory program runs, if it does
  pub reads : Option Reading

-- it says a text, writes no file and asks for no store
abbrev pub says : List ℕ → Done
says text = record { said = text; files = []; streams = []; moves = []; reads = None }

-- it runs a memory program that moves so many pages, and says a text
abbrev pub runs : List ℕ → List Moves → Done
runs text moves = record { said = text; files = []; streams = []; moves = moves; reads = None }

-- it says a text and writes files
abbrev pub says_and_writes : List ℕ → List NewFile → Done
says_and_writes text files = record { said = text; files = files; streams = []; moves = []; reads = None }

-- the bytes of a file, or what its length or its absence is answered with
abbrev pub bytes_or : Refusal → File → Result (List ℕ) Refusal
bytes_or too_long Absent = Err refusal.Desk
bytes_or too_long Long = Err too_long
bytes_or too_long (Held bytes) = Ok bytes

-- a fault of a text is its source's
abbrev pub lang_refusal : LangFault → Refusal
lang_refusal (lang.At kind line column) = refusal.Language kind line column
lang_refusal lang.Memory = refusal.Memory

abbrev pub or_language : {T : Type 0} → Result T LangFault → Result T Refusal
or_language (Ok x) = Ok x
or_language (Err fault) = Err (lang_refusal fault)

-- a fault of a plan is its source's, or a limit that is too low
abbrev pub plan_refusal : PlanFault → Refusal
plan_refusal (plan.Lang fault) = lang_refusal fault
plan_refusal (plan.Tight worker tight) = refusal.Limits worker tight
plan_refusal plan.Memory = refusal.Memory

abbrev pub or_limits : {T : Type 0} → Result T PlanFault → Result T Refusal
or_limits (Ok x) = Ok x
or_limits (Err fault) = Err (plan_refusal fault)

-- a source that is too long is refused as a whole
abbrev pub long_source : Refusal
long_source = refusal.Language kind.TooLong 0 0

-- the tree of a source's file, and the program that it unrolls to
unfoldable pub source_of : File → Result Loaded Refusal
source_of file = do
  text ← bytes_or long_source file
  or_language (loaded_of text)

-- what a plan for the program costs
abbrev pub costs_of : Limits → Loaded → Result (List WorkerStats) Refusal
costs_of limits loaded = or_limits (stats_of limits loaded.program.workers)

-- the memory program that the passes make of it
abbrev pub program_for : Limits → Loaded → Result MemProgram Refusal
program_for limits loaded = or_limits (memory_program_of limits loaded.program.workers)

abbrev pub or_line : Party → Result (List (List ℕ)) ℕ → Result (List (List ℕ)) Refusal
or_line whose (Ok numbers) = Ok numbers
or_line whose (Err line) = Err (refusal.InputLine whose line)

-- the numbers of a party's input text
unfoldable pub numbers_of : Party → Loaded → File → Result (List (List ℕ)) Refusal
numbers_of whose loaded file = do
  text ← bytes_or (refusal.InputTooLong whose) file
  or_line whose (inputs_of text (input_widths_of whose loaded.program))

-- what is said of the outputs
abbrev pub said_of : Loaded → Given → List ℕ
said_of loaded given = text_of (value_of loaded.source.workers loaded.source.body given)

-- what `solo` does in plain: it runs the memory program of the source on the inputs, and says what the source means on them
unfoldable pub solo_outcome : Found → SoloRequest → Result Done Refusal
solo_outcome found solo = do
  loaded ← source_of found.source
  program ← program_for solo.limits loaded
  garbler ← numbers_of party.Garbler loaded found.garbler
  evaluator ← numbers_of party.Evaluator loaded found.evaluator
  Ok (runs (said_of loaded (record { garbler = garbler; evaluator = evaluator })) (moves_of program))

-- what `stats` does: it says the summary
unfoldable pub stats_outcome : Found → StatsRequest → Result Done Refusal
stats_outcome found stats = do
  loaded ← source_of found.source
  costs ← costs_of stats.limits loaded
  Ok (says (summary_text costs))

-- a seed has just 32 bytes
abbrev pub if_seed : List ℕ → Result (List ℕ) Refusal
if_seed bytes = if length bytes == SEED_BYTES then Ok bytes else Err refusal.InputSeed

unfoldable pub seed_of : File → Result (List ℕ) Refusal
seed_of file = do
  bytes ← bytes_or refusal.InputSeed file
  if_seed bytes

-- The labels that are dealt to a worker's evaluator. The values of the garbler don't matter to them (mage_deal::law_of_dealing).
abbrev pub label_bytes : Program → (seed : List ℕ) → (evaluator : List (List ℕ)) → (worker : ℕ) → List ℕ
label_bytes program seed evaluator worker =
    bytes_of (dealt_labels program seed (λ w. []) (list_at evaluator) worker)

-- The label file of a worker: its name is the stem, a dot and the worker's number.
abbrev pub label_file : (stem : List ℕ) → Program → (seed : List ℕ) → (evaluator : List (List ℕ)) → (worker : ℕ) → NewFile
label_file stem program seed evaluator worker = record {
  name = concat (stem ∷ codes "." ∷ decimal worker ∷ []);
  bytes = label_bytes program seed evaluator worker;
}

-- the label files of so many workers, from this one on
abbrev pub label_files : (stem : List ℕ) → Program → (seed : List ℕ) → (evaluator : List (List ℕ)) → (first count : ℕ) → List NewFile
label_files stem program seed evaluator first zero = []
label_files stem program seed evaluator first (suc count) =
    label_file stem program seed evaluator first ∷ label_files stem program seed evaluator (first + 1) count

-- it says nothing, and writes the label file of each worker
abbrev pub deals : (stem : List ℕ) → Program → (seed : List ℕ) → (evaluator : List (List ℕ)) → Done
deals stem program seed evaluator = says_and_writes [] (label_files stem program seed evaluator 0 (length program.workers))

-- what `deal` does: it writes the label files of the evaluator's numbers
unfoldable pub deal_outcome : Found → DealRequest → Result Done Refusal
deal_outcome found deal = do
  loaded ← source_of found.source
  evaluator ← numbers_of party.Evaluator loaded found.evaluator
  seed ← seed_of found.seed
  Ok (deals deal.labels loaded.program seed evaluator)

-- The stream file of a worker: its name is the stem, a dot and the worker's number, and it has what the worker's garbler says.
abbrev pub stream_file : (stem : List ℕ) → Program → (seed : List ℕ) → (garbler : List (List ℕ)) → (worker : ℕ) → NewFile
stream_file stem program seed garbler worker =
    record { name = worker_file stem worker; bytes = garbled_stream program seed (list_at garbler) worker }

-- the stream files of so many workers, from this one on
abbrev pub stream_files : (stem : List ℕ) → Program → (seed : List ℕ) → (garbler : List (List ℕ)) → (first count : ℕ) → List NewFile
stream_files stem program seed garbler first zero = []
stream_files stem program seed garbler first (suc count) =
    stream_file stem program seed garbler first ∷ stream_files stem program seed garbler (first + 1) count

-- it runs a memory program that moves so many pages, and fills the stream file of each worker; it says nothing
abbrev pub garbles : (stem : List ℕ) → Program → (seed : List ℕ) → (garbler : List (List ℕ)) → List Moves → Done
garbles stem program seed garbler moves = record {
  said = [];
  files = [];
  streams = stream_files stem program seed garbler 0 (length program.workers);
  moves = moves;
  reads = None;
}

-- what `solo` does over the garbler: it garbles the memory program of the source on the garbler's inputs
unfoldable pub garble_outcome : Found → Limits → (stream : List ℕ) → Result Done Refusal
garble_outcome found limits stream = do
  loaded ← source_of found.source
  program ← program_for limits loaded
  garbler ← numbers_of party.Garbler loaded found.garbler
  seed ← seed_of found.seed
  Ok (garbles stream loaded.program seed garbler (moves_of program))

-- ---- streams that are evaluated

-- the label file of a worker has just 16 bytes for each wire of its inputs of the evaluator
abbrev pub if_labels : (wires worker : ℕ) → List ℕ → Result (List Label) Refusal
if_labels wires worker bytes = if length bytes == 16 * wires then Ok (labels_from wires bytes) else Err (refusal.InputLabels worker)

unfoldable pub labels_due : (wires worker : ℕ) → File → Result (List Label) Refusal
labels_due wires worker file = do
  bytes ← bytes_or (refusal.InputLabels worker) file
  if_labels wires worker bytes

-- the labels of workers with these instructions, from this worker on
abbrev pub labels_of : (ℕ → File) → (first : ℕ) → List (List Instr) → Result (List (List Label)) Refusal
labels_of files first [] = Ok []
labels_of files first (instrs ∷ workers) = do
  own ← labels_due (wires_in instrs) first (files first)
  others ← labels_of files (first + 1) workers
  Ok (own ∷ others)

-- a stream's bytes: of one that isn't there there are none
abbrev pub bytes_held : File → List ℕ
bytes_held Absent = []
bytes_held Long = []
bytes_held (Held bytes) = bytes

-- the streams of so many workers, from this one on
abbrev pub streams_held : (ℕ → File) → (first count : ℕ) → List (List ℕ)
streams_held files first zero = []
streams_held files first (suc count) = bytes_held (files first) ∷ streams_held files (first + 1) count

-- a fault of a worker's stream; a source that fails is the desk's fault
abbrev pub stream_refusal : (worker : ℕ) → DriverFault → Refusal
stream_refusal worker (broken.Short place) = refusal.Stream worker (stream.Short place)
stream_refusal worker (broken.Long place) = refusal.Stream worker (stream.Long place)
stream_refusal worker (broken.Colour place) = refusal.Stream worker (stream.Colour place)
stream_refusal worker broken.Sink = refusal.Desk
stream_refusal worker broken.Source = refusal.Desk

-- what stops a run at a stream: it isn't there, or has a fault
abbrev pub stops_at : (worker : ℕ) → File → Option DriverFault → Option Refusal
stops_at worker Absent fault = Some refusal.Desk
stops_at worker Long fault = Some refusal.Desk
stops_at worker (Held bytes) fault = option_map (stream_refusal worker) fault

-- It runs a memory program that moves so many pages over the streams, and says what is decoded.
abbrev pub evaluates : (stem : List ℕ) → Program → (labels : List (List Label)) → (streams : ℕ → File) → List Moves → Done
evaluates stem program labels streams moves =
    let held = streams_held streams 0 (length program.workers) in
    record {
      said = text_of (decoded_with program labels held);
      files = [];
      streams = [];
      moves = moves;
      reads = Some (record { stem = stem; files = streams; wrong = λ worker. stops_at worker (streams worker) (fault_with program labels held worker) });
    }

-- what `solo` does over the evaluator: it evaluates the memory program of the source, with the labels, over the streams
unfoldable pub eval_outcome : Found → Limits → (stream : List ℕ) → Result Done Refusal
eval_outcome found limits stream = do
  loaded ← source_of found.source
  program ← program_for limits loaded
  labels ← labels_of found.labels 0 loaded.program.workers
  Ok (evaluates stream loaded.program labels found.streams (moves_of program))

-- ---- memory programs

-- it writes the file of the memory program, and says what it costs
abbrev pub plans : (out : List ℕ) → MemProgram → List WorkerStats → Done
plans out program costs = says_and_writes (summary_text costs) (record { name = out; bytes = spelling_of program } ∷ [])

-- what `plan` does: it writes the memory program that the passes make of the source
unfoldable pub plan_outcome : Found → PlanRequest → Result Done Refusal
plan_outcome found plan = do
  loaded ← source_of found.source
  program ← program_for plan.limits loaded
  costs ← costs_of plan.limits loaded
  Ok (plans plan.out program costs)

-- bytes that spell no memory program
abbrev pub file_refusal : FileFault → Refusal
file_refusal spelled.Long = refusal.MemoryProgram wrong.TooLong
file_refusal spelled.Magic = refusal.MemoryProgram wrong.Magic
file_refusal spelled.Version = refusal.MemoryProgram wrong.Version
file_refusal (spelled.Short place) = refusal.MemoryProgram (wrong.Short place)
file_refusal (spelled.Field place) = refusal.MemoryProgram (wrong.Field place)
file_refusal (spelled.Extra place) = refusal.MemoryProgram (wrong.Extra place)
file_refusal spelled.Memory = refusal.Memory

abbrev pub or_file : {T : Type 0} → Result T FileFault → Result T Refusal
or_file (Ok x) = Ok x
or_file (Err fault) = Err (file_refusal fault)

-- a memory program that can go wrong
abbrev pub verify_refusal : VerifyFault → Refusal
verify_refusal (verified.Range worker directive) = refusal.MemoryProgram (wrong.Range worker directive)
verify_refusal (verified.SlotState worker directive) = refusal.MemoryProgram (wrong.SlotState worker directive)
verify_refusal (verified.PageState worker directive) = refusal.MemoryProgram (wrong.PageState worker directive)
verify_refusal (verified.Width worker directive) = refusal.MemoryProgram (wrong.Width worker directive)
verify_refusal (verified.Links worker directive) = refusal.MemoryProgram (wrong.Links worker directive)
verify_refusal verified.Memory = refusal.Memory

abbrev pub unless_faulty : {T : Type 0} → Option VerifyFault → T → Result T Refusal
unless_faulty None x = Ok x
unless_faulty (Some fault) x = Err (verify_refusal fault)

-- a file that is too long is refused as a whole
abbrev pub long_program : Refusal
long_program = refusal.MemoryProgram wrong.TooLong

-- the memory program that a file spells
unfoldable pub program_of : File → Result MemProgram Refusal
program_of file = do
  bytes ← bytes_or long_program file
  or_file (read_of bytes)

-- whether a memory program without a fault carries a program
abbrev pub carry_of : Program → MemProgram → Result Carry Refusal
carry_of program plan = unless_faulty (fault_of plan) (carries_of program plan)

-- it carries the program, or the first directive that doesn't
abbrev pub carried_or : Carry → Result Done Refusal
carried_or carry.Yes = Ok (says (codes "carries\n"))
carried_or (carry.No worker directive) = Err (refusal.CheckNo worker directive)

-- what `check` does: it says that the memory program carries the source's program
unfoldable pub check_outcome : Found → CheckRequest → Result Done Refusal
check_outcome found check = do
  loaded ← source_of found.source
  program ← program_of found.program
  carry ← carry_of loaded.program program
  carried_or carry

-- the memory program that a file of the first version spells
unfoldable pub first_program_of : File → Result MemProgram Refusal
first_program_of file = do
  bytes ← bytes_or long_program file
  or_file (read_first_of bytes)

-- the memory program with store pages, unless it has a fault
abbrev pub renamed_of : MemProgram → Result MemProgram Refusal
renamed_of program = unless_faulty (fault_of program) (rehomed_of program)

-- it writes the file of the memory program, and says nothing
abbrev pub upgrades : (out : List ℕ) → MemProgram → Done
upgrades out program = says_and_writes [] (record { name = out; bytes = spelling_of program } ∷ [])

-- what `upgrade` does: it writes a memory program of the first version with store pages
unfoldable pub upgrade_outcome : Found → UpgradeRequest → Result Done Refusal
upgrade_outcome found upgrade = do
  program ← first_program_of found.program
  renamed ← renamed_of program
  Ok (upgrades upgrade.out renamed)

-- ---- generated sources

-- what is to be generated
abbrev pub order_of : GenRequest → GenOrder
order_of gen = record { items = gen.items; rows = gen.rows; workers = gen.workers; number = gen.number }

-- the file whose name is a stem and this ending
abbrev pub ending_file : (stem ending bytes : List ℕ) → NewFile
ending_file stem ending bytes = record { name = concat (stem ∷ ending ∷ []); bytes = bytes }

abbrev pub source_file : GenRequest → NewFile
source_file gen = ending_file gen.out (codes ".mage") (source_text (order_of gen))

abbrev pub garbler_file : GenRequest → NewFile
garbler_file gen = ending_file gen.out (codes ".garbler") (garbler_text (order_of gen))

abbrev pub evaluator_file : GenRequest → NewFile
evaluator_file gen = ending_file gen.out (codes ".evaluator") (evaluator_text (order_of gen))

-- the files of the source and of its input texts
abbrev pub generated_files : GenRequest → List NewFile
generated_files gen = source_file gen ∷ garbler_file gen ∷ evaluator_file gen ∷ []

-- what `solo`, and what `stats`, is asked for that reads these files
abbrev pub solo_for : GenRequest → SoloRequest
solo_for gen = record {
  source = (source_file gen).name;
  driver = Plain (Some (garbler_file gen).name) (Some (evaluator_file gen).name);
  limits = gen.limits;
}

abbrev pub stats_for : GenRequest → StatsRequest
stats_for gen = record { source = (source_file gen).name; limits = gen.limits }

-- what they find
abbrev pub found_for_gen : GenRequest → Found
found_for_gen gen = record nothing_found {
  source = Held (source_file gen).bytes;
  garbler = Held (garbler_file gen).bytes;
  evaluator = Held (evaluator_file gen).bytes;
}

-- it writes files, and says a summary and then what a run says
abbrev pub generates : List NewFile → (summary : List ℕ) → (run : Done) → Done
generates files summary run = record { said = summary ++ run.said; files = files; streams = []; moves = run.moves; reads = None }

-- what `gen` does: it writes the files, and does what `solo` does on them, but that it first says what `stats` says
unfoldable pub gen_outcome : GenRequest → Result Done Refusal
gen_outcome gen = do
  run ← solo_outcome (found_for_gen gen) (solo_for gen)
  summary ← stats_outcome (found_for_gen gen) (stats_for gen)
  Ok (generates (generated_files gen) summary.said run)

-- ---- the words

-- what words ask for
abbrev pub asked_of : List (List ℕ) → Option Request
asked_of words = request_of words

-- what `solo` does over a driver
abbrev pub driven_outcome : Driver → Found → SoloRequest → Result Done Refusal
driven_outcome (Plain garbler evaluator) found solo = solo_outcome found solo
driven_outcome (Garble garbler seed stream) found solo = garble_outcome found solo.limits stream
driven_outcome (Eval stream labels) found solo = eval_outcome found solo.limits stream

abbrev pub outcome_for : Found → Request → Result Done Refusal
outcome_for found (Solo solo) = driven_outcome solo.driver found solo
outcome_for found (Stats stats) = stats_outcome found stats
outcome_for found (Deal deal) = deal_outcome found deal
outcome_for found (Plan plan) = plan_outcome found plan
outcome_for found (Check check) = check_outcome found check
outcome_for found (Upgrade upgrade) = upgrade_outcome found upgrade
outcome_for found (Gen gen) = gen_outcome gen

-- what a command does, or the first refusal in the order of work; an absent file stops it too
unfoldable pub outcome_of : Found → List (List ℕ) → Result Done Refusal
outcome_of found words = do
  request ← ok_or (asked_of words) refusal.Words
  outcome_for found request

-- what a command comes to on these files
abbrev pub outcome_in : Files → List (List ℕ) → Result Done Refusal
outcome_in files words = outcome_of (found_for files (asked_of words)) words
