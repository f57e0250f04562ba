-- What the code's work does.
use Rattle.std.specs.Prelude.{◌≡◌, ◌≤◌, ℕ, List, [], ◌∷◌, length, map, Bool, Result, Ok, Err, codes}
use Rattle.mage_gen.specs.declared.order.Generated.{Generated}
use Rattle.mage_gen.specs.Generator.{garbler_text, evaluator_text}
use Rattle.mage_gen.specs.Source.{source_text}
use Rattle.mage_instr.specs.declared.directive.MemProgram.{MemProgram}
use Rattle.mage_instr.specs.declared.party.Party.TheVariants as party
use Rattle.mage_instr.specs.declared.replaced.Limits.{Limits}
use Rattle.mage_instr.specs.Inputs.{input_widths_of}
use Rattle.mage_instr.specs.Limits.{AreInRange}
use Rattle.mage_instr.specs.Opcodes.{most_workers}
use Rattle.mage_garbled_runs.specs.Runs.{AreWhole}
use Rattle.mage_linked.specs.Workers.{list_at}
use Rattle.mage_solo.specs.Evaluating.{labels_in}
use Rattle.mage_texts.specs.InputText.{FitWidths}
use Rattle.mage_texts.specs.Lists.{lists_of}
use Rattle.mage_verify.specs.Parts.{parts_of}
use Rattle.mage_verify.specs.Runs.{AreVerified}
use Rattle.mage_pipe.specs.declared.loaded.Loaded.{Loaded}
use Rattle.mage_pipe.specs.Loading.{loaded_of}
use Rattle.mage_pipe.specs.MemoryProgram.{memory_program_of}
use Rattle.mage_source_runs.specs.Moves.{moves_of}
use Rattle.mage_stream_length.specs.Length.{length_of}
use Rattle.mage_words.specs.Words.{GenRequest}
use Rattle.mage_planner.specs.declared.refusal.Refusal.{Refusal}
use Rattle.mage_planner.specs.declared.work.Work as code
use Rattle.mage_planner.specs.declared.work.Work.TheVariants as work
use Rattle.mage_planner.specs.declared.work.Dealing.{Dealing}
use Rattle.mage_planner.specs.declared.work.Evaluating.{Evaluating}
use Rattle.mage_planner.specs.declared.work.Garbling.{Garbling}
use Rattle.mage_planner.specs.declared.work.Generating.{Generating}
use Rattle.mage_planner.specs.declared.work.Running.{Running}
use Rattle.mage_planner.specs.declared.work.Writing.{Writing}
use Rattle.mage_planner.specs.Outcome.{Done, NewFile, evaluates, says, says_and_writes, runs, garbles, said_of, deals, label_file, ending_file, order_of, generates}
use Rattle.mage_planner.specs.Found.{File}
use Rattle.mage_planner.specs.Steps.{Refuses}

-- what is dealt
abbrev pub dealt_by : Dealing → Done
dealt_by dealing = deals dealing.labels.now dealing.program dealing.seed (lists_of dealing.evaluator.items)

-- the label file of a worker
abbrev pub file_by : Dealing → (worker : ℕ) → NewFile
file_by dealing worker = label_file dealing.labels.now dealing.program dealing.seed (lists_of dealing.evaluator.items) worker

-- what is written, and then said
abbrev pub written_by : Writing → Done
written_by writing = says_and_writes writing.text.items (record { name = writing.name.now; bytes = writing.bytes.items } ∷ [])

-- A run does this: its parts are those of a source's memory program, its inputs are as wide as the source asks for, and what is to
-- be said is what the source means on them.
pub record IsRunOf (running : Running) (done : Done) : Type 0 where
  pub limits : Limits
  pub text : List ℕ
  pub loaded : Loaded
  pub plan : MemProgram
  pub in_range : AreInRange limits
  pub loads : loaded_of text ≡ Ok loaded
  pub planned : memory_program_of limits loaded.program.workers ≡ Ok plan
  pub parts : running.parts.items ≡ parts_of plan
  pub garbler : FitWidths (input_widths_of party.Garbler loaded.program) (lists_of running.garbler.items)
  pub evaluator : FitWidths (input_widths_of party.Evaluator loaded.program) (lists_of running.evaluator.items)
  pub is : done ≡ runs (said_of loaded (record { garbler = lists_of running.garbler.items; evaluator = lists_of running.evaluator.items })) (moves_of plan)

-- a source and its input texts are those that are asked for
pub record AreMade (gen : GenRequest) (made : Generated) : Type 0 where
  pub text : made.text.items ≡ source_text (order_of gen)
  pub garbler : made.garbler.items ≡ garbler_text (order_of gen)
  pub evaluator : made.evaluator.items ≡ evaluator_text (order_of gen)

-- A garbling does this: its parts are those of a source's memory program, its inputs are as wide as the source asks for, and the rooms of
-- its streams are as long as these can be.
pub record IsGarblingOf (garbling : Garbling) (done : Done) : Type 0 where
  pub limits : Limits
  pub text : List ℕ
  pub loaded : Loaded
  pub plan : MemProgram
  pub in_range : AreInRange limits
  pub loads : loaded_of text ≡ Ok loaded
  pub planned : memory_program_of limits loaded.program.workers ≡ Ok plan
  pub parts : garbling.parts.items ≡ parts_of plan
  pub garbler : FitWidths (input_widths_of party.Garbler loaded.program) (lists_of garbling.garbler.items)
  pub rooms : garbling.rooms.items ≡ map length_of loaded.program.workers
  pub is : done ≡ garbles garbling.stream.now loaded.program garbling.seed (lists_of garbling.garbler.items) (moves_of plan)

-- An evaluation does this: its parts are those of a source's memory program, its labels are whole, a list for each worker, and its
-- streams are found so.
pub record IsEvaluationOf (evaluating : Evaluating) (done : Done) : Type 0 where
  pub limits : Limits
  pub text : List ℕ
  pub loaded : Loaded
  pub plan : MemProgram
  pub in_range : AreInRange limits
  pub loads : loaded_of text ≡ Ok loaded
  pub planned : memory_program_of limits loaded.program.workers ≡ Ok plan
  pub parts : evaluating.parts.items ≡ parts_of plan
  pub whole : (worker : ℕ) → AreWhole (list_at (labels_in evaluating.labels.items) worker)
  pub streams : ℕ → File
  pub is : done ≡ evaluates evaluating.stream.now loaded.program (labels_in evaluating.labels.items) streams (moves_of plan)

-- the files that are generated
abbrev pub files_by : Generating → List NewFile
files_by generating =
    ending_file generating.out.now (codes ".mage") generating.made.text.items
    ∷ ending_file generating.out.now (codes ".garbler") generating.made.garbler.items
    ∷ ending_file generating.out.now (codes ".evaluator") generating.made.evaluator.items
    ∷ []

-- what is generated is written, and then run: this is done where the run does what is due of it
pub record IsGenerationOf (generating : Generating) (done : Done) : Type 0 where
  pub run : Done
  pub is_run : IsRunOf generating.running run
  pub is : done ≡ generates (files_by generating) generating.summary.items run

-- the work does this
abbrev pub IsWorkOf : code.Work → Done → Type 0
IsWorkOf (work.Say text) done = done ≡ says text.items
IsWorkOf (work.Deal dealing) done = done ≡ dealt_by dealing
IsWorkOf (work.Write writing) done = done ≡ written_by writing
IsWorkOf (work.Run running) done = IsRunOf running done
IsWorkOf (work.Garble garbling) done = IsGarblingOf garbling done
IsWorkOf (work.Evaluate evaluating) done = IsEvaluationOf evaluating done
IsWorkOf (work.Generate generating) done = IsGenerationOf generating done

-- what is found out does what a command comes to, or the command is refused
abbrev pub GivesSo : {X : Type 0} → (steady : Bool) → (X → Done → Type 0) → Result X Refusal → Result Done Refusal → Type 0
GivesSo steady Is (Ok x) outcome = (done : Done) × Is x done × (outcome ≡ Ok done)
GivesSo steady Is (Err other) outcome = Refuses steady other outcome

-- what has no fault that keeps it from being run
pub record CanBeRun (running : Running) : Type 0 where
  pub verified : AreVerified running.parts.items
  pub garbler : length running.garbler.items ≡ length running.parts.items
  pub evaluator : length running.evaluator.items ≡ length running.parts.items

-- the same of what is garbled
pub record CanBeGarbled (garbling : Garbling) : Type 0 where
  pub verified : AreVerified garbling.parts.items
  pub garbler : length garbling.garbler.items ≡ length garbling.parts.items
  pub rooms : length garbling.rooms.items ≡ length garbling.parts.items

-- the same of what is evaluated
pub record CanBeEvaluated (evaluating : Evaluating) : Type 0 where
  pub verified : AreVerified evaluating.parts.items
  pub labels : length evaluating.labels.items ≡ length evaluating.parts.items

-- what is dealt is dealt to few workers, and what is run can be run
abbrev pub CanBeDone : code.Work → Type 0
CanBeDone (work.Say text) = Unit {0}
CanBeDone (work.Deal dealing) = length dealing.program.workers ≤ most_workers
CanBeDone (work.Write writing) = Unit {0}
CanBeDone (work.Run running) = CanBeRun running
CanBeDone (work.Garble garbling) = CanBeGarbled garbling
CanBeDone (work.Evaluate evaluating) = CanBeEvaluated evaluating
CanBeDone (work.Generate generating) = CanBeRun generating.running
