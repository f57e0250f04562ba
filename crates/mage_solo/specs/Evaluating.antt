-- A run that evaluates.
use Rattle.std.specs.Prelude.{◌≡◌, ◌≤◌, ◌+◌, ◌++◌, ◌⊎◌, ℕ, true, false, List, [], ◌∷◌, length, drop, map, Vec, IfSome, IsTrue, Option, None, Some, slice_get, slice_index_or, unwrap_or}
use Rattle.std.specs.Global.{Global}
use Rattle.mage_base.specs.Faults.{Rose}
use Rattle.mage_base.specs.Source.{SourceTold}
use Rattle.mage_base.specs.Store.{StoreTold}
use Rattle.mage_driver.specs.declared.standing.Standing.TheVariants as standing
use Rattle.mage_driver.specs.Calls.{Told}
use Rattle.mage_instr.specs.declared.fault.DriverFault.{DriverFault}
use Rattle.mage_instr.specs.declared.fault.DriverFault.TheVariants as broken
use Rattle.mage_instr.specs.declared.instr.Program.{Program}
use Rattle.mage_label.specs.declared.labels.Label.{Label}
use Rattle.mage_linked.specs.declared.emitted.Emitted.{Emitted}
use Rattle.mage_linked.specs.Emission.{emission_of}
use Rattle.mage_linked.specs.Workers.{list_at, below}
use Rattle.mage_relations.specs.Unplaced.{starting_in, run_of}
use Rattle.mage_verify.specs.Parts.{WorkerPart}
use Rattle.mage_core.specs.declared.fault.RunFault.{RunFault}
use Rattle.mage_core.specs.declared.fault.RunFault.TheVariants as fault
use Rattle.mage_eval.specs.Rule.{Evaluating, FailsAtItsSource, evaluating_from, eval_rules}
use Rattle.mage_eval.specs.Reading.{tells_left}
use Rattle.mage_plain_runs.specs.Plainly.{outputs_in}
use Rattle.mage_streams.specs.Streams.{decoded_outputs}
use Rattle.mage_garbled_runs.specs.Meant.{labels_of, streams_of}
use Rattle.mage_garbled_runs.specs.Runs.{evaluators}
use Rattle.mage_meaning.specs.Given.{Given}
use Rattle.mage_solo.specs.Plain.{outputs_done}
use Rattle.mage_solo.specs.Stores.{HasBroken, HasDamaged}

-- what the source of a worker told before a run, and what it tells after it
pub record Drawn (before after : List SourceTold) (worker : ℕ) : Type 0 where
  pub old : SourceTold
  pub new : SourceTold
  pub old_so : slice_get before worker ≡ Some old
  pub new_so : slice_get after worker ≡ Some new

-- each source tells what it has left
abbrev pub AllTellLeft : List SourceTold → Type 0
AllTellLeft sources = (w : ℕ) → IfSome (slice_get sources w) (λ source. IsTrue (tells_left source))

-- no source failed
abbrev pub NoneFailed : (before after : List SourceTold) → Type 0
NoneFailed before after = (w : ℕ) (source : Drawn before after w) → source.new.faults ≡ source.old.faults

-- How a source stands after the driver over it stopped: where that was its fault, it failed and isn't steady. No driver that
-- evaluates stops at a sink; else the stream wasn't what was due.
abbrev pub FailedFor : DriverFault → (old new : SourceTold) → Type 0
FailedFor broken.Source old new = (old.faults ≤ new.faults) × Rose old.faults new.faults × (new.steady ≡ false)
FailedFor broken.Sink old new = ⊥
FailedFor (broken.Short at) old new = old.faults ≤ new.faults
FailedFor (broken.Long at) old new = old.faults ≤ new.faults
FailedFor (broken.Colour at) old new = old.faults ≤ new.faults

-- the driver of a worker stopped
abbrev pub HasStopped : (before after : List SourceTold) → ℕ → DriverFault → Type 0
HasStopped before after w f = (source : Drawn before after w) × FailedFor f source.old source.new

-- Why a run that evaluates stopped: a store failed, or brought back another page than it was given, or a driver stopped.
abbrev pub EvalStops : List WorkerPart → (before after : List (List StoreTold)) → (sources sources' : List SourceTold) → RunFault → Type 0
EvalStops parts before after sources sources' (fault.Store worker) = HasBroken parts before after worker
EvalStops parts before after sources sources' (fault.Driver worker f) = HasStopped sources sources' worker f
EvalStops parts before after sources sources' (fault.Damaged worker damage) = HasDamaged parts before after worker damage
EvalStops parts before after sources sources' fault.Memory = Unit {0}

-- No store stopped a run that evaluates.
abbrev pub IsOfNoStore : RunFault → Type 0
IsOfNoStore (fault.Store worker) = ⊥
IsOfNoStore (fault.Driver worker f) = Unit {0}
IsOfNoStore (fault.Damaged worker damage) = ⊥
IsOfNoStore fault.Memory = Unit {0}

-- Neither a store nor a source stopped it: there was no memory, or a stream wasn't what was due.
abbrev pub IsOfAStream : RunFault → Type 0
IsOfAStream (fault.Store worker) = ⊥
IsOfAStream (fault.Driver worker broken.Source) = ⊥
IsOfAStream (fault.Driver worker broken.Sink) = ⊥
IsOfAStream (fault.Driver worker (broken.Short at)) = Unit {0}
IsOfAStream (fault.Driver worker (broken.Long at)) = Unit {0}
IsOfAStream (fault.Driver worker (broken.Colour at)) = Unit {0}
IsOfAStream (fault.Damaged worker damage) = ⊥
IsOfAStream fault.Memory = Unit {0}

-- each source is steady
abbrev pub AllSteady : List SourceTold → Type 0
AllSteady sources = (w : ℕ) → IfSome (slice_get sources w) (λ source. IsTrue source.steady)

-- the labels in some vectors
abbrev pub labels_in : List (Vec Label Global) → List (List Label)
labels_in vectors = map (λ v. v.items) vectors

-- ---- the program without pages

-- a source that isn't there
abbrev pub no_source : SourceTold
no_source = record { left = None; faults = 0; steady = true }

-- each worker's source, in the order of the workers
abbrev pub source_at : List SourceTold → (worker : ℕ) → SourceTold
source_at sources worker = slice_index_or sources worker no_source

-- what each worker's source has left
abbrev pub stream_at : List SourceTold → (worker : ℕ) → List ℕ
stream_at sources worker = unwrap_or (source_at sources worker).left []

-- how many values each worker of a program puts out
abbrev pub rooms_of : Program → (worker : ℕ) → ℕ
rooms_of program worker = outputs_in (list_at program.workers worker)

module _ (program : Program) (labels : List (List Label)) (sources : List SourceTold) where
  -- the evaluators of a program's workers, each with room for its outputs
  abbrev pub evaluators_of : ℕ → Evaluating
  evaluators_of = evaluators (list_at labels) (rooms_of program) (source_at sources)

  -- a worker's evaluator behind its last instruction, where the program's instructions run in the order of their emission
  abbrev pub evaluator_at_end : (worker : ℕ) → Evaluating
  evaluator_at_end worker = (run_of eval_rules (starting_in evaluators_of) (emission_of program)).states worker

  -- What is wrong with the stream of a worker, if anything is: it ends before what is due of it is whole, a colour is neither 0
  -- nor 1, or something is left at the end; the first of these, at its place.
  abbrev pub stream_fault : (worker : ℕ) → Option DriverFault
  stream_fault worker = (eval_rules.finish (evaluator_at_end worker)).wrong

  -- A driver that stopped did so at its source, which isn't steady, or for what is wrong with its stream.
  abbrev pub IsForItsStream : RunFault → Type 0
  IsForItsStream (fault.Store worker) = Unit {0}
  IsForItsStream (fault.Driver worker f) =
      ((f ≡ broken.Source) × ((source_at sources worker).steady ≡ false)) ⊎ (stream_fault worker ≡ Some f)
  IsForItsStream (fault.Damaged worker damage) = Unit {0}
  IsForItsStream fault.Memory = Unit {0}

  -- what each worker puts out: the values that are decoded from its labels and its stream
  abbrev pub decoded_by : (count : ℕ) → List (List ℕ)
  decoded_by count = map (decoded_outputs program (list_at labels) (stream_at sources)) (below count)

module _ (count : ℕ) (emitted : List Emitted) (given : Given) (seed : List ℕ) where
  -- each worker has the labels that are dealt for the inputs under the seed
  abbrev pub AreDealt : List (List Label) → Type 0
  AreDealt labels = (w : ℕ) → IfSome (slice_get labels w) (λ own. own ≡ labels_of count emitted given seed w)

  -- each source has its worker's stream left, garbled on the inputs under the seed
  abbrev pub AreStreams : List SourceTold → Type 0
  AreStreams sources = (w : ℕ) → IfSome (slice_get sources w) (λ source. source.left ≡ Some (streams_of count emitted given seed w))

-- ---- drivers

-- the driver of a part before its first call
abbrev pub evaluator_opening : (worker : ℕ) → WorkerPart → List Label → SourceTold → Told Evaluating
evaluator_opening worker part labels source = record {
  state = evaluating_from worker labels (outputs_done part.directives) source;
  standing = standing.Running;
  faults = source.faults;
  told = tells_left source;
}

-- the drivers of parts, numbered from one on
abbrev pub evaluator_openings : (worker : ℕ) → List WorkerPart → List (List Label) → List SourceTold → List (Told Evaluating)
evaluator_openings worker (part ∷ parts) (own ∷ labels) (source ∷ sources) =
    evaluator_opening worker part own source ∷ evaluator_openings (worker + 1) parts labels sources
evaluator_openings worker _ _ _ = []

-- the outputs of each driver, in order
abbrev pub outputs_of : List (Told Evaluating) → List (List ℕ)
outputs_of drivers = map (λ driver. driver.state.evaluator.outputs) drivers

-- what a driver's source tells that was handed back
pub record IsClosed (driver : Told Evaluating) (source : SourceTold) : Type 0 where
  pub faults : driver.faults ≡ source.faults
  pub failed : FailsAtItsSource source.steady driver.standing

-- the same of each driver, in order
abbrev pub AreClosed : List (Told Evaluating) → List SourceTold → Type 0
AreClosed [] [] = Unit {0}
AreClosed (driver ∷ drivers) (source ∷ sources) = IsClosed driver source × AreClosed drivers sources
AreClosed _ _ = ⊥

-- Drivers were taken apart: behind these sources stand those that were handed back.
pub record GivesBack {I : Type 0} (tells : I → SourceTold) (drivers : List (Told Evaluating)) (before after : List I) : Type 0 where
  pub back : List I
  pub whole : after ≡ before ++ back
  pub closed : AreClosed drivers (map tells back)

-- Drivers were made for the last parts over the last sources, with the last labels; those in front are left. They are numbered
-- from the first that was made.
pub record AreMadeFor {I : Type 0} (tells : I → SourceTold) (parts : List WorkerPart) (labels : List (Vec Label Global)) (all left : List I)
    (drivers : List (Told Evaluating)) : Type 0 where
  pub taken : List I
  pub used : List (Vec Label Global)
  pub unused : List (Vec Label Global)
  pub sources : all ≡ left ++ taken
  pub labels_are : labels ≡ unused ++ used
  pub together : length unused ≡ length left
  pub made : drivers ≡ evaluator_openings (length left) (drop (length left) parts) (labels_in used) (map tells taken)
