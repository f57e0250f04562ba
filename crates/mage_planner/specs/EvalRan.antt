-- What evaluating a memory program over stores and streams of the desk comes to.
use Rattle.std.specs.Prelude.{◌≡◌, ℕ, List, length, Vec, Result, Ok, Err}
use Rattle.std.specs.declared.alloc.Global.{Global}
use Rattle.mage_base.specs.Desk.{DeskTold}
use Rattle.mage_base.specs.Source.{SourceTold}
use Rattle.mage_base.specs.Store.{StoreTold}
use Rattle.mage_core.specs.declared.fault.RunFault.{RunFault}
use Rattle.mage_core.specs.declared.fault.RunFault.TheVariants as fault
use Rattle.mage_lending.specs.Names.{worker_files}
use Rattle.mage_lending.specs.Sources.{AreSources}
use Rattle.mage_texts.specs.Lists.{lists_of}
use Rattle.mage_texts.specs.OutputText.{text_of}
use Rattle.mage_planner.specs.declared.refusal.Refusal.{Refusal}
use Rattle.mage_planner.specs.declared.refusal.Refusal.TheVariants as refusal
use Rattle.mage_planner.specs.declared.work.Evaluating.{Evaluating}
use Rattle.mage_planner.specs.Outcome.{Done, stream_refusal}
use Rattle.mage_planner.specs.Ran.{HasLent, Ran}
use Rattle.mage_planner.specs.Writing.{Interrupts}

-- The desk has lent a store for each part, and each worker's stream file is open to be read; it is else as it was before.
pub record HasStreams (before : DeskTold) (evaluating : Evaluating) (fresh : List (List StoreTold)) (names : List (List ℕ)) (sources : List SourceTold) (now : DeskTold) :
    Type 0 where
  pub lent : HasLent 16 before evaluating.parts.items fresh now
  pub named : names ≡ worker_files evaluating.stream.now 0 (length evaluating.parts.items)
  pub handed : AreSources before (worker_files evaluating.stream.now 0 (length evaluating.parts.items)) sources

-- the refusal of what stopped a run that evaluated
abbrev pub evaluation_stopped_by : RunFault → Refusal
evaluation_stopped_by (fault.Store worker) = refusal.Store worker
evaluation_stopped_by (fault.Damaged worker damage) = refusal.Damaged worker damage
evaluation_stopped_by (fault.Driver worker f) = stream_refusal worker f
evaluation_stopped_by fault.Memory = refusal.Memory

-- a run that was to do this put this out, or was stopped, and the stores are back
abbrev pub EvaluatedSo : Done → Result (Vec (Vec ℕ Global) Global) RunFault → (before after : DeskTold) → Type 0
EvaluatedSo done (Ok outputs) before after = Ran done (text_of (lists_of outputs.items)) before after
EvaluatedSo done (Err stopped) before after = Interrupts done (evaluation_stopped_by stopped) before after

-- a run that was to do this gives its text, or was stopped
abbrev pub EvaluatesSo : Done → Result (Vec ℕ Global) Refusal → (before after : DeskTold) → Type 0
EvaluatesSo done (Ok text) before after = Ran done text.items before after
EvaluatesSo done (Err why) before after = Interrupts done why before after

-- a run that neither a store nor a stream stopped
abbrev pub IsUnstopped : {T : Type 0} → Result T RunFault → Type 0
IsUnstopped (Err (fault.Store worker)) = ⊥
IsUnstopped (Err (fault.Damaged worker damage)) = ⊥
IsUnstopped (Err (fault.Driver worker f)) = ⊥
IsUnstopped other = Unit {0}
