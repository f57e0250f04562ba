-- The joint runs of a memory program that carries a program, garbled and evaluated.
use Rattle.std.specs.Prelude.{◌≡◌, ◌<◌, ℕ, List, ◌++◌, take, unwrap_or, [], ◌∷◌}
use Rattle.mage_base.specs.Sink.{SinkTold}
use Rattle.mage_base.specs.Source.{SourceTold}
use Rattle.mage_instr.specs.declared.directive.MemProgram.{MemProgram}
use Rattle.mage_label.specs.declared.labels.Label.{Label}
use Rattle.mage_label.specs.Labels.{IsWhole}
use Rattle.mage_linked.specs.Emission.{program_of}
use Rattle.mage_linked.specs.declared.emitted.Emitted.{Emitted}
use Rattle.mage_network.specs.Together.{Joint}
use Rattle.mage_streams.specs.Streams.{garbled_stream, decoded_outputs}
use Rattle.mage_garble.specs.Rule.{Garbling, garbling_from, garble_rules}
use Rattle.mage_eval.specs.Rule.{Evaluating, evaluating_from, eval_rules}
use Rattle.mage_steps.specs.Core.{joint_after}
use Rattle.mage_steps.specs.Laws.{EndsInJoint}

-- each worker's garbler, over a sink
abbrev pub garblers : (seed : List ℕ) → (garbler : ℕ → List ℕ) → (sinks : ℕ → SinkTold) → ℕ →
    Garbling
garblers seed garbler sinks worker = garbling_from seed worker (garbler worker) 0 0 (sinks worker)

-- each worker's evaluator, over the labels that it was dealt and a source
abbrev pub evaluators : (labels : ℕ → List Label) → (rooms : ℕ → ℕ) → (sources : ℕ → SourceTold) →
    ℕ → Evaluating
evaluators labels rooms sources worker =
    evaluating_from worker (labels worker) (rooms worker) (sources worker)

-- Some joint turns end in every worker, each of which has then put its garbled stream behind what its sink
-- had.
pub record Garbles (count : ℕ) (emitted : List Emitted) (plan : MemProgram) (seed : List ℕ)
    (garbler : ℕ → List ℕ) (sinks : ℕ → SinkTold) : Type 0 where
  pub turns : List Joint
  pub ends : (n : ℕ) → EndsInJoint garble_rules plan (garblers seed garbler sinks) turns n
  pub stream : (n : ℕ) → n < count →
      (joint_after garble_rules plan (garblers seed garbler sinks) turns
      n).state.engine.driver.sending.stream
      ≡ (garblers seed garbler sinks n).sending.stream
      ++ garbled_stream (program_of count emitted) seed garbler n

-- Some joint turns end in every worker, each of which has then put out what is decoded from the labels and
-- from what the sources had left, as far as there is room.
pub record Decodes (count : ℕ) (emitted : List Emitted) (plan : MemProgram) (labels : ℕ →
    List Label)
    (rooms : ℕ → ℕ) (sources : ℕ → SourceTold) : Type 0 where
  pub turns : List Joint
  pub ends : (n : ℕ) → EndsInJoint eval_rules plan (evaluators labels rooms sources) turns n
  pub outputs : (n : ℕ) → n < count →
      (joint_after eval_rules plan (evaluators labels rooms sources) turns
      n).state.engine.driver.evaluator.outputs
      ≡ take (rooms n)
      (decoded_outputs (program_of count emitted) labels (λ w. unwrap_or (sources w).left []) n)

-- each label has its 16 bytes
abbrev pub AreWhole : List Label → Type 0
AreWhole [] = Unit {0}
AreWhole (label ∷ labels) = IsWhole label × AreWhole labels
