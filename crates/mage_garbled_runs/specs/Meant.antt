-- What is garbled and evaluated, against what the program means on numbers.
use Rattle.std.specs.Prelude.{◌≡◌, ◌≤◌, ◌<◌, ℕ, List, Some}
use Rattle.mage_base.specs.Source.{SourceTold}
use Rattle.mage_instr.specs.declared.directive.MemProgram.{MemProgram}
use Rattle.mage_label.specs.declared.labels.Label.{Label}
use Rattle.mage_linked.specs.Emission.{own_instrs, program_of}
use Rattle.mage_linked.specs.Workers.{list_at}
use Rattle.mage_linked.specs.declared.emitted.Emitted.{Emitted}
use Rattle.mage_meaning.specs.Given.{Given}
use Rattle.mage_meaning.specs.Means.{means_of}
use Rattle.mage_network.specs.Together.{Joint}
use Rattle.mage_streams.specs.Streams.{garbled_stream, dealt_labels}
use Rattle.mage_eval.specs.Rule.{eval_rules}
use Rattle.mage_steps.specs.Core.{joint_after}
use Rattle.mage_steps.specs.Laws.{EndsInJoint}
use Rattle.mage_carried.specs.Laws.{CanRun}
use Rattle.mage_plain_runs.specs.Plainly.{InputsFit, outputs_in}
use Rattle.mage_garbled_runs.specs.Runs.{evaluators}

-- instructions that can run, and inputs that fit them
pub record CanRunOn (count : ℕ) (emitted : List Emitted) (given : Given) : Type 0 where
  pub runs : CanRun count emitted
  pub fit : (n : ℕ) → n < count →
      InputsFit (own_instrs emitted n) (list_at given.garbler n) (list_at given.evaluator n)

module _ (count : ℕ) (emitted : List Emitted) (given : Given) (seed : List ℕ) where
  -- the garbled stream of each worker
  abbrev pub streams_of : (worker : ℕ) → List ℕ
  streams_of = garbled_stream (program_of count emitted) seed (list_at given.garbler)

  -- the labels that are dealt to each worker's evaluator
  abbrev pub labels_of : (worker : ℕ) → List Label
  labels_of =
      dealt_labels (program_of count emitted) seed (list_at given.garbler) (list_at given.evaluator)

  -- Each worker's source has its stream left, and each evaluator has room for what the program puts out.
  pub record AreStreamed (rooms : ℕ → ℕ) (sources : ℕ → SourceTold) : Type 0 where
    pub left : (n : ℕ) → (sources n).left ≡ Some (streams_of n)
    pub room : (n : ℕ) → n < count → outputs_in (own_instrs emitted n) ≤ rooms n

  -- Some joint turns of the evaluators end in every worker, each of which has then put out what its worker of
  -- the program means.
  pub record EvaluatesAsMeant (plan : MemProgram) (rooms : ℕ → ℕ) (sources : ℕ →
      SourceTold) : Type 0 where
    pub turns : List Joint
    pub ends : (n : ℕ) → EndsInJoint eval_rules plan (evaluators labels_of rooms sources) turns n
    pub outputs : (n : ℕ) → n < count →
        (joint_after eval_rules plan (evaluators labels_of rooms sources) turns
        n).state.engine.driver.evaluator.outputs
        ≡ list_at (means_of (program_of count emitted) given) n
