-- What the driver puts out over a whole program.
use Rattle.std.specs.Prelude.{◌≡◌, ℕ, List, take, unwrap_or, []}
use Rattle.mage_base.specs.Source.{SourceTold}
use Rattle.mage_instr.specs.declared.instr.Program.{Program}
use Rattle.mage_linked.specs.Emission.{emission_of}
use Rattle.mage_label.specs.declared.labels.Label.{Label}
use Rattle.mage_relations.specs.Unplaced.{starting_in, run_of}
use Rattle.mage_streams.specs.Streams.{decoded_outputs}
use Rattle.mage_eval.specs.Rule.{Evaluating, evaluating_from, eval_rules}

-- a worker's driver after its part of a program, whatever the stream has
abbrev pub after_program : Program → (labels : ℕ → List Label) → (rooms : ℕ → ℕ) → (sources : ℕ → SourceTold) → (worker : ℕ) → Evaluating
after_program program labels rooms sources worker =
    (run_of eval_rules (starting_in (λ w. evaluating_from w (labels w) (rooms w) (sources w)))
    (emission_of program)).states worker

-- What is put out is what is decoded from the labels and what the sources have left, as far as there is room.
abbrev pub PutsOutTheDecoded : Type 0
PutsOutTheDecoded = (program : Program) (labels : ℕ → List Label) (rooms : ℕ → ℕ) (sources : ℕ → SourceTold) (worker : ℕ) →
    (after_program program labels rooms sources worker).evaluator.outputs
    ≡ take (rooms worker) (decoded_outputs program labels (λ w. unwrap_or (sources w).left []) worker)
