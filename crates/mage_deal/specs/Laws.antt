-- Laws of what is dealt.
use Rattle.std.specs.Prelude.{◌≡◌, ℕ, List}
use Rattle.mage_instr.specs.declared.instr.Program.{Program}
use Rattle.mage_streams.specs.Streams.{dealt_labels}

-- What is dealt to a worker doesn't depend on the garbler's values, nor on the evaluator's values of other workers.
abbrev pub DealtByTheEvaluatorAlone : Type 0
DealtByTheEvaluatorAlone = (program : Program) (seed : List ℕ) (garbler garbler' evaluator evaluator' : ℕ → List ℕ) (worker : ℕ) →
    evaluator worker ≡ evaluator' worker →
    dealt_labels program seed garbler evaluator worker ≡ dealt_labels program seed garbler' evaluator' worker
