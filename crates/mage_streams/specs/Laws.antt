-- The law of decoding.
use Rattle.std.specs.Prelude.{◌≡◌, ℕ, List}
use Rattle.mage_instr.specs.declared.instr.Program.{Program}
use Rattle.mage_streams.specs.Streams.{garbled_stream, dealt_labels, decoded_outputs, plain_outputs}

-- What is decoded from a program's streams with the labels that are dealt, both of one seed and the same inputs, is what the
-- program puts out in plain, for each worker.
abbrev pub DecodingGivesTheValue : Type 0
DecodingGivesTheValue = (program : Program) (seed : List ℕ) (garbler evaluator : ℕ → List ℕ) (worker : ℕ) →
    decoded_outputs program (dealt_labels program seed garbler evaluator) (garbled_stream program seed garbler) worker
    ≡ plain_outputs program garbler evaluator worker
