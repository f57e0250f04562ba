-- What streams come to that are evaluated.
use Rattle.std.specs.Prelude.{ℕ, true, List, length, map, Option, Some}
use Rattle.mage_base.specs.Source.{SourceTold}
use Rattle.mage_instr.specs.declared.fault.DriverFault.{DriverFault}
use Rattle.mage_instr.specs.declared.instr.Program.{Program}
use Rattle.mage_label.specs.declared.labels.Label.{Label}
use Rattle.mage_solo.specs.Evaluating.{decoded_by, stream_fault}

-- a source that has these bytes left
abbrev pub source_with : List ℕ → SourceTold
source_with bytes = record { left = Some bytes; faults = 0; steady = true }

module _ (program : Program) (labels : List (List Label)) (streams : List (List ℕ)) where
  -- what is wrong first with the stream of a worker, if anything is
  abbrev pub fault_with : (worker : ℕ) → Option DriverFault
  fault_with worker = stream_fault program labels (map source_with streams) worker

  -- what each worker puts out
  abbrev pub decoded_with : List (List ℕ)
  decoded_with = decoded_by program labels (map source_with streams) (length program.workers)
