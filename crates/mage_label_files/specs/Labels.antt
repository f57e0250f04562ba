-- The labels that a label file has.
use Rattle.std.specs.Prelude.{◌≡◌, ◌*◌, ℕ, zero, suc, List, [], ◌∷◌, length, take, drop, sum}
use Rattle.mage_garbled_runs.specs.Runs.{AreWhole}
use Rattle.mage_instr.specs.declared.instr.Instr.{Instr}
use Rattle.mage_instr.specs.declared.party.Party.TheVariants as party
use Rattle.mage_instr.specs.Inputs.{widths_in}
use Rattle.mage_label.specs.declared.labels.Label.{Label}
use Rattle.mage_streams.specs.Garbling.{bytes_of}

-- so many labels, of 16 bytes each
abbrev pub labels_from : (count : ℕ) → List ℕ → List Label
labels_from zero bytes = []
labels_from (suc count) bytes = record { bytes = take 16 bytes } ∷ labels_from count (drop 16 bytes)

-- how many wires the evaluator's inputs among some instructions have
abbrev pub wires_in : List Instr → ℕ
wires_in instrs = sum (widths_in party.Evaluator instrs)

-- Labels that were written one behind the other are read back.
abbrev pub LabelsAreReadBack : Type 0
LabelsAreReadBack = (labels : List Label) → AreWhole labels → labels_from (length labels) (bytes_of labels) ≡ labels

-- Labels that are read of as many bytes as they have are whole, and so many.
abbrev pub ReadLabelsAreWhole : Type 0
ReadLabelsAreWhole = (count : ℕ) (bytes : List ℕ) → length bytes ≡ 16 * count → AreWhole (labels_from count bytes)

abbrev pub AsManyLabels : Type 0
AsManyLabels = (count : ℕ) (bytes : List ℕ) → length (labels_from count bytes) ≡ count
