-- What a worker's evaluator is dealt, instruction by instruction, without the circuits: the active labels of its own inputs.
use Rattle.std.specs.Prelude.{ℕ, List, [], ◌∷◌, ◌++◌, drop, length, ◌==◌, if◌then◌else◌}
use Rattle.std.specs.List.{filter}
use Rattle.mage_bits.specs.Bits.{bits}
use Rattle.mage_instr.specs.declared.instr.Instr.{Instr}
use Rattle.mage_instr.specs.declared.op.Op.{Op}
use Rattle.mage_instr.specs.declared.party.Party.{Party}
use Rattle.mage_instr.specs.declared.party.Party.TheVariants as party
use Rattle.mage_instr.specs.Inputs.{is_input}
use Rattle.mage_driver.specs.Operations.{party_of}
use Rattle.mage_label.specs.declared.labels.Label.{Label}
use Rattle.mage_label.specs.Labels.{offset_of}
use Rattle.mage_streams.specs.Numbers.{number_after, next_value}
use Rattle.mage_streams.specs.Garbling.{active_labels, zero_labels}

-- a dealer before an instruction of a worker
pub record Dealer : Type 0 where
  pub seed : List ℕ
  pub worker : ℕ
  -- how many input wires of both parties there were
  pub wires : ℕ
  -- the evaluator's values that are still to come
  pub values : List ℕ

-- the labels of an input, where it is the evaluator's
abbrev pub labels_for : Dealer → Party → (count : ℕ) → List Label
labels_for d party.Garbler count = []
labels_for d party.Evaluator count =
    active_labels (offset_of d.seed) (zero_labels d.seed d.worker d.wires count)
    (bits (next_value d.values) count)

abbrev pub after_input : Dealer → Party → (count : ℕ) → Dealer
after_input d party.Garbler count = record d { wires = number_after d.wires count }
after_input d party.Evaluator count =
    record d { wires = number_after d.wires count; values = drop 1 d.values }

-- the labels of an instruction of this width and immediate; one that is no input has none
abbrev pub labels_by : Dealer → Op → (width imm : ℕ) → List Label
labels_by d op width imm = if is_input op then labels_for d (party_of imm) width else []

abbrev pub after_op : Dealer → Op → (width imm : ℕ) → Dealer
after_op d op width imm = if is_input op then after_input d (party_of imm) width else d

-- the labels of some instructions, in order
abbrev pub all_labels : Dealer → List Instr → List Label
all_labels d [] = []
all_labels d (i ∷ others) =
    labels_by d i.op i.width i.imm ++ all_labels (after_op d i.op i.width i.imm) others

-- how many of these are a worker's turns
abbrev pub turns_of : (worker : ℕ) → List ℕ → ℕ
turns_of worker order = length (filter (λ turn. turn == worker) order)

-- a dealer before the first instruction
abbrev pub new_dealer : (seed : List ℕ) → (worker : ℕ) → (values : List ℕ) → Dealer
new_dealer seed worker values =
    record { seed = seed; worker = worker; wires = 0; values = values }
