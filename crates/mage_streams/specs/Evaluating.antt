-- What a worker's evaluator does: it has the active label of each wire, and reads what the garbler said. What it reads counts as
-- if zeros followed it, and of a colour the lowest bit counts.
use Rattle.std.specs.Prelude.{ℕ, zero, suc, ◌*◌, ◌%◌, ◌==◌, List, [], ◌∷◌, ◌++◌, Bool, None, length, drop, take, replicate, slice_index}
use Rattle.mage_bits.specs.Bits.{number}
use Rattle.mage_instr.specs.declared.party.Party.{Party}
use Rattle.mage_instr.specs.declared.party.Party.TheVariants as party
use Rattle.mage_label.specs.declared.labels.Label.{Label}
use Rattle.mage_label.specs.Labels.{IsWhole, blank, xor}
use Rattle.mage_halfgates.specs.HalfGates.{Tables, and_label, decoded_bit}
use Rattle.mage_driver.specs.Rules.{Rules}
use Rattle.mage_streams.specs.Numbers.{number_after}

-- an evaluator between two calls
pub record Evaluator : Type 0 where
  pub worker : ℕ
  -- the active labels of its own inputs that are still to come
  pub labels : List Label
  -- how many ANDs there were
  pub gates : ℕ
  -- what is left of the stream
  pub left : List ℕ
  -- the values that were put out
  pub outputs : List ℕ

-- the next 16 bytes of a stream
abbrev pub next_label : List ℕ → Label
next_label left = record { bytes = take 16 (left ++ replicate 16 0) }

abbrev pub next_labels : (count : ℕ) → List ℕ → List Label
next_labels zero left = []
next_labels (suc count) left = next_label left ∷ next_labels count (drop 16 left)

-- the first of these labels; blank past the last
abbrev pub first_labels : (count : ℕ) → List Label → List Label
first_labels zero labels = []
first_labels (suc count) [] = blank ∷ first_labels count []
first_labels (suc count) (label ∷ labels) = label ∷ first_labels count labels

-- the labels of an input's wires, and the evaluator after it
abbrev pub taken_labels : Evaluator → Party → (count : ℕ) → List Label
taken_labels e party.Garbler count = next_labels count e.left
taken_labels e party.Evaluator count = first_labels count e.labels

abbrev pub after_taking : Evaluator → Party → (count : ℕ) → Evaluator
after_taking e party.Garbler count = record e { left = drop (16 * count) e.left }
after_taking e party.Evaluator count = record e { labels = drop count e.labels }

-- the tables that the stream has next, and the active label of the next AND
abbrev pub tables_read : List ℕ → Tables
tables_read left = record { generator = next_label left; evaluator = next_label (drop 16 left) }

abbrev pub label_of_and : Evaluator → Label → Label → Label
label_of_and e a b = and_label e.worker e.gates (tables_read e.left) a b

abbrev pub after_reading : Evaluator → Evaluator
after_reading e = record e { gates = number_after e.gates 1; left = drop 32 e.left }

-- the bits of an output, from the colours that the stream has next
abbrev pub decoded_bits : (wires : List Label) → (left : List ℕ) → List Bool
decoded_bits [] left = []
decoded_bits (wire ∷ wires) left =
    decoded_bit (slice_index left 0 % 2 == 1) wire ∷ decoded_bits wires (drop 1 left)

abbrev pub after_output : Evaluator → List Label → Evaluator
after_output e wires = record e {
  left = drop (length wires) e.left;
  outputs = e.outputs ++ number (decoded_bits wires e.left) ∷ [];
}

-- the rules of an evaluator that never stops
abbrev pub evaluating : Rules Label
evaluating = record {
  State = Evaluator;
  constant = λ e bit. blank;
  xor = xor;
  not = λ e a. a;
  and = λ e a b. (after_reading e, label_of_and e a b);
  input = λ e whose count. (after_taking e whose count, taken_labels e whose count);
  output = after_output;
  finish = λ e. e;
  due = λ from to. None;
  Stops = λ from to f after. ⊥;
  outputs = λ e. e.outputs;
  stream = λ e k. [];
  IsWire = IsWhole;
  wire_bytes = 16;
  pack = λ label. label.bytes;
  unpack = λ bytes. record { bytes = bytes };
}
