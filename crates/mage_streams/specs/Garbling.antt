-- What a worker's garbler does: it has the zero label of each wire, and says what the evaluator needs beside its own labels.
-- Half gates are those of Rattle.mage_halfgates.specs.HalfGates.
use Rattle.std.specs.Prelude.{ℕ, zero, suc, List, [], ◌∷◌, ◌++◌, Bool, None, drop, map, if◌then◌else◌}
use Rattle.mage_bits.specs.Bits.{bits}
use Rattle.mage_instr.specs.declared.party.Party.{Party}
use Rattle.mage_instr.specs.declared.party.Party.TheVariants as party
use Rattle.mage_label.specs.declared.labels.Label.{Label}
use Rattle.mage_label.specs.Labels.{IsWhole, input_label_of, lsb, offset_of, xor, xor_times}
use Rattle.mage_halfgates.specs.HalfGates.{Tables, and_zero, constant_zero, tables_of}
use Rattle.mage_driver.specs.Rules.{Rules}
use Rattle.mage_driver.specs.Calls.{Ask, And, Input, Output, Finish, Call}
use Rattle.mage_streams.specs.Numbers.{number_after, next_value}

-- a garbler between two calls
pub record Garbler : Type 0 where
  pub seed : List ℕ
  pub worker : ℕ
  -- the garbler's input values that are still to come
  pub values : List ℕ
  -- how many input wires of both parties, and how many ANDs there were
  pub wires : ℕ
  pub gates : ℕ

-- the offset that all labels of a seed share
abbrev pub offset_in : Garbler → Label
offset_in g = offset_of g.seed

-- the zero labels of so many input wires, from this one on
abbrev pub zero_labels : (seed : List ℕ) → (worker first count : ℕ) → List Label
zero_labels seed worker first zero = []
zero_labels seed worker first (suc count) =
    input_label_of seed worker first ∷ zero_labels seed worker (number_after first 1) count

-- the zero labels of an input's wires
abbrev pub inputs_of : Garbler → (count : ℕ) → List Label
inputs_of g count = zero_labels g.seed g.worker g.wires count

-- the active labels of wires with these zero labels and these values
abbrev pub active_labels : (offset : Label) → List Label → List Bool → List Label
active_labels offset (zero_label ∷ zeros) (value ∷ values) =
    xor_times zero_label value offset ∷ active_labels offset zeros values
active_labels offset [] values = []
active_labels offset zeros [] = []

-- the active labels of an input's wires
abbrev pub given_labels : Garbler → (value count : ℕ) → List Label
given_labels g value count = active_labels (offset_in g) (inputs_of g count) (bits value count)

-- the tables of the next AND, of wires with these zero labels, and its own zero label
abbrev pub next_tables : Garbler → Label → Label → Tables
next_tables g a b = tables_of (offset_in g) g.worker g.gates a b

abbrev pub next_and : Garbler → Label → Label → Label
next_and g a b = and_zero (offset_in g) g.worker g.gates a b

-- the garbler's values after an input of a party
abbrev pub values_after : Party → List ℕ → List ℕ
values_after party.Garbler values = drop 1 values
values_after party.Evaluator values = values

abbrev pub after_input : Garbler → Party → (count : ℕ) → Garbler
after_input g whose count =
    record g { values = values_after whose g.values; wires = number_after g.wires count }

abbrev pub after_and : Garbler → Garbler
after_and g = record g { gates = number_after g.gates 1 }

-- ---- what is said

abbrev pub bytes_of : List Label → List ℕ
bytes_of [] = []
bytes_of (label ∷ labels) = label.bytes ++ bytes_of labels

abbrev pub table_bytes : Tables → List ℕ
table_bytes tables = tables.generator.bytes ++ tables.evaluator.bytes

-- the lowest bit of a label, as a byte
abbrev pub colour_of : Label → ℕ
colour_of label = if lsb label then 1 else 0

-- what is said at an input: each active label, where the value is the garbler's own
abbrev pub said_at_input : Garbler → Party → (count : ℕ) → List ℕ
said_at_input g party.Garbler count = bytes_of (given_labels g (next_value g.values) count)
said_at_input g party.Evaluator count = []

-- What is said at a call: 16 bytes for each wire of an input of the garbler, 32 for an AND, and one for each wire of an output.
abbrev pub said_for : Garbler → Ask Label → List ℕ
said_for g (And a b) = table_bytes (next_tables g a b)
said_for g (Input whose count) = said_at_input g whose count
said_for g (Output wires) = map colour_of wires
said_for g Finish = []

-- what is said at some calls
abbrev pub said_at : List (Call Garbler Label) → List ℕ
said_at [] = []
said_at (call ∷ calls) = said_for call.state call.ask ++ said_at calls

-- ---- the rules of a garbler that says what it says to nobody

abbrev pub garbling : Rules Label
garbling = record {
  State = Garbler;
  constant = λ g bit. constant_zero (offset_in g) bit;
  xor = xor;
  not = λ g a. xor a (offset_in g);
  and = λ g a b. (after_and g, next_and g a b);
  input = λ g whose count. (after_input g whose count, inputs_of g count);
  output = λ g wires. g;
  finish = λ g. g;
  due = λ from to. None;
  Stops = λ from to f after. ⊥;
  outputs = λ g. [];
  stream = λ g k. [];
  IsWire = IsWhole;
  wire_bytes = 16;
  pack = λ label. label.bytes;
  unpack = λ bytes. record { bytes = bytes };
}
