-- What a worker computes in plain: a wire is its bit.
use Rattle.std.specs.Prelude.{ℕ, ◌%◌, ◌==◌, List, [], ◌∷◌, ◌++◌, Bool, not, ◌&&◌, None, drop, slice_index, if◌then◌else◌}
use Rattle.std.specs.Bool.{xor as xor_bits}
use Rattle.mage_bits.specs.Bits.{bits, number}
use Rattle.mage_instr.specs.declared.party.Party.{Party}
use Rattle.mage_instr.specs.declared.party.Party.TheVariants as party
use Rattle.mage_driver.specs.Rules.{Rules}
use Rattle.mage_streams.specs.Numbers.{next_value}

-- a worker between two calls: the values of both parties that are still to come, and what was put out
pub record Reckoner : Type 0 where
  pub garbler : List ℕ
  pub evaluator : List ℕ
  pub outputs : List ℕ

abbrev pub bits_taken : Reckoner → Party → (count : ℕ) → List Bool
bits_taken r party.Garbler count = bits (next_value r.garbler) count
bits_taken r party.Evaluator count = bits (next_value r.evaluator) count

abbrev pub after_value : Reckoner → Party → Reckoner
after_value r party.Garbler = record r { garbler = drop 1 r.garbler }
after_value r party.Evaluator = record r { evaluator = drop 1 r.evaluator }

abbrev pub reckoning : Rules Bool
reckoning = record {
  State = Reckoner;
  constant = λ r bit. bit;
  xor = xor_bits;
  not = λ r a. not a;
  and = λ r a b. (r, a && b);
  input = λ r whose count. (after_value r whose, bits_taken r whose count);
  output = λ r wires. record r { outputs = r.outputs ++ number wires ∷ [] };
  finish = λ r. r;
  due = λ from to. None;
  Stops = λ from to f after. ⊥;
  outputs = λ r. r.outputs;
  stream = λ r k. [];
  IsWire = λ wire. Unit {0};
  wire_bytes = 1;
  pack = λ wire. (if wire then 1 else 0) ∷ [];
  unpack = λ bytes. slice_index bytes 0 % 2 == 1;
}
