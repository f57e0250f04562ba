-- The gates of an instruction as a list: its ANDs in order, each of two terms over the bits of the arguments and the ANDs
-- before it.
use Rattle.std.specs.Prelude.{ℕ, ◌+◌, List, [], Bool, false, None, map}
use Rattle.std.specs.List.{range_with_len}
use Rattle.mage_instr.specs.declared.op.Op.{Op}
use Rattle.mage_instr.specs.Opcodes.{width_of_arg}
use Rattle.mage_driver.specs.Rules.{Rules}
use Rattle.mage_driver.specs.Circuits.{Made}
use Rattle.mage_driver.specs.Operations.{circuit_of}

-- a bit of an argument, what an AND gives, by its number from 0, what comes from outside, a constant, an XOR, or a NOT
pub data Term : Type 0 where
  First : (bit : ℕ) → Term
  Second : (bit : ℕ) → Term
  Third : (bit : ℕ) → Term
  Gate : (number : ℕ) → Term
  Outside : (bit : ℕ) → Term
  Constant : (bit : Bool) → Term
  Xor : (left right : Term) → Term
  Not : (turned : Term) → Term

-- the driver that lists its calls: its state is how many ANDs there were
abbrev pub listing : Rules Term
listing = record {
  State = ℕ;
  constant = λ s bit. Constant bit;
  xor = Xor;
  not = λ s a. Not a;
  and = λ s a b. (s + 1, Gate s);
  input = λ s party count. (s, map Outside (range_with_len 0 count));
  output = λ s wires. s;
  finish = λ s. s;
  due = λ from to. None;
  Stops = λ from to f after. ⊥;
  outputs = λ s. [];
  stream = λ s k. [];
  IsWire = λ wire. Unit {0};
  wire_bytes = 1;
  pack = λ wire. [];
  unpack = λ bytes. Constant false;
}

-- the calls of an instruction's circuit in order, and the terms of its result
abbrev pub gates_of : Op → (width imm : ℕ) → Made ℕ Term (List Term)
gates_of op width imm = circuit_of listing op width imm
    (map First (range_with_len 0 (width_of_arg op width imm 0)))
    (map Second (range_with_len 0 (width_of_arg op width imm 1)))
    (map Third (range_with_len 0 (width_of_arg op width imm 2))) 0
