-- The rules of the driver that computes in plain: a wire is its bit.
use Rattle.std.specs.Prelude.{ℕ, ◌+◌, ◌%◌, ◌^◌, ◌==◌, nat_lt, List, [], ◌∷◌, ◌++◌, Bool, true, not, ◌&&◌, None, if◌then◌else◌, length, unwrap_or, slice_get, slice_index, drop}
use Rattle.mage_bits.specs.Bits.{bits, number}
use Rattle.mage_instr.specs.declared.party.Party.{Party}
use Rattle.mage_instr.specs.declared.party.Party.TheVariants as party
use Rattle.mage_driver.specs.declared.standing.Standing.{Standing}
use Rattle.mage_driver.specs.Rules.{Rules}
use Rattle.mage_driver.specs.Calls.{Told}

pub record Plain : Type 0 where
  -- the values of each party that are still to come
  pub garbler : List ℕ
  pub evaluator : List ℕ
  -- what was put out, and how many numbers of it are kept
  pub outputs : List ℕ
  pub room : ℕ
  -- how many ANDs were made, modulo 2 ^ 63
  pub ands : ℕ

-- the driver as its callers see it
pub record PlainMoment : Type 0 where
  pub state : Plain
  pub standing : Standing

-- what it tells: it has no source and no sink that could fail, and its state is always told
abbrev pub told_of : PlainMoment → Told Plain
told_of d = record { state = d.state; standing = d.standing; faults = 0; told = true }

-- one wire is another, but not both
abbrev pub differ : Bool → Bool → Bool
differ a b = if a then not b else b

-- the first value that is still to come, or 0
abbrev pub next_of : List ℕ → ℕ
next_of values = unwrap_or (slice_get values 0) 0

-- the state and the bits after an input
abbrev pub taken_in : Plain → Party → ℕ → Plain × List Bool
taken_in s party.Garbler count =
    (record s { garbler = drop 1 s.garbler }, bits (next_of s.garbler) count)
taken_in s party.Evaluator count =
    (record s { evaluator = drop 1 s.evaluator }, bits (next_of s.evaluator) count)

-- an output is kept while there is room
abbrev pub put_out : Plain → List Bool → Plain
put_out s wires = record s {
  outputs = if nat_lt (length s.outputs) s.room then s.outputs ++ number wires ∷ [] else s.outputs;
}

abbrev pub counted_and : Plain → Plain
counted_and s = record s { ands = (s.ands + 1) % 2 ^ 63 }

-- a packed wire is a byte, 0 or 1; of another byte the lowest bit counts
abbrev pub packed : Bool → List ℕ
packed wire = (if wire then 1 else 0) ∷ []

abbrev pub plain_rules : Rules Bool
plain_rules = record {
  State = Plain;
  constant = λ s bit. bit;
  xor = differ;
  not = λ s a. not a;
  and = λ s a b. (counted_and s, a && b);
  input = taken_in;
  output = put_out;
  finish = λ s. s;
  due = λ from to. None;
  Stops = λ from to f after. ⊥;
  outputs = λ s. s.outputs;
  stream = λ s k. [];
  IsWire = λ wire. Unit {0};
  wire_bytes = 1;
  pack = packed;
  unpack = λ bytes. slice_index bytes 0 % 2 == 1;
}
