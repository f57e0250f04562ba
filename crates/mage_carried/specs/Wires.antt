-- Drivers whose circuits make wires.
use Rattle.std.specs.Prelude.{◌≡◌, ◌<◌, ℕ, Bool, true, false, List, [], ◌∷◌, length}
use Rattle.mage_instr.specs.declared.op.Op.{Op}
use Rattle.mage_instr.specs.Opcodes.{WidthOk, arity_of, width_of_arg, width_of_result, has_result}
use Rattle.mage_instr.specs.declared.party.Party.{Party}
use Rattle.mage_linked.specs.Transfers.{is_recv}
use Rattle.mage_driver.specs.Rules.{Rules}
use Rattle.mage_driver.specs.Operations.{circuit_of}

module _ {W : Type 0} (rules : Rules W) where
  -- each of some values is a wire
  abbrev pub AreWires : List W → Type 0
  AreWires [] = Unit {0}
  AreWires (wire ∷ wires) = rules.IsWire wire × AreWires wires

  -- wires as many as argument k of an instruction has; of one that it doesn't have nothing is asked
  abbrev pub IsOperand : Op → (width imm k : ℕ) → List W → Type 0
  IsOperand o width imm k wires =
      k < arity_of o → (length wires ≡ width_of_arg o width imm k) × AreWires wires

-- The states of a driver that are fine are told by a test: those whose labels, say, are whole.
module _ {W : Type 0} (rules : Rules W) (fine : rules.State → Bool) where
  -- From a fine state, where its arguments have as many wires as it asks for, the circuit of an
  -- instruction gives wires and leads to a fine state; and it gives as many as its value has, where it
  -- defines one that comes from no other worker.
  pub record MakesWires : Type 0 where
    pub made : (o : Op) (width imm : ℕ) (a b c : List W) (s : rules.State) → fine s ≡ true →
        IsOperand rules o width imm 0 a → IsOperand rules o width imm 1 b →
        IsOperand rules o width imm 2 c →
        AreWires rules (circuit_of rules o width imm a b c s).wires
        × (fine (circuit_of rules o width imm a b c s).state ≡ true)
    pub long : (o : Op) (width imm : ℕ) (a b c : List W) (s : rules.State) → WidthOk o width imm →
        has_result o ≡ true → is_recv o ≡ false →
        IsOperand rules o width imm 0 a → IsOperand rules o width imm 1 b →
        IsOperand rules o width imm 2 c →
        length (circuit_of rules o width imm a b c s).wires ≡ width_of_result o width

  -- what has to hold of a driver's calls for this: what they give of wires in fine states are wires, and
  -- they lead to fine states
  pub record CallsGiveWires : Type 0 where
    pub constant : (s : rules.State) (bit : Bool) → fine s ≡ true → rules.IsWire (rules.constant s bit)
    pub xor : (a b : W) → rules.IsWire a → rules.IsWire b → rules.IsWire (rules.xor a b)
    pub not : (s : rules.State) (a : W) → fine s ≡ true → rules.IsWire a → rules.IsWire (rules.not s a)
    pub and : (s : rules.State) (a b : W) → fine s ≡ true → rules.IsWire a → rules.IsWire b →
        rules.IsWire ((rules.and s a b).1) × (fine ((rules.and s a b).0) ≡ true)
    pub input : (s : rules.State) (party : Party) (count : ℕ) → fine s ≡ true →
        AreWires rules ((rules.input s party count).1)
        × (fine ((rules.input s party count).0) ≡ true)
    pub output : (s : rules.State) (wires : List W) → fine s ≡ true → AreWires rules wires →
        fine (rules.output s wires) ≡ true
