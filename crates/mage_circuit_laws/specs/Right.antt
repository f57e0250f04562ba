-- That the circuit of an instruction computes on plain wires what the instruction does on numbers.
use Rattle.std.specs.Prelude.{◌≡◌, ℕ, List, Bool, true, false, length}
use Rattle.mage_bits.specs.Bits.{bits, number}
use Rattle.mage_instr.specs.declared.op.Op.{Op}
use Rattle.mage_instr.specs.declared.op.Op.TheVariants as op
use Rattle.mage_instr.specs.Opcodes.{WidthOk, width_of_arg, width_of_result}
use Rattle.mage_instr.specs.Computed.{computed}
use Rattle.mage_driver.specs.Operations.{circuit_of}
use Rattle.mage_plain.specs.Plain.{Plain, plain_rules}

-- The result's wires are the bits of the number that the instruction computes from the numbers of its arguments.
abbrev pub IsRight : Op → Type 0
IsRight o = (width imm : ℕ) (a b c : List Bool) (s : Plain) → WidthOk o width imm →
    length a ≡ width_of_arg o width imm 0 → length b ≡ width_of_arg o width imm 1 →
    length c ≡ width_of_arg o width imm 2 →
    (circuit_of plain_rules o width imm a b c s).wires
    ≡ bits (computed o width imm (number a) (number b) (number c)) (width_of_result o width)

-- An instruction computes its result: all but the two that bring a value in, and the two that take one out.
abbrev pub computes : Op → Bool
computes op.Input = false
computes op.Const = true
computes op.Output = false
computes op.Add = true
computes op.Sub = true
computes op.Mul = true
computes op.And = true
computes op.Or = true
computes op.Xor = true
computes op.Not = true
computes op.Eq = true
computes op.Lt = true
computes op.Mux = true
computes op.Shl = true
computes op.Shr = true
computes op.Resize = true
computes op.Send = false
computes op.Recv = false
computes op.Div = true
computes op.Rem = true
computes op.Count = true
computes op.Min = true
computes op.Max = true
