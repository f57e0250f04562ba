-- Which instructions are made of gates, and where their results stand.
use Rattle.std.specs.Prelude.{ℕ, ◌==◌, Bool, true, false, List, if◌then◌else◌, slice_set}
use Rattle.mage_instr.specs.declared.op.Op.{Op}
use Rattle.mage_instr.specs.declared.op.Op.TheVariants as op
use Rattle.mage_instr.specs.Opcodes.{has_result, width_of_result}

-- whether a driver makes an instruction: all but the two that move wires between workers
abbrev pub is_made : Op → Bool
is_made op.Input = true
is_made op.Const = true
is_made op.Output = true
is_made op.Add = true
is_made op.Sub = true
is_made op.Mul = true
is_made op.And = true
is_made op.Or = true
is_made op.Xor = true
is_made op.Not = true
is_made op.Eq = true
is_made op.Lt = true
is_made op.Mux = true
is_made op.Shl = true
is_made op.Shr = true
is_made op.Resize = true
is_made op.Send = false
is_made op.Recv = false
is_made op.Div = true
is_made op.Rem = true
is_made op.Count = true
is_made op.Min = true
is_made op.Max = true

-- how many wires the result of an instruction of this width has
abbrev pub wires_of_result : Op → ℕ → ℕ
wires_of_result o width = if has_result o then width_of_result o width else 0

-- the wires of argument k after a wire of an argument was set
abbrev pub put_wire : {W : Type 0} → (arg k bit : ℕ) → W → List W → List W
put_wire arg k bit wire wires = if arg == k then slice_set wires bit wire else wires
