-- The table of opcodes: what each takes and gives, which width and immediate an instruction may have, and how many ANDs it is
-- made of. Each definition names every opcode.
use Rattle.std.specs.Prelude.{◌≡◌, ◌≤◌, ◌<◌, ◌^◌, ℕ, zero, suc, Bool, true, false}
use Rattle.mage_instr.specs.declared.op.Op.{Op}
use Rattle.mage_instr.specs.declared.op.Op.TheVariants as op

-- the greatest width, in bits
abbrev pub greatest_width : ℕ
greatest_width = 128

-- a width that a value may have
abbrev pub IsWidth : ℕ → Type 0
IsWidth width = (1 ≤ width) × (width ≤ greatest_width)

-- how many workers a program has at most
abbrev pub most_workers : ℕ
most_workers = 16

-- how many arguments an instruction takes
abbrev pub arity_of : Op → ℕ
arity_of op.Input = 0
arity_of op.Const = 0
arity_of op.Output = 1
arity_of op.Add = 2
arity_of op.Sub = 2
arity_of op.Mul = 2
arity_of op.And = 2
arity_of op.Or = 2
arity_of op.Xor = 2
arity_of op.Not = 1
arity_of op.Eq = 2
arity_of op.Lt = 2
arity_of op.Mux = 3
arity_of op.Shl = 1
arity_of op.Shr = 1
arity_of op.Resize = 1
arity_of op.Send = 1
arity_of op.Recv = 0
arity_of op.Div = 2
arity_of op.Rem = 2
arity_of op.Count = 1
arity_of op.Min = 2
arity_of op.Max = 2

-- whether an instruction defines a value
abbrev pub has_result : Op → Bool
has_result op.Input = true
has_result op.Const = true
has_result op.Output = false
has_result op.Add = true
has_result op.Sub = true
has_result op.Mul = true
has_result op.And = true
has_result op.Or = true
has_result op.Xor = true
has_result op.Not = true
has_result op.Eq = true
has_result op.Lt = true
has_result op.Mux = true
has_result op.Shl = true
has_result op.Shr = true
has_result op.Resize = true
has_result op.Send = false
has_result op.Recv = true
has_result op.Div = true
has_result op.Rem = true
has_result op.Count = true
has_result op.Min = true
has_result op.Max = true

-- the width of the value that an instruction of width w defines: a comparison gives one bit
abbrev pub width_of_result : Op → ℕ → ℕ
width_of_result op.Input w = w
width_of_result op.Const w = w
width_of_result op.Output w = w
width_of_result op.Add w = w
width_of_result op.Sub w = w
width_of_result op.Mul w = w
width_of_result op.And w = w
width_of_result op.Or w = w
width_of_result op.Xor w = w
width_of_result op.Not w = w
width_of_result op.Eq w = 1
width_of_result op.Lt w = 1
width_of_result op.Mux w = w
width_of_result op.Shl w = w
width_of_result op.Shr w = w
width_of_result op.Resize w = w
width_of_result op.Send w = w
width_of_result op.Recv w = w
width_of_result op.Div w = w
width_of_result op.Rem w = w
width_of_result op.Count w = w
width_of_result op.Min w = w
width_of_result op.Max w = w

-- the widths of the arguments of a choice: the condition has one bit
abbrev pub mux_width : (w k : ℕ) → ℕ
mux_width w zero = 1
mux_width w (suc k) = w

-- the width of argument k, from 0, of an instruction of width w
abbrev pub width_of_arg : Op → (w imm k : ℕ) → ℕ
width_of_arg op.Input w imm k = w
width_of_arg op.Const w imm k = w
width_of_arg op.Output w imm k = w
width_of_arg op.Add w imm k = w
width_of_arg op.Sub w imm k = w
width_of_arg op.Mul w imm k = w
width_of_arg op.And w imm k = w
width_of_arg op.Or w imm k = w
width_of_arg op.Xor w imm k = w
width_of_arg op.Not w imm k = w
width_of_arg op.Eq w imm k = w
width_of_arg op.Lt w imm k = w
width_of_arg op.Mux w imm k = mux_width w k
width_of_arg op.Shl w imm k = w
width_of_arg op.Shr w imm k = w
width_of_arg op.Resize w imm k = imm
width_of_arg op.Send w imm k = w
width_of_arg op.Recv w imm k = w
width_of_arg op.Div w imm k = w
width_of_arg op.Rem w imm k = w
width_of_arg op.Count w imm k = w
width_of_arg op.Min w imm k = w
width_of_arg op.Max w imm k = w

-- what an instruction of width w may have as its immediate
abbrev pub ImmOk : Op → (w imm : ℕ) → Type 0
-- 0 for the garbler, 1 for the evaluator
ImmOk op.Input w imm = imm ≤ 1
-- the value, which also fits 64 bits
ImmOk op.Const w imm = (imm < 2 ^ w) × (imm < 2 ^ 64)
ImmOk op.Output w imm = imm ≡ 0
ImmOk op.Add w imm = imm ≡ 0
ImmOk op.Sub w imm = imm ≡ 0
ImmOk op.Mul w imm = imm ≡ 0
ImmOk op.And w imm = imm ≡ 0
ImmOk op.Or w imm = imm ≡ 0
ImmOk op.Xor w imm = imm ≡ 0
ImmOk op.Not w imm = imm ≡ 0
ImmOk op.Eq w imm = imm ≡ 0
ImmOk op.Lt w imm = imm ≡ 0
ImmOk op.Mux w imm = imm ≡ 0
-- the amount
ImmOk op.Shl w imm = imm ≤ greatest_width
ImmOk op.Shr w imm = imm ≤ greatest_width
-- the width of the argument
ImmOk op.Resize w imm = (1 ≤ imm) × (imm ≤ greatest_width)
-- the other worker
ImmOk op.Send w imm = imm < most_workers
ImmOk op.Recv w imm = imm < most_workers
ImmOk op.Div w imm = imm ≡ 0
ImmOk op.Rem w imm = imm ≡ 0
ImmOk op.Count w imm = imm ≡ 0
ImmOk op.Min w imm = imm ≡ 0
ImmOk op.Max w imm = imm ≡ 0

-- which width and immediate an instruction may have
abbrev pub WidthOk : Op → (w imm : ℕ) → Type 0
WidthOk o w imm = (1 ≤ w) × (w ≤ greatest_width) × ImmOk o w imm
