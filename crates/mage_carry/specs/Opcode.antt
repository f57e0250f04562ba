-- The numbers of the opcodes, by which they are compared.
use Rattle.std.specs.Prelude.{ℕ, Bool, nat_eq}
use Rattle.mage_instr.specs.declared.op.Op.{Op}
use Rattle.mage_instr.specs.declared.op.Op.TheVariants as op

-- the number of an opcode: they are numbered from 0 in the order of the table
abbrev pub number_of : Op → ℕ
number_of op.Input = 0
number_of op.Const = 1
number_of op.Output = 2
number_of op.Add = 3
number_of op.Sub = 4
number_of op.Mul = 5
number_of op.And = 6
number_of op.Or = 7
number_of op.Xor = 8
number_of op.Not = 9
number_of op.Eq = 10
number_of op.Lt = 11
number_of op.Mux = 12
number_of op.Shl = 13
number_of op.Shr = 14
number_of op.Resize = 15
number_of op.Send = 16
number_of op.Recv = 17
number_of op.Div = 18
number_of op.Rem = 19
number_of op.Count = 20
number_of op.Min = 21
number_of op.Max = 22

-- whether two opcodes are the same
abbrev pub same_op : Op → Op → Bool
same_op a b = nat_eq (number_of a) (number_of b)
