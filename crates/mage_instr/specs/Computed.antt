-- What each opcode computes, on whole numbers below 2 to the width.
use Rattle.std.specs.Prelude.{ℕ, ◌==◌, if◌then◌else◌}
use Rattle.mage_bits.specs.Modular as modular
use Rattle.mage_instr.specs.declared.op.Op.{Op}
use Rattle.mage_instr.specs.declared.op.Op.TheVariants as op

-- The value that an instruction of this width and immediate computes from its arguments; 0 for the four that take their value
-- from outside, or define none.
abbrev pub computed : Op → (width imm a b c : ℕ) → ℕ
computed op.Input width imm a b c = 0
computed op.Const width imm a b c = imm
computed op.Output width imm a b c = 0
computed op.Add width imm a b c = modular.add_mod width a b
computed op.Sub width imm a b c = modular.sub_mod width a b
computed op.Mul width imm a b c = modular.mul_mod width a b
computed op.And width imm a b c = modular.and_mod width a b
computed op.Or width imm a b c = modular.or_mod width a b
computed op.Xor width imm a b c = modular.xor_mod width a b
computed op.Not width imm a b c = modular.not_mod width a
computed op.Eq width imm a b c = modular.eq_mod width a b
computed op.Lt width imm a b c = modular.lt_mod width a b
computed op.Mux width imm a b c = if a == 1 then b else c
computed op.Shl width imm a b c = modular.shl_mod width a imm
computed op.Shr width imm a b c = modular.shr_mod width a imm
computed op.Resize width imm a b c = modular.resize_mod width a
computed op.Send width imm a b c = 0
computed op.Recv width imm a b c = 0
computed op.Div width imm a b c = modular.div_mod width a b
computed op.Rem width imm a b c = modular.rem_mod width a b
computed op.Count width imm a b c = modular.count_mod width a
computed op.Min width imm a b c = modular.min_mod width a b
computed op.Max width imm a b c = modular.max_mod width a b
