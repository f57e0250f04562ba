-- An instruction's number: what it computes depends on its arguments alone, and fits its width.
use Rattle.std.proofs.Common.{◌≡◌, ◌<◌, ◌^◌, ℕ, Bool, true, false, cond, nat_eq, nat_lt, refl, arith}
use Rattle.std.proofs.lemmas.Nat.{pow_pos}
use Rattle.mage_bits.proofs.ModularLaws.{mod_pow-lt, arithmetic-lt, bitwise-lt, tests-lt, shifts-lt, division-lt, counts-lt}
use Rattle.mage_instr.specs.declared.op.Op.{Op}
use Rattle.mage_instr.specs.declared.op.Op.TheVariants as op
use Rattle.mage_instr.specs.Opcodes.{arity_of, width_of_result, width_of_arg, WidthOk}
use Rattle.mage_instr.specs.Computed.{computed}
use Rattle.mage_circuit_laws.specs.Right.{computes}

-- a number, where the opcode has that argument
abbrev pub used_number : Op → (k : ℕ) → ℕ → ℕ
used_number o k v = cond (nat_lt k (arity_of o)) v 0

pub computed_used : (o : Op) (width imm a b c : ℕ) →
    computed o width imm (used_number o 0 a) (used_number o 1 b) (used_number o 2 c) ≡ computed o width imm a b c
computed_used op.Input width imm a b c = refl
computed_used op.Const width imm a b c = refl
computed_used op.Output width imm a b c = refl
computed_used op.Add width imm a b c = refl
computed_used op.Sub width imm a b c = refl
computed_used op.Mul width imm a b c = refl
computed_used op.And width imm a b c = refl
computed_used op.Or width imm a b c = refl
computed_used op.Xor width imm a b c = refl
computed_used op.Not width imm a b c = refl
computed_used op.Eq width imm a b c = refl
computed_used op.Lt width imm a b c = refl
computed_used op.Mux width imm a b c = refl
computed_used op.Shl width imm a b c = refl
computed_used op.Shr width imm a b c = refl
computed_used op.Resize width imm a b c = refl
computed_used op.Send width imm a b c = refl
computed_used op.Recv width imm a b c = refl
computed_used op.Div width imm a b c = refl
computed_used op.Rem width imm a b c = refl
computed_used op.Count width imm a b c = refl
computed_used op.Min width imm a b c = refl
computed_used op.Max width imm a b c = refl

two : 2 ^ 1 ≡ 2
two = refl

below_choice : (t : Bool) (width b c : ℕ) → b < 2 ^ width → c < 2 ^ width → cond t b c < 2 ^ width
below_choice true width b c hb hc = hb
below_choice false width b c hb hc = hc

-- what is computed fits the width of the result
pub computed_fits : (o : Op) (width imm a b c : ℕ) → computes o ≡ true → WidthOk o width imm →
    (0 < arity_of o → a < 2 ^ width_of_arg o width imm 0) → (1 < arity_of o → b < 2 ^ width_of_arg o width imm 1) →
    (2 < arity_of o → c < 2 ^ width_of_arg o width imm 2) →
    computed o width imm a b c < 2 ^ width_of_result o width
computed_fits op.Input width imm a b c is ok la lb lc = absurd cc
computed_fits op.Const width imm a b c is ok la lb lc = ok.2.0
computed_fits op.Output width imm a b c is ok la lb lc = absurd cc
computed_fits op.Add width imm a b c is ok la lb lc = (arithmetic-lt width a b).0
computed_fits op.Sub width imm a b c is ok la lb lc = (arithmetic-lt width a b).1
computed_fits op.Mul width imm a b c is ok la lb lc = (arithmetic-lt width a b).2
computed_fits op.And width imm a b c is ok la lb lc = (bitwise-lt width a b (la (omega arith)) (lb (omega arith))).0
computed_fits op.Or width imm a b c is ok la lb lc = (bitwise-lt width a b (la (omega arith)) (lb (omega arith))).1
computed_fits op.Xor width imm a b c is ok la lb lc = (bitwise-lt width a b (la (omega arith)) (lb (omega arith))).2
computed_fits op.Not width imm a b c is ok la lb lc = (bitwise-lt width a 0 (la (omega arith)) (pow_pos width)).3
computed_fits op.Eq width imm a b c is ok la lb lc = (tests-lt width a b).0
computed_fits op.Lt width imm a b c is ok la lb lc = (tests-lt width a b).1
computed_fits op.Mux width imm a b c is ok la lb lc = below_choice (nat_eq a 1) width b c (lb (omega arith)) (lc (omega arith))
computed_fits op.Shl width imm a b c is ok la lb lc = (shifts-lt width a imm (la (omega arith))).0
computed_fits op.Shr width imm a b c is ok la lb lc = (shifts-lt width a imm (la (omega arith))).1
computed_fits op.Resize width imm a b c is ok la lb lc = mod_pow-lt width a
computed_fits op.Send width imm a b c is ok la lb lc = absurd cc
computed_fits op.Recv width imm a b c is ok la lb lc = absurd cc
computed_fits op.Div width imm a b c is ok la lb lc = (division-lt width a b (la (omega arith))).0
computed_fits op.Rem width imm a b c is ok la lb lc = (division-lt width a b (la (omega arith))).1
computed_fits op.Count width imm a b c is ok la lb lc = (counts-lt width a 0 (la (omega arith)) (pow_pos width)).0
computed_fits op.Min width imm a b c is ok la lb lc = (counts-lt width a b (la (omega arith)) (lb (omega arith))).1
computed_fits op.Max width imm a b c is ok la lb lc = (counts-lt width a b (la (omega arith)) (lb (omega arith))).2
