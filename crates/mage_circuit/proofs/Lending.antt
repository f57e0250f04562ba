-- How an instruction is made on slices of the scratch.
use Rattle.std.proofs.Common.{◌≡◌, ◌≤◌, ℕ, List, ◌++◌, length, take, refl, sym, arith}
use Rattle.std.proofs.lemmas.List.{take-append-le}
use Rattle.mage_instr.specs.declared.op.Op.{Op}
use Rattle.mage_instr.specs.declared.op.Op.TheVariants as op
use Rattle.mage_instr.specs.Opcodes.{width_of_arg}
use Rattle.mage_driver.specs.Rules.{Rules}
use Rattle.mage_driver.specs.Operations.{circuit_of}
use Rattle.mage_circuit.specs.Results.{wires_of_result}

-- a result fits the width
pub result_fits : (o : Op) (width : ℕ) → 1 ≤ width → wires_of_result o width ≤ width
result_fits op.Input width some = omega arith
result_fits op.Const width some = omega arith
result_fits op.Output width some = omega arith
result_fits op.Add width some = omega arith
result_fits op.Sub width some = omega arith
result_fits op.Mul width some = omega arith
result_fits op.And width some = omega arith
result_fits op.Or width some = omega arith
result_fits op.Xor width some = omega arith
result_fits op.Not width some = omega arith
result_fits op.Eq width some = omega arith
result_fits op.Lt width some = omega arith
result_fits op.Mux width some = omega arith
result_fits op.Shl width some = omega arith
result_fits op.Shr width some = omega arith
result_fits op.Resize width some = omega arith
result_fits op.Send width some = omega arith
result_fits op.Recv width some = omega arith
result_fits op.Div width some = omega arith
result_fits op.Rem width some = omega arith
result_fits op.Count width some = omega arith
result_fits op.Min width some = omega arith
result_fits op.Max width some = omega arith

-- The second and third arguments have the instruction's width, where it has them.
pub same_circuit : {W : Type 0} (rules : Rules W) (o : Op) (width imm : ℕ) (a b c : List W) (s : rules.State) →
    circuit_of rules o width imm a (take width b) (take width c) s ≡ circuit_of rules o width imm a (take (width_of_arg o width imm 1) b) (take (width_of_arg o width imm 2) c) s
same_circuit rules op.Input width imm a b c s = refl
same_circuit rules op.Const width imm a b c s = refl
same_circuit rules op.Output width imm a b c s = refl
same_circuit rules op.Add width imm a b c s = refl
same_circuit rules op.Sub width imm a b c s = refl
same_circuit rules op.Mul width imm a b c s = refl
same_circuit rules op.And width imm a b c s = refl
same_circuit rules op.Or width imm a b c s = refl
same_circuit rules op.Xor width imm a b c s = refl
same_circuit rules op.Not width imm a b c s = refl
same_circuit rules op.Eq width imm a b c s = refl
same_circuit rules op.Lt width imm a b c s = refl
same_circuit rules op.Mux width imm a b c s = refl
same_circuit rules op.Shl width imm a b c s = refl
same_circuit rules op.Shr width imm a b c s = refl
same_circuit rules op.Resize width imm a b c s = refl
same_circuit rules op.Send width imm a b c s = refl
same_circuit rules op.Recv width imm a b c s = refl
same_circuit rules op.Div width imm a b c s = refl
same_circuit rules op.Rem width imm a b c s = refl
same_circuit rules op.Count width imm a b c s = refl
same_circuit rules op.Min width imm a b c s = refl
same_circuit rules op.Max width imm a b c s = refl

-- a front of a list of which a front was written
pub front_kept : {W : Type 0} (new rest : List W) (k : ℕ) → k ≤ length new → take k new ≡ take k (new ++ rest)
front_kept new rest k fits = sym (take-append-le k new rest fits)
