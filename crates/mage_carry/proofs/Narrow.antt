-- No variable of instructions that can run is wider than 128 wires.
use Rattle.std.proofs.Common.{◌≡◌, ◌≤◌, zero, suc, ℕ, List, Option, Some, None, IfSome, unwrap_or, lit≤}
use Rattle.std.specs.Prelude.{slice_get, option_map}
use Rattle.mage_instr.specs.declared.op.Op.{Op}
use Rattle.mage_instr.specs.declared.op.Op.TheVariants as op
use Rattle.mage_instr.specs.declared.instr.Instr.{Instr}
use Rattle.mage_instr.specs.Opcodes.{width_of_result, width_of_arg, WidthOk}
use Rattle.mage_instr.specs.Sound.{IsSoundAt, IsSound}
use Rattle.mage_carry.specs.Steps.{width_of}

pub arg_narrow : (o : Op) (w imm k : ℕ) → WidthOk o w imm → width_of_arg o w imm k ≤ 128
arg_narrow op.Mux w imm zero h = lit≤ tt
arg_narrow op.Mux w imm (suc k) h = h.1
arg_narrow op.Resize w imm k h = h.2.1
arg_narrow _ w imm k h = h.1

pub result_narrow : (o : Op) (w imm : ℕ) → WidthOk o w imm → width_of_result o w ≤ 128
result_narrow op.Eq w imm h = lit≤ tt
result_narrow op.Lt w imm h = lit≤ tt
result_narrow _ w imm h = h.1

-- the instruction at an index can have its width and immediate
pub width_ok_at : (instrs : List Instr) (t : ℕ) (i : Instr) → IsSound instrs → slice_get instrs t ≡ Some i → WidthOk i.op i.width i.imm
width_ok_at instrs t i sound is = (rw is at (sound.each t)).0

narrow : (instrs : List Instr) (t : ℕ) (o : Option Instr) → IfSome o (IsSoundAt instrs t) → unwrap_or (option_map (λ i. width_of_result i.op i.width) o) 0 ≤ 128
narrow instrs t None h = lit≤ tt
narrow instrs t (Some i) h = result_narrow i.op i.width i.imm h.0

pub width_of-narrow : (instrs : List Instr) → IsSound instrs → (v : ℕ) → width_of instrs v ≤ 128
width_of-narrow instrs sound v = narrow instrs v (slice_get instrs v) (sound.each v)
