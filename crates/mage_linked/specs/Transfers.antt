-- What a worker's instructions send to another worker and receive from one.
use Rattle.std.specs.Prelude.{ℕ, Bool, true, false, ◌&&◌, ◌==◌, List, map}
use Rattle.std.specs.List.{filter}
use Rattle.mage_instr.specs.declared.instr.Instr.{Instr}
use Rattle.mage_instr.specs.declared.op.Op.{Op}
use Rattle.mage_instr.specs.declared.op.Op.TheVariants as op

-- whether the opcode sends
abbrev pub is_send : Op → Bool
is_send op.Input = false
is_send op.Const = false
is_send op.Output = false
is_send op.Add = false
is_send op.Sub = false
is_send op.Mul = false
is_send op.And = false
is_send op.Or = false
is_send op.Xor = false
is_send op.Not = false
is_send op.Eq = false
is_send op.Lt = false
is_send op.Mux = false
is_send op.Shl = false
is_send op.Shr = false
is_send op.Resize = false
is_send op.Send = true
is_send op.Recv = false
is_send op.Div = false
is_send op.Rem = false
is_send op.Count = false
is_send op.Min = false
is_send op.Max = false

-- whether the opcode receives
abbrev pub is_recv : Op → Bool
is_recv op.Input = false
is_recv op.Const = false
is_recv op.Output = false
is_recv op.Add = false
is_recv op.Sub = false
is_recv op.Mul = false
is_recv op.And = false
is_recv op.Or = false
is_recv op.Xor = false
is_recv op.Not = false
is_recv op.Eq = false
is_recv op.Lt = false
is_recv op.Mux = false
is_recv op.Shl = false
is_recv op.Shr = false
is_recv op.Resize = false
is_recv op.Send = false
is_recv op.Recv = true
is_recv op.Div = false
is_recv op.Rem = false
is_recv op.Count = false
is_recv op.Min = false
is_recv op.Max = false

-- the widths of what the instructions send to this worker, in order
abbrev pub sent_to : (worker : ℕ) → List Instr → List ℕ
sent_to worker instrs =
    map (λ i. i.width) (filter (λ i. is_send i.op && i.imm == worker) instrs)

-- the widths of what they receive from this worker, in order
abbrev pub received_from : (worker : ℕ) → List Instr → List ℕ
received_from worker instrs =
    map (λ i. i.width) (filter (λ i. is_recv i.op && i.imm == worker) instrs)
