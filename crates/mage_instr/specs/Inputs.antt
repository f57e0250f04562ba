-- The inputs of a program, as its instructions have them.
use Rattle.std.specs.Prelude.{ℕ, ◌==◌, ◌&&◌, Bool, true, false, List, map}
use Rattle.std.specs.List.{filter}
use Rattle.mage_instr.specs.declared.instr.Instr.{Instr}
use Rattle.mage_instr.specs.declared.instr.Program.{Program}
use Rattle.mage_instr.specs.declared.op.Op.{Op}
use Rattle.mage_instr.specs.declared.op.Op.TheVariants as op
use Rattle.mage_instr.specs.declared.party.Party.{Party}
use Rattle.mage_instr.specs.declared.party.Party.TheVariants as party

-- the immediate of an instruction that takes a value of this party
abbrev pub imm_of : Party → ℕ
imm_of party.Garbler = 0
imm_of party.Evaluator = 1

-- the opcode takes an input value
abbrev pub is_input : Op → Bool
is_input op.Input = true
is_input op.Const = false
is_input op.Output = false
is_input op.Add = false
is_input op.Sub = false
is_input op.Mul = false
is_input op.And = false
is_input op.Or = false
is_input op.Xor = false
is_input op.Not = false
is_input op.Eq = false
is_input op.Lt = false
is_input op.Mux = false
is_input op.Shl = false
is_input op.Shr = false
is_input op.Resize = false
is_input op.Send = false
is_input op.Recv = false
is_input op.Div = false
is_input op.Rem = false
is_input op.Count = false
is_input op.Min = false
is_input op.Max = false

-- the instruction takes an input value of this party
abbrev pub is_input_of : Party → Instr → Bool
is_input_of whose i = is_input i.op && i.imm == imm_of whose

-- the widths of a party's input values among some instructions, in order
abbrev pub widths_in : Party → List Instr → List ℕ
widths_in whose instrs = map (λ i. i.width) (filter (is_input_of whose) instrs)

-- the same for each worker of a program
abbrev pub input_widths_of : Party → Program → List (List ℕ)
input_widths_of whose program = map (widths_in whose) program.workers
