-- Lists of instructions that can run.
use Rattle.std.specs.Prelude.{◌≡◌, ◌≤◌, ◌<◌, ℕ, List, length, slice_get, slice_index, IsTrue, IfSome, IsSomeAnd}
use Rattle.mage_instr.specs.declared.instr.TheConstants.{NEVER}
use Rattle.mage_instr.specs.declared.instr.Instr.{Instr}
use Rattle.mage_instr.specs.Opcodes.{arity_of, has_result, width_of_result, width_of_arg, WidthOk}

-- argument k of an instruction
abbrev pub arg_of : Instr → ℕ → ℕ
arg_of i k = slice_index i.args k

-- the instruction defines a value of this width
abbrev pub Defines : Instr → ℕ → Type 0
Defines i width = IsTrue (has_result i.op) × (width_of_result i.op i.width ≡ width)

-- Argument k of the instruction at index t is the index of an earlier instruction, which defines a value as wide
-- as the opcode asks for.
abbrev pub IsArgument : List Instr → ℕ → Instr → ℕ → Type 0
IsArgument instrs t i k = (arg_of i k < t) × IsSomeAnd (slice_get instrs (arg_of i k)) (λ source. Defines source (width_of_arg i.op i.width i.imm k))

-- the instruction at index t can run after those before it
abbrev pub IsSoundAt : List Instr → ℕ → Instr → Type 0
IsSoundAt instrs t i = WidthOk i.op i.width i.imm × ((k : ℕ) → k < arity_of i.op → IsArgument instrs t i k)

-- each instruction of a list can run after those before it, and an index fits 32 bits
pub record IsSound (instrs : List Instr) : Type 0 where
  pub count : length instrs ≤ NEVER
  pub each : (t : ℕ) → IfSome (slice_get instrs t) (IsSoundAt instrs t)
