-- How long the stream of a worker's garbler is.
use Rattle.std.specs.Prelude.{◌≡◌, ◌≤◌, ◌<◌, ◌*◌, ◌==◌, ℕ, Bool, true, false, List, [], ◌∷◌, length, if◌then◌else◌}
use Rattle.std.specs.List.{sum_by}
use Rattle.mage_instr.specs.declared.instr.Instr.{Instr}
use Rattle.mage_instr.specs.declared.op.Op.{Op}
use Rattle.mage_instr.specs.declared.op.Op.TheVariants as op
use Rattle.mage_instr.specs.Ands.{and_count_of}
use Rattle.mage_instr.specs.Opcodes.{WidthOk}
use Rattle.mage_linked.specs.declared.emitted.Emitted.{Emitted}
use Rattle.mage_linked.specs.Emission.{own_instrs, program_of}
use Rattle.mage_carried.specs.Laws.{CanRun}
use Rattle.mage_streams.specs.Streams.{garbled_stream}

-- the instruction takes a value in, or puts one out
abbrev pub is_said : Op → Bool
is_said op.Input = true
is_said op.Output = true
is_said other = false

-- What is said at an instruction of this width: 16 bytes for each wire of an input of the garbler, whose immediate is 0, one for each wire
-- of an output, and 32 for each AND.
abbrev pub bytes_at : Op → (width imm : ℕ) → ℕ
bytes_at op.Input width imm = if imm == 0 then 16 * width else 0
bytes_at op.Output width imm = width
bytes_at other width imm = 32 * and_count_of other width

abbrev pub bytes_of : Instr → ℕ
bytes_of i = bytes_at i.op i.width i.imm

-- the same of all of a worker's instructions
abbrev pub length_of : List Instr → ℕ
length_of instrs = sum_by bytes_of instrs

-- The stream of each worker of a program that can run has at most so many bytes.
abbrev pub StreamsAreNoLonger : Type 0
StreamsAreNoLonger =
    (count : ℕ) (emitted : List Emitted) → CanRun count emitted → (seed : List ℕ) (garbler : ℕ → List ℕ) (worker : ℕ) → worker < count
    → length (garbled_stream (program_of count emitted) seed garbler worker) ≤ length_of (own_instrs emitted worker)
