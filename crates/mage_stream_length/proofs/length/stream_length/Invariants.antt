use Rattle.std.proofs.Common.{◌≡◌, ◌≤◌, ◌*◌, ◌+◌, drop}
use Rattle.mage_stream_length.specs.Length.{length_of}
use Rattle.mage_stream_length.proofs.length.stream_length.Given as goal

abbrev pub invariant-loop-instr : goal.invariant-loop-instr
invariant-loop-instr l = record {
  whole : l.total + length_of (drop l.instr-index l.instrs) ≡ length_of l.instrs;
  few : l.total ≤ 1052672 * l.instr-index;
}
