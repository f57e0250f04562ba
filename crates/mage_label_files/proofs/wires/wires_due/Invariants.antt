use Rattle.std.proofs.Common.{◌≡◌, ◌≤◌, ◌+◌, ◌*◌, drop}
use Rattle.mage_label_files.specs.Labels.{wires_in}
use Rattle.mage_label_files.proofs.wires.wires_due.Given as goal

abbrev pub invariant-loop-instr : goal.invariant-loop-instr
invariant-loop-instr l = record {
  whole : l.count + wires_in (drop l.instr-index l.instrs) ≡ wires_in l.instrs;
  few : l.count ≤ 255 * l.instr-index;
}
