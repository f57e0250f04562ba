use Rattle.std.proofs.Common.{◌≡◌, ◌-◌, ◌++◌, drop, length, take, IsTrue}
use Rattle.mage_streams.specs.Evaluating.{decoded_bits}
use Rattle.mage_eval.specs.Reading.{at_after_colours, wrong_at_colours}
use Rattle.mage_eval.proofs.outputs.read_value.Given as goal

abbrev pub invariant-loop-i : goal.invariant-loop-i
invariant-loop-i g l = record {
  long : length l.bits ≡ 128;
  bits : IsTrue l.initial.stream.told → take l.i l.bits ++ decoded_bits (drop l.i l.wires) l.stream.left ≡ decoded_bits l.wires l.initial.stream.left;
  wrong : IsTrue l.initial.stream.told → wrong_at_colours (drop l.i l.wires) l.stream.at l.stream.left ≡ wrong_at_colours l.wires l.initial.stream.at l.initial.stream.left;
  left : IsTrue l.initial.stream.told → drop (length l.wires - l.i) l.stream.left ≡ drop (length l.wires) l.initial.stream.left;
  at : at_after_colours (drop l.i l.wires) l.stream.at ≡ at_after_colours l.wires l.initial.stream.at;
  steady : l.stream.steady ≡ l.initial.stream.steady;
  faults : l.stream.faults ≡ l.initial.stream.faults;
  told : l.stream.told ≡ l.initial.stream.told;
}
