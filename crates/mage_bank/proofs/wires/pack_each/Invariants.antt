use Rattle.std.proofs.Common.{◌≡◌, ◌*◌, length, take}
use Rattle.std.specs.List.{flat_map}
use Rattle.mage_steps.specs.Frames.{with_piece}
use Rattle.mage_bank.proofs.wires.pack_each.Given as goal

abbrev pub invariant-loop-i : goal.invariant-loop-i
invariant-loop-i g l = record {
  long : length (flat_map g.D.Driver.rules.pack (take l.i l.wires)) ≡ l.i * g.D.Driver.rules.wire_bytes;
  bytes : l.frame ≡ with_piece l.initial.frame (l.place * g.D.Driver.rules.wire_bytes) (flat_map g.D.Driver.rules.pack (take l.i l.wires));
}
