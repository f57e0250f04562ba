use Rattle.std.proofs.Common.{◌≡◌, ◌<◌, ◌^◌, ◌++◌, drop}
use Rattle.mage_streams.specs.Garbling.{bytes_of}
use Rattle.mage_deal.specs.Dealing.{all_labels, new_dealer}
use Rattle.mage_deal.proofs.file.labels_of.Given as goal

-- the bytes so far, in front of those of the other instructions, are all
abbrev pub invariant-loop-instr : goal.invariant-loop-instr
invariant-loop-instr l = (l.place.wires < 2 ^ 63)
    × (l.bytes.items ++ bytes_of (all_labels (record {
      seed = l.seed;
      worker = l.worker;
      wires = l.place.wires;
      values = l.place.values.now;
    }) (drop l.instr-index l.instrs))
    ≡ bytes_of (all_labels (new_dealer l.seed l.worker l.values) l.instrs))
