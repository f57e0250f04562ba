use Rattle.std.proofs.Common.{◌≡◌, ◌<◌, ◌^◌, ◌++◌, ◌-◌}
use Rattle.mage_bits.specs.Bits.{bits}
use Rattle.mage_streams.specs.Garbling.{active_labels, bytes_of, zero_labels}
use Rattle.mage_deal.proofs.inputs.add_active.Given as goal

-- the bytes so far, in front of those of the other wires, are all
abbrev pub invariant-loop : goal.invariant-loop
invariant-loop l = (l.wire < 2 ^ 63)
    × (l.bytes.items ++ bytes_of (active_labels l.offset (zero_labels l.seed l.worker l.wire (l.count - l.counter)) (bits l.left (l.count - l.counter)))
    ≡ l.fn.bytes.items ++ bytes_of (active_labels l.offset (zero_labels l.seed l.worker l.first l.count) (bits l.value l.count)))
