use Rattle.std.proofs.Common.{◌≡◌, ◌≤◌, ◌+◌, length}
use Rattle.std.specs.Vec.{vec_capacity}
use Rattle.mage_solo.proofs.Handing.{Making}
use Rattle.mage_solo.proofs.garbling.make_all.Given as goal

abbrev pub invariant-loop-sink : goal.invariant-loop-sink
invariant-loop-sink g l = record {
  making : Making g.K.Sink.tells l.seed l.initial.garbler.items l.initial.sinks.items l.sinks.items l.garbler.items l.drivers.items;
  capacity : vec_capacity l.sinks ≡ vec_capacity l.initial.sinks;
  room : length l.sinks.items + length l.drivers.items ≤ vec_capacity l.drivers;
  count : length l.sinks.items + length l.drivers.items ≡ length l.initial.sinks.items;
  values : length l.garbler.items ≡ length l.sinks.items;
  few : length l.sinks.items ≤ 16;
}

abbrev pub decreases-loop-sink : goal.decreases-loop-sink
decreases-loop-sink g l = length l.sinks.items
