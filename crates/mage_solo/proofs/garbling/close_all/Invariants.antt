use Rattle.std.proofs.Common.{◌≤◌, ◌+◌, length}
use Rattle.std.specs.Vec.{vec_capacity}
use Rattle.mage_solo.proofs.Handing.{Closing}
use Rattle.mage_solo.proofs.garbling.close_all.Given as goal

abbrev pub invariant-loop-driver : goal.invariant-loop-driver
invariant-loop-driver g l = record {
  closing : Closing g.K.Sink.tells l.initial.drivers.items l.drivers.items l.initial.sinks.items l.sinks.items;
  room : length l.sinks.items + length l.drivers.items ≤ vec_capacity l.sinks;
}

abbrev pub decreases-loop-driver : goal.decreases-loop-driver
decreases-loop-driver g l = length l.drivers.items
