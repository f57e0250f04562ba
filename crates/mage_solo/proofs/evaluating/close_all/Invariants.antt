use Rattle.std.proofs.Common.{◌≤◌, ◌+◌, length}
use Rattle.std.specs.Vec.{vec_capacity}
use Rattle.mage_solo.proofs.Drawing.{Closing}
use Rattle.mage_solo.proofs.evaluating.close_all.Given as goal

abbrev pub invariant-loop-driver : goal.invariant-loop-driver
invariant-loop-driver g l = record {
  closing : Closing g.I.Source.tells l.initial.drivers.items l.drivers.items l.initial.sources.items l.sources.items l.outputs.items;
  room : length l.sources.items + length l.drivers.items ≤ vec_capacity l.sources;
  space : length l.outputs.items + length l.drivers.items ≤ vec_capacity l.outputs;
}

abbrev pub decreases-loop-driver : goal.decreases-loop-driver
decreases-loop-driver g l = length l.drivers.items
