use Rattle.std.proofs.Common.{◌≡◌, ◌≤◌, ◌+◌, length}
use Rattle.std.specs.Vec.{vec_capacity}
use Rattle.mage_solo.proofs.Drawing.{Making}
use Rattle.mage_solo.proofs.evaluating.make_all.Given as goal

abbrev pub invariant-loop-source : goal.invariant-loop-source
invariant-loop-source g l = record {
  making : Making g.I.Source.tells l.parts l.initial.labels.items l.initial.sources.items l.sources.items l.labels.items l.drivers.items;
  capacity : vec_capacity l.sources ≡ vec_capacity l.initial.sources;
  room : length l.sources.items + length l.drivers.items ≤ vec_capacity l.drivers;
  count : length l.sources.items + length l.drivers.items ≡ length l.initial.sources.items;
  labels : length l.labels.items ≡ length l.sources.items;
  few : length l.sources.items ≤ 16;
}

abbrev pub decreases-loop-source : goal.decreases-loop-source
decreases-loop-source g l = length l.sources.items
