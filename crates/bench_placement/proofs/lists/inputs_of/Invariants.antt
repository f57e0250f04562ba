-- The inputs so far can run.
use Rattle.std.proofs.Common.{◌≡◌, length}
use Rattle.mage_instr.specs.Sound.{IsSound}
use Rattle.bench_placement.specs.Lists.{AreInputs}
use Rattle.bench_placement.proofs.lists.inputs_of.Given as goal

abbrev pub invariant-loop-t : goal.invariant-loop-t
invariant-loop-t l = record {
  sound : IsSound l.list.items;
  inputs : AreInputs l.list.items l.t;
  count : length l.list.items ≡ l.t;
}
