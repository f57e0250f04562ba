-- The instructions so far can run, and the inputs stay.
use Rattle.std.proofs.Common.{◌≡◌, ◌+◌, length}
use Rattle.mage_instr.specs.Sound.{IsSound}
use Rattle.bench_placement.specs.Lists.{AreInputs}
use Rattle.bench_placement.proofs.lists.long_lived.Given as goal

abbrev pub invariant-loop-t : goal.invariant-loop-t
invariant-loop-t l = record {
  sound : IsSound l.list.items;
  inputs : AreInputs l.list.items l.inputs;
  count : length l.list.items ≡ l.inputs + l.t;
}
