-- The instructions so far can run, and each defines a value of the one width.
use Rattle.std.proofs.Common.{◌≡◌, length}
use Rattle.mage_instr.specs.Sound.{IsSound}
use Rattle.bench_placement.specs.Lists.{DefineWidth}
use Rattle.bench_placement.proofs.lists.short_lived.Given as goal

abbrev pub invariant-loop-t : goal.invariant-loop-t
invariant-loop-t l = record {
  sound : IsSound l.list.items;
  wide : DefineWidth l.list.items l.fn.width;
  count : length l.list.items ≡ l.t;
}
