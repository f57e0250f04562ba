-- The inputs so far have their values on their steps' pages.
use Rattle.std.proofs.Common.{◌≡◌, length}
use Rattle.mage_belady.proofs.Inputs.{AllDefine}
use Rattle.mage_belady.proofs.replacing.tests.inputs_of.Given as goal

abbrev pub invariant-loop-set : goal.invariant-loop-set
invariant-loop-set l = record {
  all : AllDefine l.instrs.items l.places.items l.trace.items;
  count : length l.trace.items ≡ l.set-index;
}
