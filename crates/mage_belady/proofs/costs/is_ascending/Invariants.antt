-- The pages from the one before on ascend where all do.
use Rattle.std.proofs.Common.{◌≡◌, ◌≤◌, ◌-◌, drop}
use Rattle.mage_belady.specs.Cost.{ascends}
use Rattle.mage_belady.proofs.costs.is_ascending.Given as goal

abbrev pub invariant-loop-k : goal.invariant-loop-k
invariant-loop-k l = record {
  after : 1 ≤ l.k;
  rest : ascends (drop (l.k - 1) l.set) ≡ ascends l.set;
}
