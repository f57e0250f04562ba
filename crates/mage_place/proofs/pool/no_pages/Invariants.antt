-- So far each list is empty.
use Rattle.std.proofs.Common.{◌≡◌, ℕ, false, length}
use Rattle.mage_place.specs.Pools.{is_listed}
use Rattle.mage_place.proofs.pool.no_pages.Given as goal

abbrev pub invariant-loop : goal.invariant-loop
invariant-loop l = record {
  count : length l.open.items ≡ l.counter;
  empty : (c q : ℕ) → is_listed l.open.items c q ≡ false;
}
