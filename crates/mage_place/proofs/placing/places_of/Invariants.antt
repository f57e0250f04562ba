-- The places so far are right, and the pages hold the live values.
use Rattle.std.proofs.Common.{◌≡◌}
use Rattle.mage_place.specs.Pools.{IsPool}
use Rattle.mage_place.proofs.Placed.{Kept}
use Rattle.mage_place.proofs.placing.places_of.Given as goal

abbrev pub invariant-loop-t : goal.invariant-loop-t
invariant-loop-t l = record {
  pool : IsPool l.pool;
  wires : l.pool.wires ≡ l.page;
  kept : Kept l.instrs l.page l.last.items l.t l.places.items l.pool.pages.items;
}
