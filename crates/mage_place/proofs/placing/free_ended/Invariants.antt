-- The places of the values so far are free where they end.
use Rattle.std.proofs.Common.{◌≡◌, take}
use Rattle.mage_place.specs.Pools.{IsPool, FreesEnded}
use Rattle.mage_place.proofs.placing.free_ended.Given as goal

abbrev pub invariant-loop-k : goal.invariant-loop-k
invariant-loop-k l = record {
  pool : IsPool l.pool;
  wires : l.pool.wires ≡ l.initial.pool.wires;
  freed : FreesEnded l.initial.pool.pages.items l.pool.pages.items l.places l.last l.t (take l.k l.touched.values);
}
