use Rattle.std.proofs.Common.{◌≤◌, length}
use Rattle.std.specs.Vec.{vec_capacity}
use Rattle.mage_lending.proofs.Giving.{Lent}
use Rattle.mage_lending.proofs.stores.lend_shelves.Given as goal

-- the first of them are lent
abbrev pub invariant-loop-worker : goal.invariant-loop-worker
invariant-loop-worker g l = record {
  so_far : Lent g.D.Pages.Store.tells (g.D.Desk.tells l.initial.desk) (g.D.Desk.tells l.desk) l.orders l.stores.items l.worker;
  room : length l.orders ≤ vec_capacity l.stores;
}
