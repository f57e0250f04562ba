use Rattle.std.proofs.Common.{◌≡◌, length}
use Rattle.mage_lending.specs.Stores.{told_on}
use Rattle.mage_lending.proofs.Giving.{after_shelves, Giving}
use Rattle.mage_lending.proofs.stores.give_stores_back.Given as goal

-- what is still to come leads to what all of them lead to
abbrev pub invariant-loop-shelf : goal.invariant-loop-shelf
invariant-loop-shelf g l = record {
  so_far : Giving g.D.Pages.Store.tells (g.D.Desk.tells l.desk)
      (after_shelves (g.D.Desk.tells l.initial.desk) 0 (told_on g.D.Pages.Store.tells l.fn.stores.items)) l.worker l.shelf-iterator.rest.items;
  long : l.shelf-iterator.rest.len ≡ length l.shelf-iterator.rest.items;
}
