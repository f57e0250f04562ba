use Rattle.std.proofs.Common.{◌≤◌, ◌+◌, ◌++◌, ◌∷◌, [], length, map, take}
use Rattle.std.specs.Prelude.{reverse}
use Rattle.std.specs.Vec.{vec_capacity}
use Rattle.mage_core.specs.Ports.{LeftOf, store_of}
use Rattle.mage_core.specs.Made.{Hold, shelves}
use Rattle.mage_core.proofs.closing.close_all.Given as goal

abbrev pub invariant-loop-machine : goal.invariant-loop-machine
invariant-loop-machine g l = record {
  hold : Hold l.drivers.items l.stores.items l.machines.items
      (l.initial.drivers.items ++ reverse (map (λ machine. machine.driver) l.initial.machines.items))
      (shelves (take (length l.initial.drivers.items) l.initial.stores.items) ++ reverse (map (λ machine. store_of machine ∷ []) l.initial.machines.items));
  room : length l.drivers.items + length l.machines.items ≤ vec_capacity l.drivers;
  left : LeftOf g.S.Store.tells l.machines.items l.initial.machines.items;
}

abbrev pub decreases-loop-machine : goal.decreases-loop-machine
decreases-loop-machine g l = length l.machines.items
