use Rattle.std.proofs.Common.{◌≡◌, ◌≤◌, ◌+◌, ◌++◌, ℕ, length, map, slice_get}
use Rattle.std.specs.Prelude.{IfSome, reverse}
use Rattle.std.specs.Vec.{vec_capacity}
use Rattle.std.specs.List.{All}
use Rattle.mage_driver.specs.declared.standing.Standing.TheVariants as standing
use Rattle.mage_core.specs.Made.{IsNew, HasStoreOf, Hold, shelves}
use Rattle.mage_core.proofs.making.make_all.Given as goal

abbrev pub invariant-loop-part : goal.invariant-loop-part
invariant-loop-part g l = record {
  hold : Hold l.drivers.items l.stores.items l.machines.items l.initial.drivers.items (shelves l.initial.stores.items);
  parts : l.parts.items ++ reverse (map (λ machine. machine.part) l.machines.items) ≡ l.initial.parts.items;
  new : All (IsNew g.D.Driver.rules g.D.Driver.tells g.S.Store.tells) l.machines.items;
  count : length l.drivers.items ≡ length l.parts.items;
  capacity : vec_capacity l.drivers ≡ vec_capacity l.initial.drivers;
  room : length l.parts.items + length l.machines.items ≤ vec_capacity l.machines;
  running : All (λ driver. (g.D.Driver.tells driver).standing ≡ standing.Running) l.drivers.items;
  suits : (w : ℕ) → IfSome (slice_get l.parts.items w)
      (λ part. IfSome (slice_get l.stores.items w) (λ shelf. HasStoreOf g.D.Driver.WIRE_BYTES g.S.Store.tells part shelf.items));
}

abbrev pub decreases-loop-part : goal.decreases-loop-part
decreases-loop-part g l = length l.parts.items
