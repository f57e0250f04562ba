use Rattle.std.proofs.Common.{◌≡◌, length}
use Rattle.mage_core.specs.Turns.{sights}
use Rattle.mage_core.proofs.Turned.{Asked}
use Rattle.mage_core.proofs.turns.turn.Given as goal

abbrev pub invariant-loop-worker : goal.invariant-loop-worker
invariant-loop-worker g l = record {
  asked : Asked g.D.Driver.rules (sights g.D.Driver.tells g.S.Store.tells l.initial.machines.items)
      (sights g.D.Driver.tells g.S.Store.tells l.machines.items) l.initial.link l.link l.worker;
  count : length l.machines.items ≡ length l.initial.machines.items;
}
