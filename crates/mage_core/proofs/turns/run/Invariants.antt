use Rattle.std.proofs.Common.{◌≡◌, length, map}
use Rattle.mage_progress.specs.Stands.{left_of}
use Rattle.mage_core.specs.Turns.{sights}
use Rattle.mage_core.specs.Going.{start_of}
use Rattle.mage_core.specs.Reached.{stands_in, GoOn}
use Rattle.mage_core.proofs.turns.run.Given as goal

abbrev pub invariant-loop-fault : goal.invariant-loop-fault
invariant-loop-fault g l = record {
  go : GoOn g.D.Driver.rules (map (start_of g.D.Driver.tells g.S.Store.tells) l.initial.machines.items) (map (λ machine. machine.part) l.initial.machines.items)
      (sights g.D.Driver.tells g.S.Store.tells l.machines.items) l.link;
  count : length l.machines.items ≡ length l.initial.machines.items;
}

abbrev pub decreases-loop-fault : goal.decreases-loop-fault
decreases-loop-fault g l = left_of (map (λ machine. machine.part) l.initial.machines.items) (stands_in (sights g.D.Driver.tells g.S.Store.tells l.machines.items))
