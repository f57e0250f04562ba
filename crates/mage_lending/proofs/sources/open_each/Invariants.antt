use Rattle.std.proofs.Common.{◌≤◌}
use Rattle.std.specs.Vec.{vec_capacity}
use Rattle.mage_lending.proofs.Reading.{Reads}
use Rattle.mage_lending.proofs.sources.open_each.Given as goal

-- the first of them are open
abbrev pub invariant-loop-worker : goal.invariant-loop-worker
invariant-loop-worker g l = record {
  so_far : Reads g.D.Input.Source.tells (g.D.Desk.tells l.initial.desk) (g.D.Desk.tells l.desk) l.prefix l.opened.names.items l.opened.sources.items l.worker;
  names : l.workers ≤ vec_capacity l.opened.names;
  sources : l.workers ≤ vec_capacity l.opened.sources;
}
