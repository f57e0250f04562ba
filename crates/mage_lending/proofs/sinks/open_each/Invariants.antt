use Rattle.std.proofs.Common.{◌≤◌, length}
use Rattle.std.specs.Vec.{vec_capacity}
use Rattle.mage_lending.proofs.Opening.{Open}
use Rattle.mage_lending.proofs.sinks.open_each.Given as goal

-- the first of them are open
abbrev pub invariant-loop-worker : goal.invariant-loop-worker
invariant-loop-worker g l = record {
  so_far : Open g.D.Output.Sink.tells (g.D.Desk.tells l.initial.desk) (g.D.Desk.tells l.desk) l.prefix l.rooms l.opened.names.items l.opened.sinks.items l.worker;
  names : length l.rooms ≤ vec_capacity l.opened.names;
  sinks : length l.rooms ≤ vec_capacity l.opened.sinks;
}
