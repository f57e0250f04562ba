use Rattle.std.proofs.Common.{◌≡◌, ◌≤◌, ◌++◌, length, map, take}
use Rattle.std.specs.Prelude.{IsOk, IsTrue, OnOk}
use Rattle.std.specs.List.{All}
use Rattle.mage_lending.specs.Names.{spelled}
use Rattle.mage_lending.specs.Sinks.{ClosesAll, HaveFiles}
use Rattle.mage_lending.proofs.sinks.close_sinks.Given as goal

-- the first of them are closed
abbrev pub invariant-loop-sink : goal.invariant-loop-sink
invariant-loop-sink g l = record {
  count : l.worker ≡ length l.yielded;
  whole : l.yielded ++ l.sink-iterator.rest.items ≡ l.fn.sinks.items;
  long : l.sink-iterator.rest.len ≡ length l.sink-iterator.rest.items;
  closed : ClosesAll (g.D.Desk.tells l.initial.desk) (g.D.Desk.tells l.desk) (spelled (take l.worker l.names))
      (map g.D.Output.Sink.tells l.yielded) l.closed;
  there : HaveFiles (g.D.Desk.tells l.desk).files (spelled l.names);
  rises : (g.D.Desk.tells l.initial.desk).faults ≤ (g.D.Desk.tells l.desk).faults;
  quiet : All (λ sink. (g.D.Output.Sink.tells sink).faults ≡ 0) l.fn.sinks.items →
      OnOk l.closed ((g.D.Desk.tells l.desk).faults ≡ (g.D.Desk.tells l.initial.desk).faults);
  steady : IsTrue (g.D.Desk.tells l.initial.desk).steady → IsOk l.closed;
  stays : (g.D.Desk.tells l.desk).steady ≡ (g.D.Desk.tells l.initial.desk).steady;
}
