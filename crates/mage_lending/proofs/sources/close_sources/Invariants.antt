use Rattle.std.proofs.Common.{◌≡◌, ◌≤◌, ◌+◌, length, map}
use Rattle.mage_lending.specs.Sources.{NoneHaveFailed}
use Rattle.mage_lending.proofs.Reading.{after_sources}
use Rattle.mage_lending.proofs.sources.close_sources.Given as goal

-- what is still to come leads to what all of them lead to
abbrev pub invariant-loop-source : goal.invariant-loop-source
invariant-loop-source g l = record {
  few : l.worker + length l.source-iterator.rest.items ≤ length l.names;
  long : l.source-iterator.rest.len ≡ length l.source-iterator.rest.items;
  leads : after_sources (g.D.Desk.tells l.desk) (map g.D.Input.Source.tells l.source-iterator.rest.items)
      ≡ after_sources (g.D.Desk.tells l.initial.desk) (map g.D.Input.Source.tells l.fn.sources.items);
  rises : (g.D.Desk.tells l.initial.desk).faults ≤ (g.D.Desk.tells l.desk).faults;
  quiet : NoneHaveFailed (map g.D.Input.Source.tells l.fn.sources.items)
      → NoneHaveFailed (map g.D.Input.Source.tells l.source-iterator.rest.items)
      × ((g.D.Desk.tells l.desk).faults ≡ (g.D.Desk.tells l.initial.desk).faults);
}
