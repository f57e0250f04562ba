use Rattle.mage_engine.specs.Ready.{Connects}
use Rattle.mage_engine_tests.proofs.runs.in_turn.Given as goal

abbrev pub invariant-loop : goal.invariant-loop
invariant-loop g l = record {
  first : Connects (g.L.LinkPort.tells l.link) l.first.part;
  second : Connects (g.L.LinkPort.tells l.link) l.second.part;
}
