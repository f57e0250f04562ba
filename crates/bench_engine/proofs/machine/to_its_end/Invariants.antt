use Rattle.mage_engine.specs.Ready.{Connects}
use Rattle.bench_engine.proofs.machine.to_its_end.Given as goal

abbrev pub invariant-loop-turn : goal.invariant-loop-turn
invariant-loop-turn g l = Connects (g.L.LinkPort.tells l.link) l.machine.part
