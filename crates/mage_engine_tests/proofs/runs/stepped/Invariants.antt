use Rattle.std.proofs.Common.{◌≡◌}
use Rattle.mage_verify.specs.Parts.{WorkerPart}
use Rattle.mage_engine.specs.Ready.{Connects}
use Rattle.mage_engine_tests.proofs.runs.stepped.Given as goal

abbrev pub invariant-loop : goal.invariant-loop
invariant-loop g l = record {
  part : l.machine.part ≡ l.initial.machine.part;
  connects : Connects (g.L.LinkPort.tells l.link) l.machine.part;
  links : (part : WorkerPart) → Connects (g.L.LinkPort.tells l.initial.link) part → Connects (g.L.LinkPort.tells l.link) part;
}
