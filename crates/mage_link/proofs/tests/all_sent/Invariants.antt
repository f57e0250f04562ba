use Rattle.mage_link.specs.Links.{ServesAll}
use Rattle.mage_link.proofs.tests.all_sent.Given as goal

abbrev pub invariant-loop-me : goal.invariant-loop-me
invariant-loop-me g l = ServesAll (g.P.LinkPort.tells l.port) 16
