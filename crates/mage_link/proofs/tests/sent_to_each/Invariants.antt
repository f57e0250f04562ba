use Rattle.mage_link.specs.Links.{ServesAll}
use Rattle.mage_link.proofs.tests.sent_to_each.Given as goal

abbrev pub invariant-loop-to : goal.invariant-loop-to
invariant-loop-to g l = ServesAll (g.P.LinkPort.tells l.port) 16
