use Rattle.mage_link.specs.Links.{ServesAll}
use Rattle.mage_link.proofs.tests.received_from_each.Given as goal

abbrev pub invariant-loop-from : goal.invariant-loop-from
invariant-loop-from g l = ServesAll (g.P.LinkPort.tells l.port) 16
