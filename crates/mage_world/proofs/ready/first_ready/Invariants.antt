use Rattle.mage_world.specs.Ready.{NoneBelow}
use Rattle.mage_world.proofs.Finding.{world_of}
use Rattle.mage_world.proofs.ready.first_ready.Given as goal

abbrev pub invariant-loop-n : goal.invariant-loop-n
invariant-loop-n g l = NoneBelow g.D.Driver.rules (world_of g.D.Driver.rules g.D.Driver.tells l.parts l.drivers l.workers l.links) l.n
