use Rattle.mage_world.proofs.Finding.{NoneIn}
use Rattle.mage_world.proofs.ready.ready_service.Given as goal

abbrev pub invariant-loop-slot : goal.invariant-loop-slot
invariant-loop-slot l = NoneIn l.slots l.slot
