use Rattle.std.proofs.Common.{take}
use Rattle.mage_world.specs.Rooms.{AreNewWorkers}
use Rattle.mage_world.proofs.room.workers_for.Given as goal

abbrev pub invariant-loop-part : goal.invariant-loop-part
invariant-loop-part l = AreNewWorkers l.wire_bytes (take l.part-index l.parts) l.workers.items
