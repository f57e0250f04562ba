use Rattle.mage_world.specs.Rooms.{AreNewSlots}
use Rattle.mage_world.proofs.room.new_slots.Given as goal

abbrev pub invariant-loop : goal.invariant-loop
invariant-loop l = AreNewSlots l.counter l.bytes l.slots.items
