-- So many slots are made, and are idle.
use Rattle.std.proofs.Common.{◌≡◌, map, replicate}
use Rattle.mage_carry.specs.State.{Idle}
use Rattle.mage_carry.specs.Views.{slot_of}
use Rattle.mage_carry.proofs.walk.idle_slots.Given as goal

abbrev pub invariant-loop-slot : goal.invariant-loop-slot
invariant-loop-slot l = map slot_of l.slots.items ≡ replicate l._slot Idle
