use Rattle.std.proofs.Common.{length, sym}
use Rattle.mage_world.proofs.SlotLemmas.{long_at}
use Rattle.mage_world.proofs.SlotCalls.{in_here, begun_write}
use Rattle.mage_world.proofs.slot.begin_write.Goals as goal

pub returns-in-Idle-clause-asked : goal.returns-in-Idle-clause-asked
returns-in-Idle-clause-asked c =
    let inside = in_here c.args.slots.now.items c.from.result c.args.slot c.from.ensures c.requires.inside c.index_mut-slot.result.now c.index_mut-slot.ensures.value in
    let long = long_at (length c.args.bytes.now) c.args.slots.now.items c.from.result c.index_mut-slot.result.now c.requires.long inside c.index_mut-slot.ensures.value in
    begun_write c.args.slots.now.items c.from.result c.args.slot c.from.ensures c.requires.inside c.index_mut-slot.result.now c.index_mut-slot.ensures.value c.args.page c.args.bytes.now
    c.copy_from_slice.new.self c.in-Idle.is c.copy_from_slice.ensures.items (sym long)
