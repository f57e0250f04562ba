use Rattle.mage_world.proofs.SlotCalls.{begun_read}
use Rattle.mage_world.proofs.slot.begin_read.Goals as goal

pub returns-in-Idle-clause-asked : goal.returns-in-Idle-clause-asked
returns-in-Idle-clause-asked c = begun_read c.args.slots.now.items c.from.result c.args.slot c.from.ensures c.requires.inside c.index_mut-slot.result.now c.index_mut-slot.ensures.value c.args.page c.in-Idle.is
