use Rattle.mage_world.proofs.SlotCalls.{claimed}
use Rattle.mage_world.proofs.slot.claim.Goals as goal

pub returns-in-Asked-clause-claimed : goal.returns-in-Asked-clause-claimed
returns-in-Asked-clause-claimed c = claimed c.args.slots.now.items c.from.result c.args.slot c.from.ensures c.requires.inside c.index_mut-slot.result.now c.index_mut-slot.ensures.value c.in-Asked.transfer c.in-Asked.is
