use Rattle.std.proofs.Common.{ap, ◌∙◌}
use Rattle.mage_world.specs.declared.slot.Work.TheVariants as work
use Rattle.mage_world.proofs.SlotCalls.{ended_write}
use Rattle.mage_world.proofs.slot.end_write.Goals as goal

pub returns-in-Served-Write-clause-ended : goal.returns-in-Served-Write-clause-ended
returns-in-Served-Write-clause-ended c =
    ended_write c.args.slots.now.items c.from.result c.args.slot c.from.ensures c.requires.inside c.index_mut-slot.result.now c.index_mut-slot.ensures.value c.in-Served-Write.field-0-0
    (c.in-Served-Write.is ∙ ap work.Served (rw c.in-Served-Write.is at c.in-Served-Write.field-0-is))
