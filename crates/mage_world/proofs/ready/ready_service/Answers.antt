use Rattle.std.proofs.Common.{sym, ◌∙◌}
use Rattle.mage_world.proofs.Finding.{one_slot_more}
use Rattle.mage_world.proofs.ready.ready_service.Goals as goal

pub loop-slot-preserved : goal.loop-slot-preserved
loop-slot-preserved c =
    one_slot_more c.args.slots.now c.loop-slot.slot c.loop-slot.invariant (sym c.is_asked.ensures ∙ c.if-is_asked.false) (sym c.is_busy.ensures ∙ c.if-is_busy.false)
