use Rattle.std.proofs.Common.{length, refl, arith}
use Rattle.std.proofs.lemmas.Option.{slice_get_read}
use Rattle.mage_world.proofs.RoomLemmas.{one_worker_more}
use Rattle.mage_world.proofs.room.workers_for.Goals as goal

pub loop-part-preserved : goal.loop-part-preserved
loop-part-preserved c =
    let parts = c.args.parts.now in
    let i = c.loop-part.part-index in
    let part = c.part-item.result in
    let here = slice_get_read parts (length parts) i part refl (omega (arith, c.loop-part-test.true)) c.part-item.is in
    one_worker_more c.args.wire_bytes parts c.loop-part.workers.items c.push.new.self.items i part c.in_ok-new_worker.field-0 here c.loop-part.invariant
    c.in_ok-new_worker.ensures c.in_ok-push.ensures.items
