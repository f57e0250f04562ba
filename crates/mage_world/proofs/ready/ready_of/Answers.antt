use Rattle.std.proofs.Common.{List, refl, subst}
use Rattle.mage_link.specs.Queues.{lies_in}
use Rattle.mage_world.specs.declared.slot.Slot.{Slot}
use Rattle.mage_world.specs.Seats.{seat_of, state_of}
use Rattle.mage_world.specs.Ready.{IsService}
use Rattle.mage_world.proofs.Readying.{service_ready}
use Rattle.mage_world.proofs.ready.ready_of.Goals as goal

pub returns-in-None : goal.returns-in-None
returns-in-None g c =
    let rules = g.D.Driver.rules in
    let part = c.args.part.now in
    let worker = c.args.worker.now in
    service_ready rules part c.args.links.now.capacity (lies_in c.args.links.now)
    (seat_of rules part.limits.page (g.D.Driver.tells c.args.driver.now) (state_of worker)) c.args.w worker.slots.items refl c.in-None.ensures c.ready_service.result
    (subst (λ (l : List Slot). IsService l c.args.w c.ready_service.result) c.as_slice.ensures.value c.ready_service.ensures)
