use Rattle.std.proofs.Common.{◌≤◌, List, length, refl, sym, ap, ◌∙◌, subst}
use Rattle.mage_link.specs.Queues.{QueueState, new_queues}
use Rattle.mage_verify.specs.Parts.{WorkerPart}
use Rattle.mage_world.specs.Rooms.{AreNewWorkers}
use Rattle.mage_world.proofs.Opening.{new_world, is_world}
use Rattle.mage_world.proofs.WorldLemmas.{some_parts}
use Rattle.mage_world.proofs.course.Course.make.Goals as goal

pub room_for-requires-clause-some : goal.room_for-requires-clause-some
room_for-requires-clause-some g c κs bounds =
    subst (λ (ps : List WorkerPart). (1 ≤ length ps) × (length ps ≤ 16)) (sym c.as_slice.ensures.value) (some_parts c.args.parts.items c.requires.verified)

pub invariant_of-result : goal.invariant_of-result
invariant_of-result g c =
    let value = c.as_slice.ensures.value in
    let room = c.in-Ok.room in
    let are = subst (λ (ps : List WorkerPart). AreNewWorkers g.D.Driver.WIRE_BYTES ps room.workers.items) value c.in-Ok.ensures.workers in
    is_world g.D.Driver.rules g.D.Driver.tells g.D.Driver.WIRE_BYTES g.met.D.Driver.bytes c.args.parts.items c.args.drivers.items room.workers.items
    c.args.capacity room.links.workers c.requires.verified c.requires.drivers c.requires.running are
    (ap (λ (q : QueueState). q.workers) c.in-Ok.ensures.links ∙ ap (λ (ps : List WorkerPart). length ps) value)

pub returns-in-Ok-clause-opened : goal.returns-in-Ok-clause-opened
returns-in-Ok-clause-opened g c =
    let value = c.as_slice.ensures.value in
    let room = c.in-Ok.room in
    let are = subst (λ (ps : List WorkerPart). AreNewWorkers g.D.Driver.WIRE_BYTES ps room.workers.items) value c.in-Ok.ensures.workers in
    let links = c.in-Ok.ensures.links ∙ ap (λ (ps : List WorkerPart). new_queues (length ps) c.args.capacity) value in
    new_world g.D.Driver.rules g.D.Driver.tells g.D.Driver.WIRE_BYTES g.met.D.Driver.bytes c.args.parts.items c.args.drivers.items room.workers.items
    c.args.capacity room.links are links _ refl
