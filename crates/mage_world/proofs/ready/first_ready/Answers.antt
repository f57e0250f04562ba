use Rattle.std.proofs.Common.{◌<◌, length, refl, sym, ◌∙◌, subst, arith}
use Rattle.std.proofs.lemmas.Option.{slice_get_read}
use Rattle.mage_world.specs.Seats.{IsLinked, seat_of, state_of}
use Rattle.mage_world.proofs.WorldLemmas.{linked, some_parts, seat_here}
use Rattle.mage_world.proofs.Finding.{world_of, none_at_all, one_worker_on, found_here}
use Rattle.mage_world.proofs.ready.first_ready.Goals as goal

pub overflow_cast-n : goal.overflow_cast-n
overflow_cast-n g c =
    let few = (some_parts c.args.parts.now c.requires.verified).1 in
    omega (arith, few, c.loop-n-test.true)

pub ready_of-found-requires-clause-linked : goal.ready_of-found-requires-clause-linked
ready_of-found-requires-clause-linked g c κs within =
    let n = c.loop-n.n in
    let part = c.index-parts-n.result in
    let below : n < length c.args.parts.now = omega (arith, c.loop-n-test.true) in
    subst (λ k. IsLinked k part) (sym c.requires.as_many_links)
    (linked c.args.parts.now n part c.requires.verified (slice_get_read c.args.parts.now (length c.args.parts.now) n part refl below c.index-parts-n.is))

pub ready_of-found-requires-clause-few : goal.ready_of-found-requires-clause-few
ready_of-found-requires-clause-few g c κs within =
    let few = (some_parts c.args.parts.now c.requires.verified).1 in
    omega (arith, few, c.requires.as_many_links)

pub ready_of-found-requires-clause-slots : goal.ready_of-found-requires-clause-slots
ready_of-found-requires-clause-slots g c κs within =
    let n = c.loop-n.n in
    let part = c.index-parts-n.result in
    let driver = c.index-drivers-n.result in
    let worker = c.index-workers-n.result in
    let below : n < length c.args.parts.now = omega (arith, c.loop-n-test.true) in
    let p = slice_get_read c.args.parts.now (length c.args.parts.now) n part refl below c.index-parts-n.is in
    let d = slice_get_read c.args.drivers.now (length c.args.drivers.now) n driver refl (omega (arith, below, c.requires.as_many_drivers)) c.index-drivers-n.is in
    let w = slice_get_read c.args.workers.now (length c.args.workers.now) n worker refl (omega (arith, below, c.requires.as_many_workers)) c.index-workers-n.is in
    let stands = c.requires.each n part driver worker p d w in
    let count = stands.worker_is.count in
    let few = stands.safe.limits.buffer in omega (arith, count, few)

pub returns-then-is_some : goal.returns-then-is_some
returns-then-is_some g c =
    let rules = g.D.Driver.rules in
    let tells = g.D.Driver.tells in
    let n = c.loop-n.n in
    let part = c.index-parts-n.result in
    let driver = c.index-drivers-n.result in
    let worker = c.index-workers-n.result in
    let below : n < length c.args.parts.now = omega (arith, c.loop-n-test.true) in
    let p = slice_get_read c.args.parts.now (length c.args.parts.now) n part refl below c.index-parts-n.is in
    let d = slice_get_read c.args.drivers.now (length c.args.drivers.now) n driver refl (omega (arith, below, c.requires.as_many_drivers)) c.index-drivers-n.is in
    let w = slice_get_read c.args.workers.now (length c.args.workers.now) n worker refl (omega (arith, below, c.requires.as_many_workers)) c.index-workers-n.is in
    found_here rules (world_of rules tells c.args.parts.now c.args.drivers.now c.args.workers.now c.args.links.now) n n part
    (seat_of rules part.limits.page (tells driver) (state_of worker)) refl p
    (seat_here rules tells c.args.parts.now c.args.drivers.now c.args.workers.now n part driver worker p d w) c.ready_of-found.result
    (sym c.is_some.ensures ∙ c.if-is_some.true) c.ready_of-found.ensures

pub loop-n-preserved : goal.loop-n-preserved
loop-n-preserved g c =
    let rules = g.D.Driver.rules in
    let tells = g.D.Driver.tells in
    let n = c.loop-n.n in
    let part = c.index-parts-n.result in
    let driver = c.index-drivers-n.result in
    let worker = c.index-workers-n.result in
    let below : n < length c.args.parts.now = omega (arith, c.loop-n-test.true) in
    let p = slice_get_read c.args.parts.now (length c.args.parts.now) n part refl below c.index-parts-n.is in
    let d = slice_get_read c.args.drivers.now (length c.args.drivers.now) n driver refl (omega (arith, below, c.requires.as_many_drivers)) c.index-drivers-n.is in
    let w = slice_get_read c.args.workers.now (length c.args.workers.now) n worker refl (omega (arith, below, c.requires.as_many_workers)) c.index-workers-n.is in
    one_worker_on rules (world_of rules tells c.args.parts.now c.args.drivers.now c.args.workers.now c.args.links.now) n n part
    (seat_of rules part.limits.page (tells driver) (state_of worker)) refl p
    (seat_here rules tells c.args.parts.now c.args.drivers.now c.args.workers.now n part driver worker p d w) c.ready_of-found.result
    (sym c.is_some.ensures ∙ c.if-is_some.false) c.ready_of-found.ensures c.loop-n.invariant

pub returns : goal.returns
returns g c =
    let rules = g.D.Driver.rules in
    let tells = g.D.Driver.tells in
    none_at_all rules (world_of rules tells c.args.parts.now c.args.drivers.now c.args.workers.now c.args.links.now) c.loop-n.n c.loop-n.invariant
    (omega (arith, c.loop-n-test.false))
