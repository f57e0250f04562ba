use Rattle.std.proofs.Common.{◌<◌, ℕ, length, set, refl, sym, subst, arith}
use Rattle.std.proofs.lemmas.Option.{slice_get_read}
use Rattle.mage_world.specs.Seats.{IsLinked}
use Rattle.mage_world.specs.Worlds.{IsTurn, HappensAt, IsWorld}
use Rattle.mage_world.proofs.WorldLemmas.{linked, stands_here, world_both, view, turn_seen}
use Rattle.mage_world.proofs.course.Course.turn.Goals as goal

pub take_turn-requires-clause-stands : goal.take_turn-requires-clause-stands
take_turn-requires-clause-stands g c κs bounds =
    let inside = c.self.inside in
    let n = c.from-n.result in
    let below : n < length inside.parts.items = omega (arith, inside.parts.ok.0, c.len.ensures, c.if-n-len.false) in
    let world = c.self.invariant in
    let part = c.index.result.now in
    let driver = c.index_mut.result.now in
    let worker = c.index_mut-2.result.now in
    let p = slice_get_read inside.parts.items (length inside.parts.items) n part refl below c.index.ensures in
    let d = slice_get_read inside.drivers.items (length inside.drivers.items) n driver refl (omega (arith, below, world.as_many_drivers)) c.index_mut.ensures.value in
    let w = slice_get_read inside.workers.items (length inside.workers.items) n worker refl (omega (arith, below, world.as_many_workers)) c.index_mut-2.ensures.value in
    stands_here g.D.Driver.rules g.D.Driver.tells inside.parts.items inside.drivers.items inside.workers.items inside.links.workers world n
    part driver worker p d w

pub take_turn-requires-clause-linked : goal.take_turn-requires-clause-linked
take_turn-requires-clause-linked g c κs bounds =
    let inside = c.self.inside in
    let n = c.from-n.result in
    let below : n < length inside.parts.items = omega (arith, inside.parts.ok.0, c.len.ensures, c.if-n-len.false) in
    let world = c.self.invariant in
    let part = c.index.result.now in
    let driver = c.index_mut.result.now in
    let worker = c.index_mut-2.result.now in
    let p = slice_get_read inside.parts.items (length inside.parts.items) n part refl below c.index.ensures in
    let d = slice_get_read inside.drivers.items (length inside.drivers.items) n driver refl (omega (arith, below, world.as_many_drivers)) c.index_mut.ensures.value in
    let w = slice_get_read inside.workers.items (length inside.workers.items) n worker refl (omega (arith, below, world.as_many_workers)) c.index_mut-2.ensures.value in
    subst (λ (k : ℕ). IsLinked k part) (sym world.as_many_links) (linked inside.parts.items n part world.verified p)

pub invariant_of-self : goal.invariant_of-self
invariant_of-self g c =
    let inside = c.self.inside in
    let n = c.from-n.result in
    let below : n < length inside.parts.items = omega (arith, inside.parts.ok.0, c.len.ensures, c.if-n-len.false) in
    let world = c.self.invariant in
    let part = c.index.result.now in
    let driver = c.index_mut.result.now in
    let worker = c.index_mut-2.result.now in
    let p = slice_get_read inside.parts.items (length inside.parts.items) n part refl below c.index.ensures in
    let d = slice_get_read inside.drivers.items (length inside.drivers.items) n driver refl (omega (arith, below, world.as_many_drivers)) c.index_mut.ensures.value in
    let w = slice_get_read inside.workers.items (length inside.workers.items) n worker refl (omega (arith, below, world.as_many_workers)) c.index_mut-2.ensures.value in
    subst (λ (k : ℕ). IsWorld g.D.Driver.rules g.D.Driver.tells inside.parts.items (set inside.drivers.items n c.take_turn.new.driver) (set inside.workers.items n c.take_turn.new.worker) k)
    (sym c.take_turn.ensures.links.0)
    (world_both g.D.Driver.rules g.D.Driver.tells inside.parts.items inside.drivers.items inside.workers.items inside.links.workers world n
    part driver worker p d w c.take_turn.new.driver c.take_turn.new.worker c.take_turn.ensures.stands)

pub returns : goal.returns
returns g c =
    let inside = c.self.inside in
    let n = c.from-n.result in
    let below : n < length inside.parts.items = omega (arith, inside.parts.ok.0, c.len.ensures, c.if-n-len.false) in
    let world = c.self.invariant in
    let part = c.index.result.now in
    let driver = c.index_mut.result.now in
    let worker = c.index_mut-2.result.now in
    let p = slice_get_read inside.parts.items (length inside.parts.items) n part refl below c.index.ensures in
    let d = slice_get_read inside.drivers.items (length inside.drivers.items) n driver refl (omega (arith, below, world.as_many_drivers)) c.index_mut.ensures.value in
    let w = slice_get_read inside.workers.items (length inside.workers.items) n worker refl (omega (arith, below, world.as_many_workers)) c.index_mut-2.ensures.value in
    let seen_so = turn_seen g.D.Driver.rules g.D.Driver.tells inside.parts.items inside.drivers.items inside.workers.items inside.links.workers world n
    part driver worker p d w c.args.kind c.take_turn.new.driver c.take_turn.new.worker inside.links.capacity c.take_turn.new.links.capacity inside.links.links c.take_turn.new.links.links
    c.take_turn.result c.take_turn.ensures.links.1 c.take_turn.ensures.turn in
    rw (← c.self.view_is) (subst (λ (k : ℕ). HappensAt g.D.Driver.rules
    (view g.D.Driver.rules g.D.Driver.tells inside.parts.items inside.drivers.items inside.workers.items inside.links.workers world n part driver worker p d w inside.drivers.items inside.workers.items inside.links.capacity inside.links.links)
    (view g.D.Driver.rules g.D.Driver.tells inside.parts.items inside.drivers.items inside.workers.items inside.links.workers world n part driver worker p d w (set inside.drivers.items n c.take_turn.new.driver) (set inside.workers.items n c.take_turn.new.worker) c.take_turn.new.links.capacity c.take_turn.new.links.links)
    k (IsTurn c.args.kind) c.take_turn.result) c.from-n.ensures seen_so)
