use Rattle.std.proofs.Common.{◌<◌, ℕ, length, set, refl, subst, arith}
use Rattle.std.proofs.lemmas.Option.{slice_get_read}
use Rattle.mage_network.specs.Slots as net
use Rattle.mage_world.specs.Worlds.{IsService, HappensAt}
use Rattle.mage_world.proofs.WorldLemmas.{stands_here, world_worker, view, service_seen}
use Rattle.mage_world.proofs.course.Course.claim.Goals as goal

pub claim_slot-requires-after_bounds : goal.claim_slot-requires-after_bounds
claim_slot-requires-after_bounds g c κs bounds =
    let inside = c.self.inside in
    let n = c.from-n.result in
    let below : n < length inside.parts.items = omega (arith, inside.parts.ok.0, c.len.ensures, c.if-n-len.false) in
    let world = c.self.invariant in
    let p = slice_get_read inside.parts.items (length inside.parts.items) n c.index-2.result.now refl below c.index-2.ensures in
    let d = slice_get_read inside.drivers.items (length inside.drivers.items) n c.index.result.now refl (omega (arith, below, world.as_many_drivers)) c.index.ensures in
    let w = slice_get_read inside.workers.items (length inside.workers.items) n c.index_mut.result.now refl (omega (arith, below, world.as_many_workers)) c.index_mut.ensures.value in
    stands_here g.D.Driver.rules g.D.Driver.tells inside.parts.items inside.drivers.items inside.workers.items inside.links.workers world n
    c.index-2.result.now c.index.result.now c.index_mut.result.now p d w

pub invariant_of-self : goal.invariant_of-self
invariant_of-self g c =
    let inside = c.self.inside in
    let n = c.from-n.result in
    let below : n < length inside.parts.items = omega (arith, inside.parts.ok.0, c.len.ensures, c.if-n-len.false) in
    let world = c.self.invariant in
    let p = slice_get_read inside.parts.items (length inside.parts.items) n c.index-2.result.now refl below c.index-2.ensures in
    let d = slice_get_read inside.drivers.items (length inside.drivers.items) n c.index.result.now refl (omega (arith, below, world.as_many_drivers)) c.index.ensures in
    let w = slice_get_read inside.workers.items (length inside.workers.items) n c.index_mut.result.now refl (omega (arith, below, world.as_many_workers)) c.index_mut.ensures.value in
    world_worker g.D.Driver.rules g.D.Driver.tells inside.parts.items inside.drivers.items inside.workers.items inside.links.workers world n
    c.index-2.result.now c.index.result.now c.index_mut.result.now p d w c.claim_slot.new.worker c.claim_slot.ensures.stands

pub returns : goal.returns
returns g c =
    let inside = c.self.inside in
    let n = c.from-n.result in
    let below : n < length inside.parts.items = omega (arith, inside.parts.ok.0, c.len.ensures, c.if-n-len.false) in
    let world = c.self.invariant in
    let p = slice_get_read inside.parts.items (length inside.parts.items) n c.index-2.result.now refl below c.index-2.ensures in
    let d = slice_get_read inside.drivers.items (length inside.drivers.items) n c.index.result.now refl (omega (arith, below, world.as_many_drivers)) c.index.ensures in
    let w = slice_get_read inside.workers.items (length inside.workers.items) n c.index_mut.result.now refl (omega (arith, below, world.as_many_workers)) c.index_mut.ensures.value in
    let seen_so = service_seen g.D.Driver.rules g.D.Driver.tells inside.parts.items inside.drivers.items inside.workers.items inside.links.workers world n
    c.index-2.result.now c.index.result.now c.index_mut.result.now p d w (net.Claims c.args.slot) c.claim_slot.new.worker inside.links.capacity inside.links.links c.claim_slot.result c.claim_slot.ensures.served in
    rw (← c.self.view_is) (subst (λ (k : ℕ). HappensAt g.D.Driver.rules
    (view g.D.Driver.rules g.D.Driver.tells inside.parts.items inside.drivers.items inside.workers.items inside.links.workers world n c.index-2.result.now c.index.result.now c.index_mut.result.now p d w inside.drivers.items inside.workers.items inside.links.capacity inside.links.links)
    (view g.D.Driver.rules g.D.Driver.tells inside.parts.items inside.drivers.items inside.workers.items inside.links.workers world n c.index-2.result.now c.index.result.now c.index_mut.result.now p d w inside.drivers.items (set inside.workers.items n c.claim_slot.new.worker) inside.links.capacity inside.links.links)
    k (IsService (net.Claims c.args.slot)) c.claim_slot.result) c.from-n.ensures seen_so)
