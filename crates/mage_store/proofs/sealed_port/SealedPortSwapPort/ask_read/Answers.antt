use Rattle.std.proofs.Common.{ap, refl, arith}
use Rattle.mage_store.specs.declared.watch.Watch.{Watch}
use Rattle.mage_store.specs.Seals.{digest_of}
use Rattle.mage_store.proofs.SealedCalls.{can_read_below, watched_within, read_watch, sealed_asked_read, told_asked_read}
use Rattle.mage_store.proofs.sealed_port.SealedPortSwapPort.ask_read.Goals as goal

pub ask_read-requires : goal.ask_read-requires
ask_read-requires g c =
    let inside = c.self.inside in
    let can = rw (← c.self.view_is) at c.requires in
    can_read_below (g.P.SwapPort.tells inside.port) inside.watches.items (digest_of inside.seals) c.self.invariant c.args.slot c.args.page can

pub index_mut-requires : goal.index_mut-requires
index_mut-requires g c =
    let inside = c.self.inside in
    let can = rw (← c.self.view_is) at c.requires in
    let within = watched_within (g.P.SwapPort.tells inside.port) inside.watches.items (digest_of inside.seals) c.self.invariant c.args.slot can.can_ask.within in
    omega (arith, inside.watches.ok.0)

pub invariant_of-self : goal.invariant_of-self
invariant_of-self g c =
    let inside = c.self.inside in
    let below = g.P.SwapPort.tells inside.port in
    let can = rw (← c.self.view_is) at c.requires in
    let within = watched_within below inside.watches.items (digest_of inside.seals) c.self.invariant c.args.slot can.can_ask.within in
    let was = read_watch inside.watches.items c.args.slot c.index_mut.result.now c.index_mut.ensures.value within in
    let watch : Watch = record { page = c.args.page; damage = c.index_mut.result.now.damage } in
    rw c.ask_read.ensures (sealed_asked_read below inside.watches.items (digest_of inside.seals) c.self.invariant c.args.slot c.args.page watch can refl (ap (λ (w : Watch). w.damage) was))

pub returns : goal.returns
returns g c =
    let inside = c.self.inside in
    let below = g.P.SwapPort.tells inside.port in
    let can = rw (← c.self.view_is) at c.requires in
    let within = watched_within below inside.watches.items (digest_of inside.seals) c.self.invariant c.args.slot can.can_ask.within in
    let was = read_watch inside.watches.items c.args.slot c.index_mut.result.now c.index_mut.ensures.value within in
    let watch : Watch = record { page = c.args.page; damage = c.index_mut.result.now.damage } in
    rw (← c.self.view_is, c.ask_read.ensures) (told_asked_read below inside.watches.items (digest_of inside.seals) c.self.invariant c.args.slot c.args.page watch can refl (ap (λ (w : Watch). w.damage) was))
