use Rattle.std.proofs.Common.{◌∙◌, ap, ℕ, List}
use Rattle.mage_store.specs.Seals.{digest_of, with_digest}
use Rattle.mage_store.proofs.SealedCalls.{can_write_below, sealed_written, told_written}
use Rattle.mage_store.proofs.sealed_port.SealedPortSwapPort.ask_write.Goals as goal

pub ask_write-requires : goal.ask_write-requires
ask_write-requires g c =
    let inside = c.self.inside in
    let can = rw (← c.self.view_is) at c.requires in
    can_write_below (g.P.SwapPort.tells inside.port) inside.watches.items (digest_of inside.seals) c.self.invariant c.args.slot c.args.page c.args.from.now can

pub invariant_of-self : goal.invariant_of-self
invariant_of-self g c =
    let inside = c.self.inside in
    let digests = digest_of inside.seals in
    let can = rw (← c.self.view_is) at c.requires in
    let kept = c.keep.ensures ∙ ap (λ (d : List ℕ). with_digest digests c.args.page d) c.digest.ensures in
    rw c.ask_write.ensures (sealed_written (g.P.SwapPort.tells inside.port) inside.watches.items digests c.self.invariant c.args.slot c.args.page c.args.from.now can (digest_of c.keep.new.self) kept)

pub returns : goal.returns
returns g c =
    let inside = c.self.inside in
    let digests = digest_of inside.seals in
    let can = rw (← c.self.view_is) at c.requires in
    let kept = c.keep.ensures ∙ ap (λ (d : List ℕ). with_digest digests c.args.page d) c.digest.ensures in
    rw (← c.self.view_is, c.ask_write.ensures) (told_written (g.P.SwapPort.tells inside.port) inside.watches.items digests c.self.invariant c.args.slot c.args.page c.args.from.now can (digest_of c.keep.new.self) kept)
