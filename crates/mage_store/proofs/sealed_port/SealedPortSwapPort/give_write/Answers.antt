use Rattle.std.proofs.Common.{◌∙◌, ap, ℕ, List}
use Rattle.sha2.specs.Sha256.{sha256}
use Rattle.mage_store.specs.Seals.{digest_of, with_digest}
use Rattle.mage_store.proofs.SealedCalls.{can_write_below, sealed_written, told_written}
use Rattle.mage_store.proofs.sealed_port.SealedPortSwapPort.give_write.Goals as goal

pub give_write-requires : goal.give_write-requires
give_write-requires g c =
    let inside = c.self.inside in
    let can = rw (← c.self.view_is) at c.requires in
    can_write_below (g.P.SwapPort.tells inside.port) inside.watches.items (digest_of inside.seals) c.self.invariant c.args.slot c.args.page c.args.from.now.items can

pub invariant_of-self : goal.invariant_of-self
invariant_of-self g c =
    let inside = c.self.inside in
    let digests = digest_of inside.seals in
    let can = rw (← c.self.view_is) at c.requires in
    let kept = c.keep.ensures ∙ ap (λ (d : List ℕ). with_digest digests c.args.page d) (c.digest.ensures ∙ ap sha256 c.as_slice.ensures.value) in
    rw c.give_write.ensures.asked (sealed_written (g.P.SwapPort.tells inside.port) inside.watches.items digests c.self.invariant c.args.slot c.args.page c.args.from.now.items can (digest_of c.keep.new.self) kept)

pub returns-clause-asked : goal.returns-clause-asked
returns-clause-asked g c =
    let inside = c.self.inside in
    let digests = digest_of inside.seals in
    let can = rw (← c.self.view_is) at c.requires in
    let kept = c.keep.ensures ∙ ap (λ (d : List ℕ). with_digest digests c.args.page d) (c.digest.ensures ∙ ap sha256 c.as_slice.ensures.value) in
    rw (← c.self.view_is, c.give_write.ensures.asked) (told_written (g.P.SwapPort.tells inside.port) inside.watches.items digests c.self.invariant c.args.slot c.args.page c.args.from.now.items can (digest_of c.keep.new.self) kept)
