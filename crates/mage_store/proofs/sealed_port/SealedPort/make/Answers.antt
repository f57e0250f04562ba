use Rattle.std.proofs.Common.{◌∙◌, sym, ap, subst, List}
use Rattle.mage_store.specs.declared.watch.Watch.{Watch}
use Rattle.mage_store.specs.Seals.{digest_of}
use Rattle.mage_store.specs.SealedPort.{sealed_told, IsSealed}
use Rattle.mage_store.proofs.SealedEnds.{sealed_new, told_new}
use Rattle.mage_store.proofs.sealed_port.SealedPort.make.Goals as goal

pub invariant_of-result : goal.invariant_of-result
invariant_of-result g c =
    let below = g.P.SwapPort.tells c.args.port in
    let digests = digest_of c.in-Ok.seals in
    subst (λ (ws : List Watch). IsSealed below ws digests) (sym c.in-Ok.ensures.watches)
    (sealed_new below c.slots.result c.args.pages.now digests c.requires.unused c.requires.taken c.slots.ensures c.in-Ok.ensures.seals)

pub returns-in-Ok-clause-port : goal.returns-in-Ok-clause-port
returns-in-Ok-clause-port g c =
    let below = g.P.SwapPort.tells c.args.port in
    let digests = digest_of c.in-Ok.seals in
    ap (λ (ws : List Watch). sealed_told below ws digests) c.in-Ok.ensures.watches
    ∙ told_new below c.slots.result c.args.pages.now digests c.slots.ensures c.in-Ok.ensures.seals
