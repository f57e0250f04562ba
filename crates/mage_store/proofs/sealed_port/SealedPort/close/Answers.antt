use Rattle.mage_store.specs.Seals.{digest_of}
use Rattle.mage_store.proofs.SealedEnds.{stands_over}
use Rattle.mage_store.proofs.sealed_port.SealedPort.close.Goals as goal

pub returns-clause-over : goal.returns-clause-over
returns-clause-over g c =
    let inside = c.self.inside in
    rw (← c.self.view_is) (stands_over (g.P.SwapPort.tells inside.port) inside.watches.items (digest_of inside.seals) c.self.invariant)
