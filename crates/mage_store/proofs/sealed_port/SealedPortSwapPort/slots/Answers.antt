use Rattle.std.proofs.Common.{◌∙◌, sym}
use Rattle.mage_store.proofs.SealedLemmas.{all_watched-length}
use Rattle.mage_store.proofs.sealed_port.SealedPortSwapPort.slots.Goals as goal

pub returns : goal.returns
returns g c =
    let inside = c.self.inside in
    rw (← c.self.view_is) (c.slots.ensures ∙ sym (all_watched-length inside.watches.items (g.P.SwapPort.tells inside.port).slots))
