use Rattle.std.proofs.Common.{sym, subst}
use Rattle.mage_engine.specs.Seen.{Seen}
use Rattle.mage_engine.specs.Tally.{Counts}
use Rattle.mage_engine.proofs.Tallying.{not_begun}
use Rattle.mage_engine.proofs.machine.Machine.make.Goals as goal

pub invariant_of-result : goal.invariant_of-result
invariant_of-result g c =
    let port = g.P.SwapPort.tells c.args.port in
    rw c.of-first.ensures (subst (λ (m : Seen g.D.Driver.rules.State). Counts m.fault port m) (sym c.in-Ok.ensures.opened) (not_begun port))
