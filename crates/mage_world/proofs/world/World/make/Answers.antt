use Rattle.std.proofs.Common.{sym, subst}
use Rattle.mage_world.specs.Worlds.{Seen}
use Rattle.mage_world.specs.Progress.{IsOnItsWay}
use Rattle.mage_world.proofs.Arriving.{begins_its_way}
use Rattle.mage_world.proofs.world.World.make.Goals as goal

pub invariant_of-result : goal.invariant_of-result
invariant_of-result g c =
    subst (λ (world : Seen g.D.Driver.rules.State). IsOnItsWay world) (sym c.in-Ok.ensures.opened)
    (begins_its_way g.D.Driver.rules g.D.Driver.tells c.args.parts.items c.args.drivers.items c.args.capacity c.requires.verified c.requires.drivers c.requires.capacity)
