use Rattle.mage_world.specs.Worlds.{seen, worker_in, what_in}
use Rattle.mage_world.proofs.Arriving.{stays_on_its_way}
use Rattle.mage_world.proofs.world.World.apply.Goals as goal

pub invariant_of-self : goal.invariant_of-self
invariant_of-self g c =
    let rules = g.D.Driver.rules in
    let tells = g.D.Driver.tells in
    stays_on_its_way rules (seen rules tells c.self.inside.course) (seen rules tells c.apply.new.self) (worker_in c.args.event) (what_in c.args.event)
    c.apply.result c.self.invariant c.apply.ensures
