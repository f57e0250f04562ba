use Rattle.std.proofs.Common.{subst}
use Rattle.mage_world.specs.Worlds.{seen}
use Rattle.mage_world.specs.Ready.{Readies}
use Rattle.mage_world.proofs.AtRest.{rests_at_the_end}
use Rattle.mage_world.proofs.world.World.ready.Goals as goal

pub returns-clause-ended : goal.returns-clause-ended
returns-clause-ended g c =
    let rules = g.D.Driver.rules in
    let world = seen rules g.D.Driver.tells c.self.inside.course in
    λ none. rw (← c.self.view_is) (rests_at_the_end rules world c.self.invariant (subst (λ found. Readies rules world found) none c.ready.ensures))
