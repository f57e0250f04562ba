use Rattle.std.proofs.Common.{subst}
use Rattle.mage_world.specs.Ready.{Readies}
use Rattle.mage_world.proofs.Finding.{world_of}
use Rattle.mage_world.proofs.course.Course.ready.Goals as goal

pub returns : goal.returns
returns g c =
    let rules = g.D.Driver.rules in
    let tells = g.D.Driver.tells in
    let inside = c.self.inside in
    let result = c.first_ready.result in
    rw (← c.self.view_is) (subst (λ ds. Readies rules (world_of rules tells inside.parts.items ds inside.workers.items inside.links) result) c.as_slice.ensures.value
    (subst (λ ps. Readies rules (world_of rules tells ps c.as_slice.result.now inside.workers.items inside.links) result) c.as_slice-2.ensures.value
    (subst (λ ws. Readies rules (world_of rules tells c.as_slice-2.result.now c.as_slice.result.now ws inside.links) result) c.as_slice-3.ensures.value c.first_ready.ensures)))
