use Rattle.std.proofs.Common.{Bool, Result, refl, sym, subst, set}
use Rattle.mage_core.specs.declared.fault.RunFault.{RunFault}
use Rattle.mage_core.specs.Turns.{sights, StepsTo}
use Rattle.mage_core.proofs.Stepping.{at_place, connect_at, step_so}
use Rattle.mage_core.proofs.turns.step.Goals as goal

pub step-requires-after_bounds : goal.step-requires-after_bounds
step-requires-after_bounds g c κs within =
    connect_at g.D.Driver.rules g.D.Driver.tells g.S.Store.tells c.args.machines.now.items c.args.worker c.index_mut.result.now c.args.link.now
    (at_place c.args.machines.now.items c.args.worker c.index_mut.result.now c.requires.within c.index_mut.ensures.value) c.requires.connect

pub returns-clause-steps : goal.returns-clause-steps
returns-clause-steps g c =
    subst (λ (r : Result Bool RunFault). StepsTo g.D.Driver.rules (sights g.D.Driver.tells g.S.Store.tells c.args.machines.now.items)
    (sights g.D.Driver.tells g.S.Store.tells (set c.args.machines.now.items c.args.worker c.step.new.self)) c.args.link.now c.step.new.link c.args.worker r)
    (sym c.moved.ensures)
    (step_so g.D.Driver.rules g.D.Driver.tells g.S.Store.tells c.args.machines.now.items (set c.args.machines.now.items c.args.worker c.step.new.self) c.args.worker
    c.index_mut.result.now c.step.new.self c.args.link.now c.step.new.link
    (at_place c.args.machines.now.items c.args.worker c.index_mut.result.now c.requires.within c.index_mut.ensures.value) refl
    c.step.result c.step.ensures.step c.step.ensures.ended c.step.ensures.links)
