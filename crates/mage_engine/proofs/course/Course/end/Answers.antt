use Rattle.std.proofs.Common.{Bool, subst}
use Rattle.mage_bank.specs.Bank.{contents}
use Rattle.mage_engine.specs.Ready.{Stands}
use Rattle.mage_engine.proofs.Views.{seen_of}
use Rattle.mage_engine.proofs.Doing.{finished_move}
use Rattle.mage_engine.proofs.course.Course.end.Goals as goal

pub returns-in-Ok-clause-step : goal.returns-in-Ok-clause-step
returns-in-Ok-clause-step g c =
    let inside = c.self.inside in
    let sound = rw (← c.self.view_is) at c.requires.sound in
    let past = rw (← c.self.view_is) at c.requires.past in
    let rules = g.D.Driver.rules in
    let wb = g.D.Driver.rules.wire_bytes in
    let old = seen_of inside.part (g.D.Driver.tells inside.driver) (g.P.SwapPort.tells inside.port) inside.place inside.wire (contents inside.room.frames.items) inside.fault in
    let stands = subst (λ (b : Bool). Stands wb b old.fault old) c.if-self.false c.self.invariant.0 in
    λ link. rw (← c.self.view_is)
    (finished_move rules wb old sound past stands (g.D.Driver.tells c.finish.new.self) c.in-Ok.ensures link)
