use Rattle.mage_bank.specs.Bank.{contents}
use Rattle.mage_engine.proofs.Views.{seen_of}
use Rattle.mage_engine.proofs.Advancing.{ready_of, ended_sound}
use Rattle.mage_engine.proofs.course.Course.fault.Goals as goal

pub returns-clause-wire : goal.returns-clause-wire
returns-clause-wire g c none =
    let inside = c.self.inside in
    let old = seen_of inside.part (g.D.Driver.tells inside.driver) (g.P.SwapPort.tells inside.port) inside.place inside.wire (contents inside.room.frames.items) inside.fault in
    rw (← c.self.view_is) (ready_of g.D.Driver.rules.wire_bytes inside.finished inside.fault old none c.self.invariant.0).wire

pub returns-clause-ended : goal.returns-clause-ended
returns-clause-ended g c =
    let inside = c.self.inside in
    let old = seen_of inside.part (g.D.Driver.tells inside.driver) (g.P.SwapPort.tells inside.port) inside.place inside.wire (contents inside.room.frames.items) inside.fault in
    rw (← c.self.view_is) (ended_sound g.D.Driver.rules.wire_bytes inside.finished inside.fault old c.self.invariant.0)
