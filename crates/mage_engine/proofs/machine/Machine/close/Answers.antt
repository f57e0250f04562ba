use Rattle.mage_engine.specs.Seen.{course_seen}
use Rattle.mage_engine.proofs.Tallying.{counts_at_end, counts_of_all}
use Rattle.mage_engine.proofs.machine.Machine.close.Goals as goal

pub returns-clause-counts : goal.returns-clause-counts
returns-clause-counts g c =
    let inside = c.self.inside in
    let first = g.P.SwapPort.tells inside.first.value in
    let at = course_seen g.D.Driver.tells g.P.SwapPort.tells inside.course in
    rw (← c.self.view_is, c.close.ensures.port) (counts_at_end first at inside.course.fault c.self.invariant)

pub returns-clause-all : goal.returns-clause-all
returns-clause-all g c =
    let inside = c.self.inside in
    let first = g.P.SwapPort.tells inside.first.value in
    let at = course_seen g.D.Driver.tells g.P.SwapPort.tells inside.course in
    rw (← c.self.view_is, c.close.ensures.port) (counts_of_all first at inside.course.fault c.self.invariant)
