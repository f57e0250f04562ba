use Rattle.std.proofs.Common.{◌≡◌, ◌∙◌, None, sym}
use Rattle.mage_engine.specs.Seen.{course_seen}
use Rattle.mage_engine.proofs.Tallying.{still_counts}
use Rattle.mage_engine.proofs.machine.Machine.advance.Goals as goal

pub invariant_of-self : goal.invariant_of-self
invariant_of-self g c =
    let inside = c.self.inside in
    let old = course_seen g.D.Driver.tells g.P.SwapPort.tells inside.course in
    let new = course_seen g.D.Driver.tells g.P.SwapPort.tells c.step.new.self in
    let none : c.fault.result ≡ None = c.in-None.is in
    still_counts g.D.Driver.rules (g.P.SwapPort.tells inside.first.value) old new (g.L.LinkPort.tells c.args.link.now) (g.L.LinkPort.tells c.step.new.link)
    (sym c.fault.ensures.fault ∙ none) c.step.result (c.fault.ensures.wire none) c.step.ensures.step c.self.invariant
