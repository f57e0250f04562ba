use Rattle.mage_engine.specs.Seen.{seen}
use Rattle.mage_engine.proofs.Staying.{same_part, still_connects}
use Rattle.mage_engine.proofs.machine.Machine.step.Goals as goal

pub returns-clause-part : goal.returns-clause-part
returns-clause-part g c =
    same_part g.D.Driver.rules (seen g.D.Driver.tells g.P.SwapPort.tells c.args.self.now) (seen g.D.Driver.tells g.P.SwapPort.tells c.advance.new.self)
    (g.L.LinkPort.tells c.args.link.now) (g.L.LinkPort.tells c.advance.new.link) c.advance.result c.advance.ensures.step

pub returns-clause-links : goal.returns-clause-links
returns-clause-links g c =
    still_connects g.D.Driver.rules (seen g.D.Driver.tells g.P.SwapPort.tells c.args.self.now) (seen g.D.Driver.tells g.P.SwapPort.tells c.advance.new.self)
    (g.L.LinkPort.tells c.args.link.now) (g.L.LinkPort.tells c.advance.new.link) c.advance.result c.advance.ensures.step
