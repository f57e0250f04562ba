use Rattle.mage_engine.proofs.course.Course.instruct.Goals as goal

pub returns-in_default : goal.returns-in_default
returns-in_default g c = c.compute.ensures (g.L.LinkPort.tells c.args.link.now)
