use Rattle.mage_engine.proofs.course.Course.step.Goals as goal

pub returns-in-None-clause-step : goal.returns-in-None-clause-step
returns-in-None-clause-step g c = c.end.ensures.step (g.L.LinkPort.tells c.args.link.now)
