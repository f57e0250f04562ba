use Rattle.mage_engine.proofs.course.Course.go.Goals as goal

pub returns-in-Fresh : goal.returns-in-Fresh
returns-in-Fresh g c = c.fresh.ensures (g.L.LinkPort.tells c.args.link.now)

pub returns-in-IssueIn : goal.returns-in-IssueIn
returns-in-IssueIn g c = c.issue_in.ensures (g.L.LinkPort.tells c.args.link.now)

pub returns-in-FinishIn : goal.returns-in-FinishIn
returns-in-FinishIn g c = c.finish_in.ensures (g.L.LinkPort.tells c.args.link.now)

pub returns-in-IssueOut : goal.returns-in-IssueOut
returns-in-IssueOut g c = c.issue_out.ensures (g.L.LinkPort.tells c.args.link.now)

pub returns-in-FinishOut : goal.returns-in-FinishOut
returns-in-FinishOut g c = c.finish_out.ensures (g.L.LinkPort.tells c.args.link.now)
