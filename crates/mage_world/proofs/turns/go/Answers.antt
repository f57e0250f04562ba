use Rattle.mage_link.specs.Queues.{lies_in}
use Rattle.mage_world.proofs.turns.go.Goals as goal

pub returns-in-Some-Fresh-clause-turn : goal.returns-in-Some-Fresh-clause-turn
returns-in-Some-Fresh-clause-turn g c = c.fresh.ensures.turn c.args.links.now.capacity (lies_in c.args.links.now)

pub returns-in-Some-IssueIn-clause-turn : goal.returns-in-Some-IssueIn-clause-turn
returns-in-Some-IssueIn-clause-turn g c = c.ask_read.ensures.turn c.args.links.now.capacity (lies_in c.args.links.now)

pub returns-in-Some-FinishIn-clause-turn : goal.returns-in-Some-FinishIn-clause-turn
returns-in-Some-FinishIn-clause-turn g c = c.finish_read.ensures.turn c.args.links.now.capacity (lies_in c.args.links.now)

pub returns-in-Some-IssueOut-clause-turn : goal.returns-in-Some-IssueOut-clause-turn
returns-in-Some-IssueOut-clause-turn g c = c.ask_write.ensures.turn c.args.links.now.capacity (lies_in c.args.links.now)

pub returns-in-Some-FinishOut-clause-turn : goal.returns-in-Some-FinishOut-clause-turn
returns-in-Some-FinishOut-clause-turn g c = c.finish_write.ensures.turn c.args.links.now.capacity (lies_in c.args.links.now)

pub returns-in-None-clause-turn : goal.returns-in-None-clause-turn
returns-in-None-clause-turn g c = c.end.ensures.turn c.args.links.now.capacity (lies_in c.args.links.now)
