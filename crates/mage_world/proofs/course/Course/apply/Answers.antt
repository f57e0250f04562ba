use Rattle.mage_world.proofs.course.Course.apply.Goals as goal

pub returns-in-Do : goal.returns-in-Do
returns-in-Do g c = rw c.in-Do.is c.turn.ensures

pub returns-in-Ask : goal.returns-in-Ask
returns-in-Ask g c = rw c.in-Ask.is c.turn-in-Ask.ensures

pub returns-in-Claim : goal.returns-in-Claim
returns-in-Claim g c = rw c.in-Claim.is c.claim.ensures

pub returns-in-Serve : goal.returns-in-Serve
returns-in-Serve g c = rw c.in-Serve.is c.serve.ensures

pub returns-in-Finish : goal.returns-in-Finish
returns-in-Finish g c = rw c.in-Finish.is c.turn-in-Finish.ensures

pub returns-in-Push : goal.returns-in-Push
returns-in-Push g c = rw c.in-Push.is c.turn-in-Push.ensures

pub returns-in-Pop : goal.returns-in-Pop
returns-in-Pop g c = rw c.in-Pop.is c.turn-in-Pop.ensures
