use Rattle.mage_network.proofs.Answering.{heard_start, heard_moved, heard_sends, heard_takes, heard_hears}
use Rattle.mage_network.proofs.answers.answers_go_along.Goals as goal

pub returns-clause-starts : goal.returns-clause-starts
returns-clause-starts g c = heard_start

pub returns-clause-moved : goal.returns-clause-moved
returns-clause-moved g c = heard_moved

pub returns-clause-sends : goal.returns-clause-sends
returns-clause-sends g c = heard_sends

pub returns-clause-takes : goal.returns-clause-takes
returns-clause-takes g c = heard_takes

pub returns-clause-hears : goal.returns-clause-hears
returns-clause-hears g c = heard_hears
