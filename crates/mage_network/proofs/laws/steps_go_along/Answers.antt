use Rattle.mage_network.proofs.Steps.{along_start, along_moved, along_sends, along_takes}
use Rattle.mage_network.proofs.laws.steps_go_along.Goals as goal

pub returns-clause-starts : goal.returns-clause-starts
returns-clause-starts g c = along_start

pub returns-clause-moved : goal.returns-clause-moved
returns-clause-moved g c = along_moved

pub returns-clause-sends : goal.returns-clause-sends
returns-clause-sends g c = along_sends

pub returns-clause-takes : goal.returns-clause-takes
returns-clause-takes g c = along_takes
