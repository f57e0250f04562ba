use Rattle.mage_engine.proofs.Along.{along_first, still_along}
use Rattle.mage_engine.proofs.laws.steps_go_along.Goals as goal

pub returns-clause-starts : goal.returns-clause-starts
returns-clause-starts g c = along_first g.D.Driver.rules

pub returns-clause-moved : goal.returns-clause-moved
returns-clause-moved g c = still_along g.D.Driver.rules
