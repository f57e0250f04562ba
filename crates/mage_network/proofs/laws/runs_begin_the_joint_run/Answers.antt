use Rattle.mage_network.proofs.Meeting.{runs_comparable, runs_begin, schedules_begin, orders_same}
use Rattle.mage_network.proofs.Steps.{along_begins}
use Rattle.mage_network.proofs.laws.runs_begin_the_joint_run.Goals as goal

pub returns-clause-comparable : goal.returns-clause-comparable
returns-clause-comparable g c = runs_comparable

pub returns-clause-apart : goal.returns-clause-apart
returns-clause-apart g c = runs_begin

pub returns-clause-along : goal.returns-clause-along
returns-clause-along g c = along_begins

pub returns-clause-schedules : goal.returns-clause-schedules
returns-clause-schedules g c = schedules_begin

pub returns-clause-orders : goal.returns-clause-orders
returns-clause-orders g c = orders_same
