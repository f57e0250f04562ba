use Rattle.mage_network.proofs.Steps.{along_begins}
use Rattle.mage_steps.specs.Core.{core_act, core_at_first}
use Rattle.mage_steps.proofs.Through.{own_run_through}
use Rattle.mage_steps.proofs.laws.own_runs_begin_the_joint_run.Goals as goal

pub returns-clause-through : goal.returns-clause-through
returns-clause-through g c plan drivers orderly n past worker leads stops =
    own_run_through g.D.Driver.rules plan drivers orderly n past worker leads stops

pub returns-clause-along : goal.returns-clause-along
returns-clause-along g c plan drivers states said taken sent are turns n ends =
    along_begins (core_act g.D.Driver.rules plan) (core_at_first g.D.Driver.rules plan drivers) states said taken sent turns are n ends
