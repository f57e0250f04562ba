use Rattle.std.proofs.Common.{Some}
use Rattle.mage_network.proofs.AnsweredReads.{run_is_answered}
use Rattle.mage_network.proofs.Answering.{answered_begin}
use Rattle.mage_steps.specs.Frames.{cleared}
use Rattle.mage_steps.specs.Core.{engine_of, core_at_first, flight_at_first, core_hearing}
use Rattle.mage_steps.proofs.laws.answered_runs_begin_the_answered_joint_run.Goals as goal

pub returns-clause-along : goal.returns-clause-along
returns-clause-along g c plan drivers states answers heard said taken sent are turns n ends =
    answered_begin (Some (cleared g.D.Driver.rules plan.limits.page)) (core_hearing g.D.Driver.rules plan)
    (flight_at_first g.D.Driver.rules plan drivers) states answers heard said taken sent turns are n ends

pub returns-clause-reads : goal.returns-clause-reads
returns-clause-reads g c plan drivers n past worker leads rest =
    run_is_answered (engine_of g.D.Driver.rules plan) n (core_at_first g.D.Driver.rules plan drivers n) past worker leads rest
