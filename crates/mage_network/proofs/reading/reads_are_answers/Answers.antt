use Rattle.mage_network.proofs.AnsweredReads.{run_is_answered, joint_is_answered}
use Rattle.mage_network.proofs.reading.reads_are_answers.Goals as goal

pub returns-clause-along : goal.returns-clause-along
returns-clause-along g c = run_is_answered

pub returns-clause-together : goal.returns-clause-together
returns-clause-together g c = joint_is_answered
