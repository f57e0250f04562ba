use Rattle.mage_network.proofs.Answering.{answered_begin}
use Rattle.mage_network.proofs.answers.answered_runs_begin_the_joint_run.Goals as goal

pub returns : goal.returns
returns g c = answered_begin
