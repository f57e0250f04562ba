use Rattle.std.proofs.Common.{length}
use Rattle.mage_network.specs.Workers.{fresh}
use Rattle.mage_steps.specs.Core.{core_act, core_at_first}
use Rattle.mage_steps.proofs.JointRuns.{lowest_is_joint}
use Rattle.mage_steps.proofs.laws.lowest_first_is_a_joint_run.Goals as goal

pub returns : goal.returns
returns g c plan drivers turns =
    lowest_is_joint (core_act g.D.Driver.rules plan) (length plan.workers) turns
    (λ worker. fresh (core_at_first g.D.Driver.rules plan drivers worker))
