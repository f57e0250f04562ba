use Rattle.mage_verified_runs.specs.Turns.{verified_turns}
use Rattle.mage_verified_runs.proofs.Ending.{verified_ends}
use Rattle.mage_core.proofs.Alike.{answered_ends}
use Rattle.mage_core.proofs.laws.answered_joint_runs_of_verified_programs_end.Goals as goal

pub returns : goal.returns
returns g c plan drivers answers fine none n =
    answered_ends g.D.Driver.rules plan drivers answers (verified_turns plan.workers) n (verified_ends g.D.Driver.rules plan drivers fine none n)
