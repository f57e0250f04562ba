use Rattle.mage_verified_runs.proofs.Ending.{verified_ends}
use Rattle.mage_verified_runs.proofs.laws.joint_runs_of_verified_programs_end.Goals as goal

pub returns : goal.returns
returns g c plan drivers fine none n = verified_ends g.D.Driver.rules plan drivers fine none n
