use Rattle.mage_solo.proofs.Agreeing.{joint_agrees}
use Rattle.mage_solo.proofs.laws.joint_runs_of_verified_programs_agree.Goals as goal

pub returns : goal.returns
returns g c plan drivers fine none turns n ends = joint_agrees g.D.Driver.rules plan drivers fine none turns n ends
