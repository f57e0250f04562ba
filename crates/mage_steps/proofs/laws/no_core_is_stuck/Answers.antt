use Rattle.mage_steps.proofs.JointRuns.{none_stuck}
use Rattle.mage_steps.proofs.laws.no_core_is_stuck.Goals as goal

pub returns : goal.returns
returns g c plan drivers orderly capacity events turns room ends =
    none_stuck g.D.Driver.rules g.met.D.Driver.lawful plan drivers orderly capacity events turns room ends
