use Rattle.mage_steps.proofs.JointRuns.{events_begin_joint}
use Rattle.mage_steps.proofs.laws.every_event_list_begins_the_joint_run.Goals as goal

pub returns : goal.returns
returns g c plan drivers orderly capacity events turns n ends =
    events_begin_joint g.D.Driver.rules g.met.D.Driver.lawful plan drivers orderly capacity events turns n ends
