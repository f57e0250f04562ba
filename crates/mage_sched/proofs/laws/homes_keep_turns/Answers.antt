use Rattle.mage_sched.proofs.Planned.{homes_keep_turns}
use Rattle.mage_sched.proofs.laws.homes_keep_turns.Goals as goal

pub returns : goal.returns
returns c = homes_keep_turns
