use Rattle.mage_steps.proofs.JointRuns.{events_begin_joint, none_stuck}
use Rattle.mage_verified_runs.specs.Turns.{verified_turns}
use Rattle.mage_verified_runs.proofs.Orderliness.{verified_is_orderly}
use Rattle.mage_verified_runs.proofs.Ending.{verified_ends}
use Rattle.mage_verified_runs.proofs.laws.verified_programs_run_as_together.Goals as goal

pub returns-clause-begins : goal.returns-clause-begins
returns-clause-begins g c plan drivers fine none capacity events n =
    events_begin_joint g.D.Driver.rules g.met.D.Driver.lawful plan drivers (verified_is_orderly plan none) capacity events
    (verified_turns plan.workers) n (verified_ends g.D.Driver.rules plan drivers fine none n)

pub returns-clause-unstuck : goal.returns-clause-unstuck
returns-clause-unstuck g c plan drivers fine none capacity events room =
    none_stuck g.D.Driver.rules g.met.D.Driver.lawful plan drivers (verified_is_orderly plan none) capacity events
    (verified_turns plan.workers) room (verified_ends g.D.Driver.rules plan drivers fine none)
