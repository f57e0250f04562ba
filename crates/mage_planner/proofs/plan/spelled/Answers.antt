use Rattle.mage_planner.proofs.ProgramLemmas.{short_enough}
use Rattle.mage_planner.proofs.plan.spelled.Goals as goal

pub write-requires-clause-short : goal.write-requires-clause-short
write-requires-clause-short c = short_enough c.args.program.now c.requires.accepted c.requires.short
