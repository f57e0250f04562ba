use Rattle.mage_planner.proofs.PerformLemmas.{written_said}
use Rattle.mage_planner.proofs.perform.write_and_say.Goals as goal

pub returns-clause-performs : goal.returns-clause-performs
returns-clause-performs g c =
    rw (← c.deref.ensures.value, ← c.deref-2.ensures.value)
    (written_said (record { name = c.args.writing.now.name.now; bytes = c.deref.result.now }) c.deref-2.result.now c.say.result _ _ _
    c.in_ok-write_file.ensures.writes c.say.ensures.performs)
