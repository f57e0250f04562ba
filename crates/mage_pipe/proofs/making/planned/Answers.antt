use Rattle.mage_pipe.proofs.Accepted.{loaded_is_sound, loaded_is_few, planned_accepted, planned_short}
use Rattle.mage_pipe.proofs.making.planned.Goals as goal

pub whole-requires-clause-sound : goal.whole-requires-clause-sound
whole-requires-clause-sound c = loaded_is_sound c.args.limits c.requires.loaded.0 c.args.loaded.now c.requires.loaded.1

pub whole-requires-clause-few : goal.whole-requires-clause-few
whole-requires-clause-few c = loaded_is_few c.args.limits c.requires.loaded.0 c.args.loaded.now c.requires.loaded.1

pub returns-clause-accepted : goal.returns-clause-accepted
returns-clause-accepted c =
    planned_accepted c.args.limits c.requires.loaded.0 c.args.loaded.now c.requires.loaded.1 (λ planned. planned.program) c.whole.result c.requires.limits c.whole.ensures.passed

pub returns-clause-short : goal.returns-clause-short
returns-clause-short c =
    planned_short c.args.limits c.requires.loaded.0 c.args.loaded.now c.requires.loaded.1 (λ planned. planned.program) c.whole.result c.whole.ensures.passed
