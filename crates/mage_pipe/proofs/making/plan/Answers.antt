use Rattle.mage_pipe.proofs.Accepted.{accepted_answer}
use Rattle.mage_pipe.proofs.making.plan.Goals as goal

pub returns-clause-accepted : goal.returns-clause-accepted
returns-clause-accepted c =
    accepted_answer c.args.limits c.args.text.now c.in_ok-loaded.loaded c.memory_program.result c.requires.limits c.in_ok-loaded.ensures.loaded
    c.memory_program.ensures.passed
