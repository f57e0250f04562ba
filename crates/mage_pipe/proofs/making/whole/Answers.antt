use Rattle.mage_pipe.proofs.PlanningLemmas.{plan_answer, passed_answer}
use Rattle.mage_pipe.proofs.making.whole.Goals as goal

pub returns-clause-is_plan : goal.returns-clause-is_plan
returns-clause-is_plan c =
    plan_answer (λ planned. planned.program) c.args.limits c.args.program.now c.parts_of.result c.requires.sound (rw c.as_slice.ensures at c.parts_of.ensures.plan) (rw c.as_slice.ensures at c.parts_of.ensures.have)

pub returns-clause-passed : goal.returns-clause-passed
returns-clause-passed c =
    passed_answer (λ planned. planned.program) c.args.limits c.args.program.now c.parts_of.result c.requires.sound (rw c.as_slice.ensures at c.parts_of.ensures.plan) (rw c.as_slice.ensures at c.parts_of.ensures.have)
