use Rattle.std.proofs.Common.{◌∙◌}
use Rattle.mage_sched.proofs.Planned.{planned_if, both_if}
use Rattle.mage_sched.proofs.scheduling.plan_of.Goals as goal

pub returns-clause-planned : goal.returns-clause-planned
returns-clause-planned c = λ rule loose.
    both_if _ _ _ (λ plan e n. planned_if c.args.buffer c.args.ahead c.args.list.now c.as_slice.result.now plan.0.items plan.1 (c.as_slice.ensures.value ∙ c.in_ok-directives.ensures) e n rule loose)
    c.homed.result c.homed.ensures.list c.homed.ensures.count
