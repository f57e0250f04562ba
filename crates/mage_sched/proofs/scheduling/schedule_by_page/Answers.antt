use Rattle.std.proofs.lemmas.Result.{IfOk-weaker}
use Rattle.mage_sched.proofs.Planned.{own_if}
use Rattle.mage_sched.proofs.scheduling.schedule_by_page.Goals as goal

pub returns-clause-right : goal.returns-clause-right
returns-clause-right c = λ rule loose.
    IfOk-weaker c.directives_of.result _ _ (λ directives e. own_if c.args.buffer c.args.ahead c.args.list.now directives.items e rule loose) c.directives_of.ensures
