use Rattle.std.proofs.Common.{◌∙◌, ap, refl, Err}
use Rattle.mage_sched.specs.Schedule.{buffer_tight}
use Rattle.mage_schedulable.specs.Planning.{directives_of}
use Rattle.mage_pipe.proofs.Judging.{schedule_made}
use Rattle.mage_pipe.proofs.part.scheduled.Goals as goal

pub returns-in-Ok : goal.returns-in-Ok
returns-in-Ok c =
    let homed = directives_of c.args.limits c.args.list.now in
    schedule_made c.schedule.result c.in-Ok.part (buffer_tight c.args.limits.buffer c.args.list.now) homed c.in-Ok.part.0.items c.in-Ok.part.1 c.in-Ok.is c.schedule.ensures.tight c.in-Ok.ensures.list c.in-Ok.ensures.count

pub returns-in-Err-Tight : goal.returns-in-Err-Tight
returns-in-Err-Tight c =
    let some = (c.schedule.ensures.tight c.in-Err-Tight.tight).0 (c.in-Err-Tight.is ∙ ap Err c.in-Err-Tight.field-0-is) in
    rw some refl
