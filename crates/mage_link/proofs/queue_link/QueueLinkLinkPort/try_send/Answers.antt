use Rattle.mage_link.specs.Rows.{rows_of}
use Rattle.mage_link.proofs.RowLemmas.{has_link}
use Rattle.mage_link.proofs.CallLemmas.{appended_is, sent_is}
use Rattle.mage_link.proofs.queue_link.QueueLinkLinkPort.try_send.Goals as goal

pub returns-in-Ok-clause-sends : goal.returns-in-Ok-clause-sends
returns-in-Ok-clause-sends c =
    let inside = c.self.inside in
    let can = rw (← c.self.view_is) at c.requires in
    let has = has_link inside.workers inside.capacity (rows_of inside.links) c.args.me c.args.to c.self.invariant can.within can.other_within in
    rw (← c.self.view_is) (sent_is inside.workers inside.capacity inside.waits (rows_of inside.links) (rows_of c.push.new.links) c.args.me c.args.to c.args.wire has c.in-Ok.ensures.pushed)

pub returns-in-Ok-clause-appends : goal.returns-in-Ok-clause-appends
returns-in-Ok-clause-appends c =
    let inside = c.self.inside in
    rw (← c.self.view_is) (appended_is inside.workers inside.capacity inside.waits (rows_of inside.links) (rows_of c.push.new.links) c.args.me c.args.to c.args.wire c.in-Ok.ensures.pushed)
