use Rattle.std.proofs.Common.{map}
use Rattle.mage_link.specs.declared.wire.Wire16.{Wire16}
use Rattle.mage_link.specs.Rows.{rows_of}
use Rattle.mage_link.proofs.RowLemmas.{has_link}
use Rattle.mage_link.proofs.CallLemmas.{lies_first, taken_is, received_is}
use Rattle.mage_link.proofs.queue_link.QueueLinkLinkPort.try_recv.Goals as goal

pub returns-in-Some-clause-receives : goal.returns-in-Some-clause-receives
returns-in-Some-clause-receives c =
    let inside = c.self.inside in
    let can = rw (← c.self.view_is) at c.requires in
    let has = has_link inside.workers inside.capacity (rows_of inside.links) c.args.from c.args.me c.self.invariant can.other_within can.within in
    let taken = c.in-Some.ensures in
    rw (← c.self.view_is) (received_is inside.workers inside.capacity inside.waits (rows_of inside.links) (rows_of c.pop.new.links) c.args.me c.args.from c.in-Some.wire taken.0 has taken.1 taken.2)

pub returns-in-Some-clause-first : goal.returns-in-Some-clause-first
returns-in-Some-clause-first c =
    let inside = c.self.inside in
    let taken = c.in-Some.ensures in
    rw (← c.self.view_is) (
      map (λ (w : Wire16). w.bytes) taken.0,
      lies_first inside.workers inside.capacity inside.waits (rows_of inside.links) (rows_of c.pop.new.links) c.args.me c.args.from c.in-Some.wire taken.0 taken.1,
      taken_is inside.workers inside.capacity inside.waits (rows_of inside.links) (rows_of c.pop.new.links) c.args.me c.args.from c.in-Some.wire taken.0 taken.2,
    )
