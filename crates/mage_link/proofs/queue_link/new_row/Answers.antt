use Rattle.mage_link.specs.declared.link.Link.{Link}
use Rattle.mage_link.specs.Rows.{new_link}
use Rattle.mage_link.proofs.RowLemmas.{is_new, one_more}
use Rattle.mage_link.proofs.queue_link.new_row.Goals as goal

pub loop-preserved : goal.loop-preserved
loop-preserved c =
    let made : Link = record { queue = c.in_ok-with_capacity.field-0; received = c.new.result } in
    one_more c.loop.row.items c.push.new.self.items c.loop.counter made (new_link c.args.capacity) c.loop.invariant
    (is_new made c.args.capacity c.in_ok-with_capacity.ensures c.new.ensures) c.in_ok-push.ensures.items
