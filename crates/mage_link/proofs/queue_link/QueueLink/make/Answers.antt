use Rattle.std.proofs.Common.{rules, ◌≡◌, sym, subst}
use Rattle.mage_link.specs.Links.{IsUnused}
use Rattle.mage_link.specs.Queues.{QueueState, queue_told}
use Rattle.mage_link.specs.Rows.{rows_of}
use Rattle.mage_link.proofs.QueueLemmas.{new_is_unused}
use Rattle.mage_link.proofs.RowLemmas.{queues-new}
use Rattle.mage_link.proofs.queue_link.QueueLink.make.Goals as goal

pub returns-clause-queues : goal.returns-clause-queues
returns-clause-queues c =
    let all : c.loop.counter ≡ c.args.workers = search rules in
    queues-new c.args.workers c.args.capacity c.loop.counter (rows_of c.loop.links) c.loop.invariant all

pub returns-clause-unused : goal.returns-clause-unused
returns-clause-unused c =
    let all : c.loop.counter ≡ c.args.workers = search rules in
    subst (λ (queues : QueueState). IsUnused (queue_told queues))
    (sym (queues-new c.args.workers c.args.capacity c.loop.counter (rows_of c.loop.links) c.loop.invariant all))
    (new_is_unused c.args.workers c.args.capacity)
