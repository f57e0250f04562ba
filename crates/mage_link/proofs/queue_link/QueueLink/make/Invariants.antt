use Rattle.std.proofs.Common.{◌≡◌, replicate}
use Rattle.mage_link.specs.Rows.{rows_of, new_link}
use Rattle.mage_link.proofs.queue_link.QueueLink.make.Given as goal

abbrev pub invariant-loop : goal.invariant-loop
invariant-loop l = rows_of l.links ≡ replicate l.counter (replicate l.workers (new_link l.capacity))
