use Rattle.std.proofs.Common.{◌≡◌, replicate}
use Rattle.mage_link.specs.Rows.{new_link}
use Rattle.mage_link.proofs.queue_link.new_row.Given as goal

abbrev pub invariant-loop : goal.invariant-loop
invariant-loop l = l.row.items ≡ replicate l.counter (new_link l.capacity)
