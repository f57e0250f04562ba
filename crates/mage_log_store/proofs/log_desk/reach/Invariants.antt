use Rattle.std.proofs.Common.{◌≡◌, ◌≤◌, length}
use Rattle.mage_log_store.specs.LogDesk.{log_at, logs_of}
use Rattle.mage_log_store.proofs.log_desk.reach.Given as goal

abbrev pub invariant-loop : goal.invariant-loop
invariant-loop l = record {
  count : length l.logs.items ≡ l.counter;
  longer : length l.fn.logs.items ≤ length l.logs.items;
  same : log_at (logs_of l.logs.items) ≡ log_at (logs_of l.fn.logs.items);
}
