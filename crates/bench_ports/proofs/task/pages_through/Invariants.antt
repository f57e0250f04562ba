use Rattle.std.proofs.Common.{◌≡◌, length}
use Rattle.mage_store_tests.specs.Rest.{IsReady}
use Rattle.bench_ports.proofs.task.pages_through.Given as goal

abbrev pub invariant-loop-turn : goal.invariant-loop-turn
invariant-loop-turn g l = record {
  ready : IsReady (g.P.SwapPort.tells l.port) l.fn.task.bytes;
  whole : length l.from.items ≡ l.fn.task.bytes;
  room : length l.into.items ≡ l.fn.task.bytes;
}
