use Rattle.std.proofs.Common.{◌∙◌, sym}
use Rattle.mage_store_tests.proofs.RestLemmas.{ready_again}
use Rattle.bench_ports.proofs.task.pages_through.Goals as goal

pub loop-turn-preserved : goal.loop-turn-preserved
loop-turn-preserved g c =
    let before = c.loop-turn.invariant in
    record {
      ready = ready_again (g.P.SwapPort.tells c.loop-turn.port) (g.P.SwapPort.tells c.written_and_read.new.port) c.args.task.bytes before.ready c.in-Back.ensures.rest;
      whole = c.written_and_read.ensures.whole ∙ before.ready.long;
      room = c.written_and_read.ensures.room ∙ before.ready.long;
    }
