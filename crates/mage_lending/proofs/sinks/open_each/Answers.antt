use Rattle.std.proofs.Common.{arith}
use Rattle.mage_lending.proofs.Opening.{open_none, open_next}
use Rattle.mage_lending.proofs.sinks.open_each.Goals as goal

pub loop-worker-init : goal.loop-worker-init
loop-worker-init g c = record {
  so_far = open_none g.D.Output.Sink.tells (g.D.Desk.tells c.args.desk.now) c.args.prefix.now c.args.rooms.now c.args.opened.now.names.items c.args.opened.now.sinks.items
      c.requires.no_name c.requires.no_sink;
  names = c.requires.names;
  sinks = c.requires.sinks;
}

pub loop-worker-preserved : goal.loop-worker-preserved
loop-worker-preserved g c =
    let l = c.loop-worker in
    let so = l.invariant in
    record {
      so_far = open_next g.D.Output.Sink.tells (g.D.Desk.tells c.args.desk.now) (g.D.Desk.tells l.desk) (g.D.Desk.tells c.open_out.new.self) c.args.prefix.now c.args.rooms.now
          _ _ _ _ l.worker _ c.in-Ok.name c.as_str.result.now c.in_ok-sink.sink c.loop-worker-test.true so.so_far c.in-Ok.ensures c.as_str.ensures.value c.in_ok-sink.ensures.sink
          c.in_ok-sink.ensures.rest c.push_reserved.ensures.items c.push_reserved-in-loop-worker.ensures.items;
      names = omega (arith, so.names, c.push_reserved.ensures.capacity);
      sinks = omega (arith, so.sinks, c.push_reserved-in-loop-worker.ensures.capacity);
    }
