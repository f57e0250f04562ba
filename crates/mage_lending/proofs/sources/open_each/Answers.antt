use Rattle.std.proofs.Common.{◌∙◌, arith}
use Rattle.mage_lending.proofs.Reading.{reads_none, reads_next, steady_so}
use Rattle.std.proofs.lemmas.Result.{err_from_is_err_and}
use Rattle.mage_lending.proofs.sources.open_each.Goals as goal

pub loop-worker-init : goal.loop-worker-init
loop-worker-init g c = record {
  so_far = reads_none g.D.Input.Source.tells (g.D.Desk.tells c.args.desk.now) c.args.prefix.now c.args.opened.now.names.items c.args.opened.now.sources.items
      c.requires.no_name c.requires.no_source;
  names = c.requires.names;
  sources = c.requires.sources;
}

pub loop-worker-preserved : goal.loop-worker-preserved
loop-worker-preserved g c =
    let l = c.loop-worker in
    let so = l.invariant in
    record {
      so_far = reads_next g.D.Input.Source.tells (g.D.Desk.tells c.args.desk.now) (g.D.Desk.tells l.desk) (g.D.Desk.tells c.open_in.new.self) c.args.prefix.now
          _ _ _ _ l.worker c.in-Ok.name c.as_str.result.now c.in_ok-source.source so.so_far c.in-Ok.ensures c.as_str.ensures.value c.in_ok-source.ensures.source
          c.in_ok-source.ensures.rest c.in_ok-source.ensures.cause c.push_reserved.ensures.items c.push_reserved-in-loop-worker.ensures.items;
      names = omega (arith, so.names, c.push_reserved.ensures.capacity);
      sources = omega (arith, so.sources, c.push_reserved-in-loop-worker.ensures.capacity);
    }

pub returns-in_err-source-clause-steady : goal.returns-in_err-source-clause-steady
returns-in_err-source-clause-steady g c =
    let l = c.loop-worker in
    let p = err_from_is_err_and c.from_residual.result c.from_residual.ensures.1 in
    rw (p.1, p.2) (steady_so g.row.D-Input.Denot (Unit {0}) (g.D.Desk.tells c.args.desk.now) (g.D.Desk.tells l.desk) c.args.prefix.now c.args.workers l.worker c.as_str.result.now
    c.in_err-source.field-0.0 c.loop-worker-test.true l.invariant.so_far.rest (c.as_str.ensures.value ∙ c.in-Ok.ensures) c.in_err-source.ensures.steady)
