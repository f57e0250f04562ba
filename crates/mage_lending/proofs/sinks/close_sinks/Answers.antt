use Rattle.std.proofs.Common.{◌≡◌, ◌≤◌, ◌<◌, List, length, refl, sym, ap, ◌∙◌, arith}
use Rattle.mage_lending.proofs.Closing.{closes_none, as_many, closes_so, still_here, this_one, whole_next, quiet_next, closes_end, within_now}
use Rattle.std.proofs.lemmas.List.{length_push}
use Rattle.mage_base.specs.declared.failure.Failed.{Failed}
use Rattle.mage_lending.specs.Names.{spelled}
use Rattle.mage_lending.proofs.sinks.close_sinks.Goals as goal

pub loop-sink-init : goal.loop-sink-init
loop-sink-init g c =
    let rest = c.into_iter-sink-iterator.ensures.into_iter_gives in
    record {
      count = refl;
      whole = rest.0;
      long = rest.1 ∙ c.args.sinks.ok.0 ∙ sym (ap (λ (l : List g.row.D-Output.Denot). length l) rest.0);
      closed = closes_none Failed g.D.Output.Sink.tells (g.D.Desk.tells c.args.desk.now) c.args.names.now tt;
      there = c.requires.there;
      rises = omega arith;
      quiet = λ none. refl;
      steady = λ calm. refl;
      stays = refl;
    }

pub bounds-names-worker : goal.bounds-names-worker
bounds-names-worker g c =
    let l = c.loop-sink in
    let within = within_now c.args.sinks.items l.yielded _ _ c.in-Some.sink l.invariant.whole c.in-Some.ensures.steps.0 in
    omega (arith, within, l.invariant.count, c.requires.count)

pub close_next-closed-requires-after_bounds : goal.close_next-closed-requires-after_bounds
close_next-closed-requires-after_bounds g c κs outlives =
    let l = c.loop-sink in
    let within = within_now c.args.sinks.items l.yielded _ _ c.in-Some.sink l.invariant.whole c.in-Some.ensures.steps.0 in
    still_here (g.D.Desk.tells l.desk).files c.args.names.now l.worker c.index-names-worker.result c.as_str.result.now
    (omega (arith, within, l.invariant.count, c.requires.count)) c.index-names-worker.is c.as_str.ensures.value l.invariant.there

pub loop-sink-preserved : goal.loop-sink-preserved
loop-sink-preserved g c =
    let l = c.loop-sink in
    let so = l.invariant in
    let before = g.D.Desk.tells c.args.desk.now in
    let next = c.in-Some.ensures.steps in
    let longer = ap (λ (l : List g.row.D-Output.Denot). length l) next.0 in
    let within = within_now c.args.sinks.items l.yielded _ _ c.in-Some.sink so.whole next.0 in
    let here : l.worker < length c.args.names.now = omega (arith, within, so.count, c.requires.count) in
    let few : l.worker ≤ length c.args.names.now = omega (arith, here) in
    record {
      count = omega (arith, so.count, length_push l.yielded c.in-Some.sink);
      whole = whole_next c.args.sinks.items l.yielded _ _ c.in-Some.sink so.whole next.0;
      long = omega (arith, longer, next.1, so.long);
      closed = closes_so g.D.Output.Sink.tells before (g.D.Desk.tells c.close_next-closed.new.desk) c.args.names.now l.worker c.index-names-worker.result c.as_str.result.now l.yielded
          c.in-Some.sink c.close_next-closed.result here c.index-names-worker.is c.as_str.ensures.value
          (c.close_next-closed.ensures.closed before _ _ (as_many g.D.Output.Sink.tells c.args.names.now l.yielded l.worker so.count few) so.closed);
      there = c.close_next-closed.ensures.there (spelled c.args.names.now) so.there;
      rises = omega (arith, so.rises, c.close_next-closed.ensures.rises);
      quiet = λ none. quiet_next l.closed c.close_next-closed.result before.faults _ _ (so.quiet none)
          (c.close_next-closed.ensures.quiet (this_one (λ sink. (g.D.Output.Sink.tells sink).faults ≡ 0) c.args.sinks.items l.yielded _ _ c.in-Some.sink so.whole next.0 none));
      steady = λ calm. c.close_next-closed.ensures.steady (so.stays ∙ calm) (so.steady calm);
      stays = c.close_next-closed.ensures.stays ∙ so.stays;
    }

pub returns : goal.returns
returns g c =
    let l = c.loop-sink in
    let none = c.in-None.ensures.steps in
    record {
      closed = closes_end g.D.Output.Sink.tells (g.D.Desk.tells c.args.desk.now) (g.D.Desk.tells l.desk) c.args.names.now l.worker c.args.sinks.items l.yielded _ l.closed
          l.invariant.count c.requires.count l.invariant.whole (omega (arith, none.0, l.invariant.long)) l.invariant.closed;
      rises = l.invariant.rises;
      quiet = l.invariant.quiet;
      steady = l.invariant.steady;
    }
