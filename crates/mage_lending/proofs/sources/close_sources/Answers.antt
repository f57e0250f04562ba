use Rattle.std.proofs.Common.{List, length, map, sym, ap, ◌∙◌, arith}
use Rattle.mage_lending.proofs.Reading.{after_sources, sources_begin, sources_next, sources_end, quiet_begin, quiet_next}
use Rattle.mage_lending.proofs.sources.close_sources.Goals as goal

pub loop-source-init : goal.loop-source-init
loop-source-init g c =
    let rest = c.into_iter-source-iterator.ensures.into_iter_gives in
    let long = ap (λ (l : List g.row.D-Input.Denot). length l) rest.0 in
    record {
      few = omega (arith, long, c.requires);
      long = rest.1 ∙ c.args.sources.ok.0 ∙ sym long;
      leads = sources_begin g.D.Input.Source.tells (g.D.Desk.tells c.args.desk.now) c.args.sources.items _ rest.0;
      rises = omega arith;
      quiet = quiet_begin g.D.Input.Source.tells c.args.sources.items _ (g.D.Desk.tells c.args.desk.now).faults rest.0;
    }

pub loop-source-preserved : goal.loop-source-preserved
loop-source-preserved g c =
    let l = c.loop-source in
    let next = c.in-Some.ensures.steps in
    let longer = ap (λ (l : List g.row.D-Input.Denot). length l) next.0 in
    record {
      few = omega (arith, longer, l.invariant.few);
      long = omega (arith, longer, next.1, l.invariant.long);
      leads = sources_next g.D.Input.Source.tells (g.D.Desk.tells l.desk) (g.D.Desk.tells c.close_in.new.self) _ _ _ c.in-Some.source next.0 c.close_in.ensures.counted l.invariant.leads;
      rises = omega (arith, l.invariant.rises, c.close_in.ensures.rises);
      quiet = λ none. quiet_next g.D.Input.Source.tells _ _ c.in-Some.source (g.D.Desk.tells c.args.desk.now).faults (g.D.Desk.tells l.desk).faults (g.D.Desk.tells c.close_in.new.self).faults
          next.0 c.close_in.ensures.quiet (l.invariant.quiet none);
    }

pub returns : goal.returns
returns g c =
    let l = c.loop-source in
    let none = c.in-None.ensures.steps in
    record {
      counted = sources_end g.D.Input.Source.tells (g.D.Desk.tells l.desk)
          (after_sources (g.D.Desk.tells c.args.desk.now) (map g.D.Input.Source.tells c.args.sources.items)) l.source-iterator.rest.items (omega (arith, none.0, l.invariant.long)) l.invariant.leads;
      rises = l.invariant.rises;
      quiet = λ all. (l.invariant.quiet all).1;
    }
