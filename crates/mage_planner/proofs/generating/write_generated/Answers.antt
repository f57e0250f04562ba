use Rattle.std.proofs.lemmas.Result.{err_from_is_err_and}
use Rattle.mage_planner.proofs.GeneratingLemmas.{source_stops, garbler_stops, evaluator_ends}
use Rattle.mage_planner.proofs.generating.write_generated.Goals as goal

pub returns-in_err-write_ending-clause-writes : goal.returns-in_err-write_ending-clause-writes
returns-in_err-write_ending-clause-writes g c =
    let p = err_from_is_err_and c.from_residual.result c.from_residual.ensures.1 in
    let made = c.args.generating.now.made in
    let before = g.D.Desk.tells c.args.desk.now in
    let after = g.D.Desk.tells c.write_ending.new.desk in
    rw (p.1, p.2) (source_stops c.args.generating.now.out.now made.text.items c.deref.result.now made.garbler.items made.garbler.items made.evaluator.items made.evaluator.items
    before before before after c.deref.ensures.value c.in_err-write_ending.field-0.0 c.in_err-write_ending.ensures.writes)

pub returns-in_err-write_ending-2-clause-writes : goal.returns-in_err-write_ending-2-clause-writes
returns-in_err-write_ending-2-clause-writes g c =
    let p = err_from_is_err_and c.from_residual-in_err-write_ending-2.result c.from_residual-in_err-write_ending-2.ensures.1 in
    let made = c.args.generating.now.made in
    let before = g.D.Desk.tells c.args.desk.now in
    let mid = g.D.Desk.tells c.write_ending.new.desk in
    let after = g.D.Desk.tells c.write_ending-2.new.desk in
    rw (p.1, p.2) (garbler_stops c.args.generating.now.out.now made.text.items c.deref.result.now made.garbler.items c.deref-2.result.now made.evaluator.items made.evaluator.items
    before mid mid after c.deref.ensures.value c.deref-2.ensures.value c.in_ok-write_ending.ensures.writes c.in_err-write_ending-2.field-0.0 c.in_err-write_ending-2.ensures.writes)

pub returns-clause-writes : goal.returns-clause-writes
returns-clause-writes g c =
    let made = c.args.generating.now.made in
    let before = g.D.Desk.tells c.args.desk.now in
    let mid = g.D.Desk.tells c.write_ending.new.desk in
    let between = g.D.Desk.tells c.write_ending-2.new.desk in
    let after = g.D.Desk.tells c.write_ending-3.new.desk in
    evaluator_ends c.args.generating.now.out.now made.text.items c.deref.result.now made.garbler.items c.deref-2.result.now made.evaluator.items c.deref-3.result.now
    before mid between after c.deref.ensures.value c.deref-2.ensures.value c.in_ok-write_ending.ensures.writes c.deref-3.ensures.value c.write_ending-3.result
    c.in_ok-write_ending-2.ensures.writes c.write_ending-3.ensures.writes
