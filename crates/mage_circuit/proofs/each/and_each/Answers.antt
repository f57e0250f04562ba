use Rattle.std.proofs.Common.{◌+◌, drop, arith}
use Rattle.std.specs.List.{zip}
use Rattle.std.proofs.lemmas.Result.{err_from_is_err_and}
use Rattle.mage_driver.specs.Operations.{and_bit}
use Rattle.mage_circuit.proofs.Loops.{pair_next, pairs_end, each_turn, each_falls, each_end}
use Rattle.mage_circuit.proofs.each.and_each.Goals as goal

pub loop-i-preserved : goal.loop-i-preserved
loop-i-preserved g c =
    let l = c.loop-i in
    let pairs = zip c.args.a.now c.args.b.now in
    let next = pair_next c.args.a.now c.args.b.now l.i c.index-a-i.result c.index-b-i.result (omega arith) c.requires.same c.index-a-i.is c.index-b-i.is in
    each_turn g.D.Driver.rules (and_bit g.D.Driver.rules) (g.D.Driver.tells c.args.driver.now) (g.D.Driver.tells l.driver) (g.D.Driver.tells c.both_of.new.driver) pairs l.out l.i (c.index-a-i.result, c.index-b-i.result) (drop l.i pairs) c.in_ok-wire.wire
    l.invariant next (omega arith) c.in_ok-wire.ensures

pub returns-in_err-wire : goal.returns-in_err-wire
returns-in_err-wire g c =
    let l = c.loop-i in
    let p = err_from_is_err_and c.from_residual.result c.from_residual.ensures.1 in
    let pairs = zip c.args.a.now c.args.b.now in
    let next = pair_next c.args.a.now c.args.b.now l.i c.index-a-i.result c.index-b-i.result (omega arith) c.requires.same c.index-a-i.is c.index-b-i.is in
    rw (p.1, p.2) (each_falls g.D.Driver.rules (and_bit g.D.Driver.rules) (g.D.Driver.tells c.args.driver.now) (g.D.Driver.tells l.driver) (g.D.Driver.tells c.both_of.new.driver) c.in_err-wire.field-0.0 pairs _ (c.index-a-i.result, c.index-b-i.result) (drop l.i pairs) (drop (l.i + 1) pairs)
    l.invariant next c.in_err-wire.ensures)

pub returns : goal.returns
returns g c =
    let l = c.loop-i in
    let pairs = zip c.args.a.now c.args.b.now in
    each_end g.D.Driver.rules (and_bit g.D.Driver.rules) (g.D.Driver.tells c.args.driver.now) (g.D.Driver.tells l.driver) pairs l.out l.i (drop l.i pairs)
    l.invariant (pairs_end c.args.a.now c.args.b.now l.i (omega arith)) (omega arith)
