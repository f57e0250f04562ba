use Rattle.std.proofs.Common.{◌+◌, drop, arith}
use Rattle.std.proofs.lemmas.List.{drop_all}
use Rattle.std.proofs.lemmas.Result.{err_from_is_err_and}
use Rattle.mage_driver.specs.Circuits.{anded}
use Rattle.mage_circuit.proofs.Loops.{item_next, each_turn, each_falls, each_end}
use Rattle.mage_circuit.proofs.each.row_of.Goals as goal

pub loop-i-preserved : goal.loop-i-preserved
loop-i-preserved g c =
    let l = c.loop-i in
    let next = item_next c.args.a.now l.i c.index-a-i.result (omega arith) c.index-a-i.is in
    each_turn g.D.Driver.rules (λ bit. anded g.D.Driver.rules bit c.args.b) (g.D.Driver.tells c.args.driver.now) (g.D.Driver.tells l.driver) (g.D.Driver.tells c.both_of.new.driver) c.args.a.now l.out l.i c.index-a-i.result (drop l.i c.args.a.now) c.in_ok-wire.wire
    l.invariant next (omega arith) c.in_ok-wire.ensures

pub returns-in_err-wire : goal.returns-in_err-wire
returns-in_err-wire g c =
    let l = c.loop-i in
    let p = err_from_is_err_and c.from_residual.result c.from_residual.ensures.1 in
    let next = item_next c.args.a.now l.i c.index-a-i.result (omega arith) c.index-a-i.is in
    rw (p.1, p.2) (each_falls g.D.Driver.rules (λ bit. anded g.D.Driver.rules bit c.args.b) (g.D.Driver.tells c.args.driver.now) (g.D.Driver.tells l.driver) (g.D.Driver.tells c.both_of.new.driver) c.in_err-wire.field-0.0 c.args.a.now _ c.index-a-i.result (drop l.i c.args.a.now) (drop (l.i + 1) c.args.a.now)
    l.invariant next c.in_err-wire.ensures)

pub returns : goal.returns
returns g c =
    let l = c.loop-i in
    each_end g.D.Driver.rules (λ bit. anded g.D.Driver.rules bit c.args.b) (g.D.Driver.tells c.args.driver.now) (g.D.Driver.tells l.driver) c.args.a.now l.out l.i (drop l.i c.args.a.now)
    l.invariant (drop_all l.i c.args.a.now (omega arith)) (omega arith)
