use Rattle.std.proofs.Common.{◌+◌, drop, arith}
use Rattle.std.specs.List.{zip}
use Rattle.std.proofs.lemmas.Result.{err_from_is_err_and}
use Rattle.mage_driver.specs.Operations.{replace_bit}
use Rattle.mage_circuit.proofs.Loops.{pair_next, pairs_end, kept_item, kept_rest, each_turn, each_falls, each_end}
use Rattle.mage_circuit.proofs.each.replace_each.Goals as goal

pub loop-i-preserved : goal.loop-i-preserved
loop-i-preserved g c =
    let l = c.loop-i in
    let old = c.args.bits.now in
    let pairs = zip old c.args.others.now in
    let here = kept_item l.bits old l.i c.index-bits-i.result l.invariant.kept c.index-bits-i.is in
    let next = pair_next old c.args.others.now l.i c.index-bits-i.result c.index-others-i.result (omega arith) c.requires.same here c.index-others-i.is in
    record {
      goes = each_turn g.D.Driver.rules (replace_bit g.D.Driver.rules c.args.condition) (g.D.Driver.tells c.args.driver.now) (g.D.Driver.tells l.driver) (g.D.Driver.tells c.replaced_of.new.driver) pairs l.bits l.i (c.index-bits-i.result, c.index-others-i.result) (drop l.i pairs) c.in_ok-wire.wire
          l.invariant.goes next (omega arith) c.in_ok-wire.ensures;
      kept = kept_rest l.bits old l.i c.in_ok-wire.wire l.invariant.kept;
    }

pub returns-in_err-wire : goal.returns-in_err-wire
returns-in_err-wire g c =
    let l = c.loop-i in
    let p = err_from_is_err_and c.from_residual.result c.from_residual.ensures.1 in
    let old = c.args.bits.now in
    let pairs = zip old c.args.others.now in
    let here = kept_item l.bits old l.i c.index-bits-i.result l.invariant.kept c.index-bits-i.is in
    let next = pair_next old c.args.others.now l.i c.index-bits-i.result c.index-others-i.result (omega arith) c.requires.same here c.index-others-i.is in
    rw (p.1, p.2) (each_falls g.D.Driver.rules (replace_bit g.D.Driver.rules c.args.condition) (g.D.Driver.tells c.args.driver.now) (g.D.Driver.tells l.driver) (g.D.Driver.tells c.replaced_of.new.driver) c.in_err-wire.field-0.0 pairs _ (c.index-bits-i.result, c.index-others-i.result) (drop l.i pairs) (drop (l.i + 1) pairs)
    l.invariant.goes next c.in_err-wire.ensures)

pub returns : goal.returns
returns g c =
    let l = c.loop-i in
    let pairs = zip c.args.bits.now c.args.others.now in
    each_end g.D.Driver.rules (replace_bit g.D.Driver.rules c.args.condition) (g.D.Driver.tells c.args.driver.now) (g.D.Driver.tells l.driver) pairs l.bits l.i (drop l.i pairs)
    l.invariant.goes (pairs_end c.args.bits.now c.args.others.now l.i (omega arith)) (omega arith)
