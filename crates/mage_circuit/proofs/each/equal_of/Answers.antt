use Rattle.std.proofs.Common.{◌+◌, drop, ap, ◌∙◌, arith}
use Rattle.std.specs.List.{zip}
use Rattle.std.proofs.lemmas.Result.{err_from_is_err_and}
use Rattle.mage_driver.specs.Operations.{same_bit}
use Rattle.mage_driver.proofs.Making.{goes_turn, goes_falls, goes_end}
use Rattle.mage_circuit.proofs.Loops.{pair_next, pairs_end, equal_goes, equal_falls}
use Rattle.mage_circuit.proofs.each.equal_of.Goals as goal

pub loop-i-preserved : goal.loop-i-preserved
loop-i-preserved g c =
    let l = c.loop-i in
    let pairs = zip c.args.a.now c.args.b.now in
    goes_turn g.D.Driver.rules (same_bit g.D.Driver.rules) _ (g.D.Driver.tells c.args.driver.now) (drop 1 pairs) l.same c.in_ok-next.next (g.D.Driver.tells l.driver) (g.D.Driver.tells c.same_of.new.driver) (c.index-a-i.result, c.index-b-i.result) (drop l.i pairs) (drop (l.i + 1) pairs)
    l.invariant (pair_next c.args.a.now c.args.b.now l.i c.index-a-i.result c.index-b-i.result (omega arith) c.requires.same c.index-a-i.is c.index-b-i.is) c.in_ok-next.ensures

pub returns-in_err-next : goal.returns-in_err-next
returns-in_err-next g c =
    let l = c.loop-i in
    let p = err_from_is_err_and c.from_residual.result c.from_residual.ensures.1 in
    let pairs = zip c.args.a.now c.args.b.now in
    let first = pair_next c.args.a.now c.args.b.now 0 c.index-a-0.result c.index-b-0.result (omega arith) c.requires.same c.index-a-0.is c.index-b-0.is in
    let start = c.not-same.ensures ∙ ap (λ w. g.D.Driver.rules.not (g.D.Driver.tells c.args.driver.now).state w) c.xor-first.ensures in
    let next = pair_next c.args.a.now c.args.b.now l.i c.index-a-i.result c.index-b-i.result (omega arith) c.requires.same c.index-a-i.is c.index-b-i.is in
    rw (p.1, p.2) (equal_falls g.D.Driver.rules (g.D.Driver.tells c.args.driver.now) (g.D.Driver.tells c.same_of.new.driver) c.in_err-next.field-0.0 pairs (drop 1 pairs) c.index-a-0.result c.index-b-0.result c.not-same.result
    first start c.requires.running
    (goes_falls g.D.Driver.rules (same_bit g.D.Driver.rules) c.not-same.result (g.D.Driver.tells c.args.driver.now) (drop 1 pairs) l.same (g.D.Driver.tells l.driver) (g.D.Driver.tells c.same_of.new.driver) c.in_err-next.field-0.0
    (c.index-a-i.result, c.index-b-i.result) (drop l.i pairs) (drop (l.i + 1) pairs) l.invariant next c.in_err-next.ensures))

pub returns : goal.returns
returns g c =
    let l = c.loop-i in
    let pairs = zip c.args.a.now c.args.b.now in
    let first = pair_next c.args.a.now c.args.b.now 0 c.index-a-0.result c.index-b-0.result (omega arith) c.requires.same c.index-a-0.is c.index-b-0.is in
    let start = c.not-same.ensures ∙ ap (λ w. g.D.Driver.rules.not (g.D.Driver.tells c.args.driver.now).state w) c.xor-first.ensures in
    equal_goes g.D.Driver.rules (g.D.Driver.tells c.args.driver.now) (g.D.Driver.tells l.driver) pairs (drop 1 pairs) c.index-a-0.result c.index-b-0.result c.not-same.result l.same
    first start c.requires.running
    (goes_end g.D.Driver.rules (same_bit g.D.Driver.rules) c.not-same.result (g.D.Driver.tells c.args.driver.now) (drop 1 pairs) l.same (g.D.Driver.tells l.driver) (drop l.i pairs)
    l.invariant (pairs_end c.args.a.now c.args.b.now l.i (omega arith)))
