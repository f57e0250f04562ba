use Rattle.std.proofs.Common.{◌+◌, ◌++◌, ◌∷◌, [], take, drop, sym, ap, refl, arith}
use Rattle.std.proofs.lemmas.List.{drop_all, take_all, take_more_set}
use Rattle.std.proofs.lemmas.Result.{err_from_is_err_and}
use Rattle.mage_driver.specs.Operations.{count_up, starting, with_carry}
use Rattle.mage_driver.specs.Circuits.{folded}
use Rattle.mage_driver.proofs.Making.{goes_turn, goes_same, goes_falls, goes_end, went_to}
use Rattle.mage_circuit.proofs.Loops.{item_next, kept_item, kept_rest, count_step, count_step_falls}
use Rattle.mage_circuit.proofs.counts.count_up.Goals as goal

pub loop-i-preserved : goal.loop-i-preserved
loop-i-preserved g c =
    let l = c.loop-i in
    let old = c.args.number.now in
    let before = g.D.Driver.tells c.args.driver.now in
    let told = g.D.Driver.tells l.driver in
    let after = g.D.Driver.tells c.both_of.new.driver in
    let x = c.index-number-i.result in
    let w = c.xor.result in
    let next = c.in_ok-next.next in
    let here = kept_item l.number old l.i x l.invariant.kept c.index-number-i.is in
    let split = item_next old l.i x (omega arith) here in
    let now = with_carry g.D.Driver.rules l.carry (take l.i l.number) in
    let now' = with_carry g.D.Driver.rules next (take l.i l.number ++ w ∷ []) in
    let start = starting g.D.Driver.rules c.args.bit in
    record {
      goes = goes_same g.D.Driver.rules (count_up g.D.Driver.rules) start before old now' _ after (drop (l.i + 1) old) (drop (l.i + 1) old)
          (goes_turn g.D.Driver.rules (count_up g.D.Driver.rules) start before old now now' told after x (drop l.i old) (drop (l.i + 1) old) l.invariant.goes split
          (count_step g.D.Driver.rules told after now x next w c.in_ok-next.ensures c.xor.ensures))
          (ap (λ bs. with_carry g.D.Driver.rules next bs) (sym (take_more_set l.number l.i w (omega arith)))) refl;
      kept = kept_rest l.number old l.i w l.invariant.kept;
    }

pub returns-in_err-next : goal.returns-in_err-next
returns-in_err-next g c =
    let l = c.loop-i in
    let p = err_from_is_err_and c.from_residual.result c.from_residual.ensures.1 in
    let old = c.args.number.now in
    let told = g.D.Driver.tells l.driver in
    let after = g.D.Driver.tells c.both_of.new.driver in
    let x = c.index-number-i.result in
    let here = kept_item l.number old l.i x l.invariant.kept c.index-number-i.is in
    let split = item_next old l.i x (omega arith) here in
    let now = with_carry g.D.Driver.rules l.carry (take l.i l.number) in
    rw (p.1, p.2) (goes_falls g.D.Driver.rules (count_up g.D.Driver.rules) (starting g.D.Driver.rules c.args.bit) (g.D.Driver.tells c.args.driver.now) old now told after c.in_err-next.field-0.0 x (drop l.i old) (drop (l.i + 1) old)
    l.invariant.goes split (count_step_falls g.D.Driver.rules told after now x c.in_err-next.field-0.0 c.in_err-next.ensures))

pub returns : goal.returns
returns g c =
    let l = c.loop-i in
    let old = c.args.number.now in
    let before = g.D.Driver.tells c.args.driver.now in
    let told = g.D.Driver.tells l.driver in
    let start = starting g.D.Driver.rules c.args.bit in
    let now = with_carry g.D.Driver.rules l.carry (take l.i l.number) in
    went_to g.D.Driver.rules (folded g.D.Driver.rules (count_up g.D.Driver.rules) start old) before told now _
    (goes_end g.D.Driver.rules (count_up g.D.Driver.rules) start before old now told (drop l.i old) l.invariant.goes (drop_all l.i old (omega arith)))
    (ap (λ bs. with_carry g.D.Driver.rules l.carry bs) (take_all l.i l.number (omega arith)))
