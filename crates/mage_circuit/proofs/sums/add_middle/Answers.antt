use Rattle.std.proofs.Common.{◌≡◌, ◌+◌, ◌-◌, ◌++◌, ◌∷◌, [], take, drop, sym, ap, refl, arith}
use Rattle.std.specs.List.{zip}
use Rattle.std.proofs.lemmas.Result.{err_from_is_err_and}
use Rattle.mage_driver.specs.Circuits.{folded}
use Rattle.mage_driver.specs.Operations.{add_bit, starting, with_carry}
use Rattle.mage_driver.proofs.Making.{goes_turn, goes_same, goes_falls, goes_end, went_to}
use Rattle.mage_circuit.proofs.Loops.{pair_next, front_next, front_end, kept_item, kept_rest, written_next, add_step, add_step_falls}
use Rattle.mage_circuit.proofs.sums.add_middle.Goals as goal

pub loop-i-preserved : goal.loop-i-preserved
loop-i-preserved g c =
    let l = c.loop-i in
    let old = c.args.sum.now in
    let pairs = zip old c.args.line.now in
    let x = c.index-sum-i.result in
    let y = c.index-line-i.result in
    let here = kept_item l.sum old l.i x l.invariant.kept c.index-sum-i.is in
    let split = pair_next old c.args.line.now l.i x y (omega arith) c.requires.same here c.index-line-i.is in
    let front = front_next pairs l.i c.args.last (x, y) (omega arith) split in
    let before = g.D.Driver.tells c.args.driver.now in
    let told = g.D.Driver.tells l.driver in
    let after = g.D.Driver.tells c.carry_of.new.driver in
    let items = take (c.args.last - 1) (drop 1 pairs) in
    let left = take (c.args.last - l.i) (drop l.i pairs) in
    let left' = take (c.args.last - (l.i + 1)) (drop (l.i + 1) pairs) in
    let now = with_carry g.D.Driver.rules l.carry (take (l.i - 1) (drop 1 l.sum)) in
    let start = starting g.D.Driver.rules c.args.first in
    let next = c.in_ok-next.next in
    let w = c.sum_of.result in
    let now' = with_carry g.D.Driver.rules next (take (l.i - 1) (drop 1 l.sum) ++ w ∷ []) in
    record {
      goes = goes_same g.D.Driver.rules (add_bit g.D.Driver.rules) start before items now' _ after left' left'
          (goes_turn g.D.Driver.rules (add_bit g.D.Driver.rules) start before items now now' told after (x, y) left left' l.invariant.goes front
          (add_step g.D.Driver.rules told after now x y next w c.in_ok-next.ensures c.sum_of.ensures))
          (ap (λ bs. with_carry g.D.Driver.rules next bs) (sym (written_next l.sum l.i w (omega arith) (omega arith)))) refl;
      kept = kept_rest l.sum old l.i w l.invariant.kept;
    }

pub returns-in_err-next-clause-circuit : goal.returns-in_err-next-clause-circuit
returns-in_err-next-clause-circuit g c =
    let p = err_from_is_err_and c.from_residual.result c.from_residual.ensures.1 in
    let l = c.loop-i in
    let old = c.args.sum.now in
    let pairs = zip old c.args.line.now in
    let x = c.index-sum-i.result in
    let y = c.index-line-i.result in
    let here = kept_item l.sum old l.i x l.invariant.kept c.index-sum-i.is in
    let split = pair_next old c.args.line.now l.i x y (omega arith) c.requires.same here c.index-line-i.is in
    let front = front_next pairs l.i c.args.last (x, y) (omega arith) split in
    let before = g.D.Driver.tells c.args.driver.now in
    let told = g.D.Driver.tells l.driver in
    let after = g.D.Driver.tells c.carry_of.new.driver in
    let items = take (c.args.last - 1) (drop 1 pairs) in
    let left = take (c.args.last - l.i) (drop l.i pairs) in
    let left' = take (c.args.last - (l.i + 1)) (drop (l.i + 1) pairs) in
    let now = with_carry g.D.Driver.rules l.carry (take (l.i - 1) (drop 1 l.sum)) in
    let start = starting g.D.Driver.rules c.args.first in
    rw (p.1, p.2) (goes_falls g.D.Driver.rules (add_bit g.D.Driver.rules) start before items now told after c.in_err-next.field-0.0 (x, y) left left' l.invariant.goes front
    (add_step_falls g.D.Driver.rules told after now x y c.in_err-next.field-0.0 c.in_err-next.ensures))

pub returns-clause-circuit : goal.returns-clause-circuit
returns-clause-circuit g c =
    let l = c.loop-i in
    let pairs = zip c.args.sum.now c.args.line.now in
    let before = g.D.Driver.tells c.args.driver.now in
    let told = g.D.Driver.tells l.driver in
    let items = take (c.args.last - 1) (drop 1 pairs) in
    let now = with_carry g.D.Driver.rules l.carry (take (l.i - 1) (drop 1 l.sum)) in
    let start = starting g.D.Driver.rules c.args.first in
    let done : l.i ≡ c.args.last = omega arith in
    went_to g.D.Driver.rules (folded g.D.Driver.rules (add_bit g.D.Driver.rules) start items) before told now _
    (goes_end g.D.Driver.rules (add_bit g.D.Driver.rules) start before items now told (take (c.args.last - l.i) (drop l.i pairs)) l.invariant.goes (front_end pairs l.i c.args.last (omega arith)))
    (ap (λ k. with_carry g.D.Driver.rules l.carry (take (k - 1) (drop 1 l.sum))) done)
