use Rattle.std.proofs.Common.{◌≡◌, ◌+◌, ◌-◌, ◌++◌, ◌∷◌, [], take, drop, sym, ap, refl, arith}
use Rattle.std.specs.List.{zip}
use Rattle.std.proofs.lemmas.Result.{err_from_is_err_and}
use Rattle.mage_driver.specs.Circuits.{folded}
use Rattle.mage_driver.specs.Operations.{subtract_bit, starting, with_carry}
use Rattle.mage_driver.proofs.Making.{goes_turn, goes_same, goes_falls, goes_end, went_to}
use Rattle.mage_circuit.proofs.Loops.{pair_next, front_next, front_end, written_next, subtract_step, subtract_step_falls}
use Rattle.mage_circuit.proofs.sums.subtract_middle.Goals as goal

pub loop-i-preserved : goal.loop-i-preserved
loop-i-preserved g c =
    let l = c.loop-i in
    let pairs = zip c.args.a.now c.args.b.now in
    let x = c.index-a-i.result in
    let y = c.index-b-i.result in
    let split = pair_next c.args.a.now c.args.b.now l.i x y (omega arith) c.requires.same c.index-a-i.is c.index-b-i.is in
    let front = front_next pairs l.i c.args.last (x, y) (omega arith) split in
    let before = g.D.Driver.tells c.args.driver.now in
    let told = g.D.Driver.tells l.driver in
    let after = g.D.Driver.tells c.carry_of.new.driver in
    let items = take (c.args.last - 1) (drop 1 pairs) in
    let left = take (c.args.last - l.i) (drop l.i pairs) in
    let left' = take (c.args.last - (l.i + 1)) (drop (l.i + 1) pairs) in
    let now = with_carry g.D.Driver.rules l.carry (take (l.i - 1) (drop 1 l.out)) in
    let start = starting g.D.Driver.rules c.args.first in
    let next = c.in_ok-next.next in
    let w = c.sum_of.result in
    let now' = with_carry g.D.Driver.rules next (take (l.i - 1) (drop 1 l.out) ++ w ∷ []) in
    goes_same g.D.Driver.rules (subtract_bit g.D.Driver.rules) start before items now' _ after left' left'
    (goes_turn g.D.Driver.rules (subtract_bit g.D.Driver.rules) start before items now now' told after (x, y) left left' l.invariant front
    (subtract_step g.D.Driver.rules told after now x y c.not-y.result next w l.invariant.runs c.not-y.ensures c.in_ok-next.ensures c.sum_of.ensures))
    (ap (λ bs. with_carry g.D.Driver.rules next bs) (sym (written_next l.out l.i w (omega arith) (omega arith)))) refl

pub returns-in_err-next : goal.returns-in_err-next
returns-in_err-next g c =
    let p = err_from_is_err_and c.from_residual.result c.from_residual.ensures.1 in
    let l = c.loop-i in
    let pairs = zip c.args.a.now c.args.b.now in
    let x = c.index-a-i.result in
    let y = c.index-b-i.result in
    let split = pair_next c.args.a.now c.args.b.now l.i x y (omega arith) c.requires.same c.index-a-i.is c.index-b-i.is in
    let front = front_next pairs l.i c.args.last (x, y) (omega arith) split in
    let before = g.D.Driver.tells c.args.driver.now in
    let told = g.D.Driver.tells l.driver in
    let after = g.D.Driver.tells c.carry_of.new.driver in
    let items = take (c.args.last - 1) (drop 1 pairs) in
    let left = take (c.args.last - l.i) (drop l.i pairs) in
    let left' = take (c.args.last - (l.i + 1)) (drop (l.i + 1) pairs) in
    let now = with_carry g.D.Driver.rules l.carry (take (l.i - 1) (drop 1 l.out)) in
    let start = starting g.D.Driver.rules c.args.first in
    rw (p.1, p.2) (goes_falls g.D.Driver.rules (subtract_bit g.D.Driver.rules) start before items now told after c.in_err-next.field-0.0 (x, y) left left' l.invariant front
    (subtract_step_falls g.D.Driver.rules told after now x y c.not-y.result c.in_err-next.field-0.0 l.invariant.runs c.not-y.ensures c.in_err-next.ensures))

pub returns : goal.returns
returns g c =
    let l = c.loop-i in
    let pairs = zip c.args.a.now c.args.b.now in
    let before = g.D.Driver.tells c.args.driver.now in
    let told = g.D.Driver.tells l.driver in
    let items = take (c.args.last - 1) (drop 1 pairs) in
    let now = with_carry g.D.Driver.rules l.carry (take (l.i - 1) (drop 1 l.out)) in
    let start = starting g.D.Driver.rules c.args.first in
    let done : l.i ≡ c.args.last = omega arith in
    went_to g.D.Driver.rules (folded g.D.Driver.rules (subtract_bit g.D.Driver.rules) start items) before told now _
    (goes_end g.D.Driver.rules (subtract_bit g.D.Driver.rules) start before items now told (take (c.args.last - l.i) (drop l.i pairs)) l.invariant (front_end pairs l.i c.args.last (omega arith)))
    (ap (λ k. with_carry g.D.Driver.rules l.carry (take (k - 1) (drop 1 l.out))) done)
