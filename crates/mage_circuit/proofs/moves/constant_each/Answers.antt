use Rattle.std.proofs.Common.{◌≡◌, ◌+◌, ◌-◌, ◌/◌, ◌%◌, ◌==◌, List, Bool, ◌∷◌, length, map, sym, ap, ◌∙◌, arith}
use Rattle.mage_bits.specs.Bits.{bits}
use Rattle.mage_bits.proofs.BitLaws.{bits-step}
use Rattle.mage_circuit.proofs.Moving.{write_turn, write_end}
use Rattle.mage_circuit.proofs.moves.constant_each.Goals as goal

pub loop-i-preserved : goal.loop-i-preserved
loop-i-preserved g c =
    let l = c.loop-i in
    let n = length c.args.out.now in
    let wires = λ (ds : List Bool). map (g.D.Driver.rules.constant (g.D.Driver.tells c.args.driver.now).state) ds in
    let less : n - l.i - 1 ≡ n - (l.i + 1) = omega arith in
    let step : bits l.left (n - l.i) ≡ (l.left % 2 == 1) ∷ bits (l.left / 2) (n - (l.i + 1)) = bits-step l.left (n - l.i) (omega arith) ∙ ap (λ k. (l.left % 2 == 1) ∷ bits (l.left / 2) k) less in
    write_turn l.out (wires (bits c.args.number n)) (wires (bits l.left (n - l.i))) l.i c.constant.result (wires (bits (l.left / 2) (n - (l.i + 1))))
    l.invariant (ap wires step ∙ ap (λ w. w ∷ wires (bits (l.left / 2) (n - (l.i + 1)))) (sym c.constant.ensures)) (omega arith)

pub returns : goal.returns
returns g c =
    let l = c.loop-i in
    let n = length c.args.out.now in
    let wires = λ (ds : List Bool). map (g.D.Driver.rules.constant (g.D.Driver.tells c.args.driver.now).state) ds in
    let none : n - l.i ≡ 0 = omega arith in
    write_end l.out (wires (bits c.args.number n)) (wires (bits l.left (n - l.i))) l.i l.invariant (ap (λ k. wires (bits l.left k)) none) (omega arith)
