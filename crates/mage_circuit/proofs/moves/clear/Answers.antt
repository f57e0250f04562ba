use Rattle.std.proofs.Common.{◌≡◌, ◌+◌, ◌-◌, suc, length, replicate, ap, ◌∙◌, arith}
use Rattle.mage_circuit.proofs.Moving.{write_turn, write_end}
use Rattle.mage_circuit.proofs.moves.clear.Goals as goal

pub loop-i-preserved : goal.loop-i-preserved
loop-i-preserved g c =
    let l = c.loop-i in
    let n = length c.args.out.now in
    let z = c.constant-zero.result in
    let more : n - l.i ≡ suc (n - (l.i + 1)) = omega arith in
    write_turn l.out (replicate n z) (replicate (n - l.i) z) l.i z (replicate (n - (l.i + 1)) z) l.invariant (ap (λ k. replicate k z) more) (omega arith)

pub returns : goal.returns
returns g c =
    let l = c.loop-i in
    let n = length c.args.out.now in
    let z = c.constant-zero.result in
    let none : n - l.i ≡ 0 = omega arith in
    write_end l.out (replicate n z) (replicate (n - l.i) z) l.i l.invariant (ap (λ k. replicate k z) none) (omega arith) ∙ ap (λ w. replicate n w) c.constant-zero.ensures
