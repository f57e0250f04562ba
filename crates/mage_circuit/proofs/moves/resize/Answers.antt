use Rattle.std.proofs.Common.{◌++◌, length, take, replicate, ap, ◌∙◌, arith}
use Rattle.std.proofs.lemmas.List.{length-append, length-replicate}
use Rattle.mage_circuit.proofs.Moving.{copy_turn, copy_end, padded}
use Rattle.mage_circuit.proofs.moves.resize.Goals as goal

pub loop-i-preserved : goal.loop-i-preserved
loop-i-preserved g c =
    let l = c.loop-i in
    let n = length c.args.out.now in
    let z = c.constant-zero.result in
    let whole = c.args.from.now ++ replicate n z in
    copy_turn l.out whole l.i c.wire_at.result l.invariant (omega arith) (omega (arith, length-append c.args.from.now (replicate n z), length-replicate n z))
    (c.wire_at.ensures ∙ padded c.args.from.now n l.i z c.wire_at.result (omega arith))

pub returns : goal.returns
returns g c =
    let l = c.loop-i in
    let n = length c.args.out.now in
    let z = c.constant-zero.result in
    copy_end l.out (c.args.from.now ++ replicate n z) l.i n l.invariant (omega arith) (omega arith) ∙ ap (λ w. take n (c.args.from.now ++ replicate n w)) c.constant-zero.ensures
