use Rattle.std.proofs.Common.{◌++◌, ◌<◌, length, take, replicate, ap, ◌∙◌, arith}
use Rattle.std.proofs.lemmas.List.{length-append, length-replicate}
use Rattle.mage_circuit.proofs.Moving.{copy_turn, copy_end, default}
use Rattle.mage_circuit.proofs.moves.move_up.Goals as goal

pub loop-i-preserved : goal.loop-i-preserved
loop-i-preserved g c =
    let l = c.loop-i in
    let z = c.constant-zero.result in
    let whole = replicate c.args.amount z ++ c.args.from.now in
    let inside : l.i < length whole = omega (arith, length-append (replicate c.args.amount z) c.args.from.now, length-replicate c.args.amount z) in
    copy_turn l.out whole l.i c.wire_above.result l.invariant (omega arith) inside
    (c.wire_above.ensures ∙ default whole l.i z c.wire_above.result inside)

pub returns : goal.returns
returns g c =
    let l = c.loop-i in
    let n = length c.args.out.now in
    let z = c.constant-zero.result in
    copy_end l.out (replicate c.args.amount z ++ c.args.from.now) l.i n l.invariant (omega arith) (omega arith) ∙ ap (λ w. take n (replicate c.args.amount w ++ c.args.from.now)) c.constant-zero.ensures
