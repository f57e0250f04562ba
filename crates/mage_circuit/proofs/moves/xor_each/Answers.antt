use Rattle.std.proofs.Common.{List, ◌+◌, ◌∷◌, map, drop, sym, ap, ◌∙◌, arith}
use Rattle.std.specs.List.{zip}
use Rattle.mage_circuit.proofs.Loops.{pair_next, pairs_end}
use Rattle.mage_circuit.proofs.Moving.{write_turn, write_end}
use Rattle.mage_circuit.proofs.moves.xor_each.Goals as goal

pub loop-i-preserved : goal.loop-i-preserved
loop-i-preserved g c =
    let l = c.loop-i in
    let pairs = zip c.args.a.now c.args.b.now in
    let next = pair_next c.args.a.now c.args.b.now l.i c.index-a-i.result c.index-b-i.result (omega arith) c.requires.same c.index-a-i.is c.index-b-i.is in
    let xors = λ (ps : List (g.row.D-Wire.Denot × g.row.D-Wire.Denot)). map (λ pair. g.D.Driver.rules.xor pair.0 pair.1) ps in
    write_turn l.out (xors pairs) (xors (drop l.i pairs)) l.i c.xor.result (xors (drop (l.i + 1) pairs))
    l.invariant (ap xors next ∙ ap (λ w. w ∷ xors (drop (l.i + 1) pairs)) (sym c.xor.ensures)) (omega arith)

pub returns : goal.returns
returns g c =
    let l = c.loop-i in
    let pairs = zip c.args.a.now c.args.b.now in
    let xors = λ (ps : List (g.row.D-Wire.Denot × g.row.D-Wire.Denot)). map (λ pair. g.D.Driver.rules.xor pair.0 pair.1) ps in
    write_end l.out (xors pairs) (xors (drop l.i pairs)) l.i l.invariant (ap xors (pairs_end c.args.a.now c.args.b.now l.i (omega arith))) (omega arith)
