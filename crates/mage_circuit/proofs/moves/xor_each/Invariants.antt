use Rattle.std.proofs.Common.{◌≡◌, ◌++◌, map, take, drop}
use Rattle.std.specs.List.{zip}
use Rattle.mage_circuit.proofs.moves.xor_each.Given as goal

abbrev pub invariant-loop-i : goal.invariant-loop-i
invariant-loop-i g l =
    take l.i l.out ++ map (λ pair. g.D.Driver.rules.xor pair.0 pair.1) (drop l.i (zip l.a l.b)) ≡ map (λ pair. g.D.Driver.rules.xor pair.0 pair.1) (zip l.a l.b)
