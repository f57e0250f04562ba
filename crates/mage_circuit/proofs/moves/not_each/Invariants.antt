use Rattle.std.proofs.Common.{◌≡◌, map, take}
use Rattle.mage_circuit.proofs.moves.not_each.Given as goal

abbrev pub invariant-loop-i : goal.invariant-loop-i
invariant-loop-i g l = take l.i l.out ≡ map (g.D.Driver.rules.not (g.D.Driver.tells l.driver).state) (take l.i l.a)
