use Rattle.std.proofs.Common.{◌≡◌, ◌-◌, ◌++◌, map, take}
use Rattle.mage_bits.specs.Bits.{bits}
use Rattle.mage_circuit.proofs.moves.constant_each.Given as goal

abbrev pub invariant-loop-i : goal.invariant-loop-i
invariant-loop-i g l =
    take l.i l.out ++ map (g.D.Driver.rules.constant (g.D.Driver.tells l.driver).state) (bits l.left (l.i-end - l.i)) ≡ map (g.D.Driver.rules.constant (g.D.Driver.tells l.driver).state) (bits l.initial.left l.i-end)
