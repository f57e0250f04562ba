use Rattle.std.proofs.Common.{[], take, drop}
use Rattle.std.specs.List.{zip}
use Rattle.mage_driver.specs.Operations.{one_more, and_bit}
use Rattle.mage_driver.proofs.Making.{Goes}
use Rattle.mage_circuit.proofs.each.and_each.Given as goal

abbrev pub invariant-loop-i : goal.invariant-loop-i
invariant-loop-i g l =
    Goes g.D.Driver.rules (one_more g.D.Driver.rules (and_bit g.D.Driver.rules)) [] (g.D.Driver.tells l.initial.driver) (zip l.a l.b) (take l.i l.out) (g.D.Driver.tells l.driver) (drop l.i (zip l.a l.b))
