use Rattle.std.proofs.Common.{drop}
use Rattle.std.specs.List.{zip}
use Rattle.mage_driver.specs.Operations.{same_bit}
use Rattle.mage_driver.proofs.Making.{Goes}
use Rattle.mage_circuit.proofs.each.equal_of.Given as goal

abbrev pub invariant-loop-i : goal.invariant-loop-i
invariant-loop-i g l = Goes g.D.Driver.rules (same_bit g.D.Driver.rules) l.initial.same (g.D.Driver.tells l.initial.driver) (drop 1 (zip l.a l.b)) l.same (g.D.Driver.tells l.driver) (drop l.i (zip l.a l.b))
