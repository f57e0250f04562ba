use Rattle.std.proofs.Common.{◌-◌, drop}
use Rattle.mage_driver.specs.Operations.{multiply_bit}
use Rattle.mage_driver.proofs.Making.{Goes}
use Rattle.mage_circuit.proofs.Multiplying.{summed_in}
use Rattle.mage_circuit.proofs.products.multiply.Given as goal

abbrev pub invariant-loop-i : goal.invariant-loop-i
invariant-loop-i g l =
    Goes g.D.Driver.rules (multiply_bit g.D.Driver.rules l.a) (summed_in 0 l.initial.out) (g.D.Driver.tells l.initial.driver) (drop 1 l.b) (summed_in (l.i - 1) l.out) (g.D.Driver.tells l.driver) (drop l.i l.b)
