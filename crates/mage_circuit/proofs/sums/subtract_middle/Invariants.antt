use Rattle.std.proofs.Common.{◌-◌, take, drop}
use Rattle.std.specs.List.{zip}
use Rattle.mage_driver.specs.Operations.{subtract_bit, starting}
use Rattle.mage_driver.proofs.Making.{Goes}
use Rattle.mage_circuit.proofs.sums.subtract_middle.Given as goal

abbrev pub invariant-loop-i : goal.invariant-loop-i
invariant-loop-i g l =
    Goes g.D.Driver.rules (subtract_bit g.D.Driver.rules) (starting g.D.Driver.rules l.initial.carry) (g.D.Driver.tells l.initial.driver) (take (l.last - 1) (drop 1 (zip l.a l.b))) (record { carry = l.carry; bits = take (l.i - 1) (drop 1 l.out) }) (g.D.Driver.tells l.driver) (take (l.last - l.i) (drop l.i (zip l.a l.b)))
