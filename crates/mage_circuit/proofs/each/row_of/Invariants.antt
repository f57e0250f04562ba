use Rattle.std.proofs.Common.{[], take, drop}
use Rattle.mage_driver.specs.Circuits.{anded}
use Rattle.mage_driver.specs.Operations.{one_more}
use Rattle.mage_driver.proofs.Making.{Goes}
use Rattle.mage_circuit.proofs.each.row_of.Given as goal

abbrev pub invariant-loop-i : goal.invariant-loop-i
invariant-loop-i g l =
    Goes g.D.Driver.rules (one_more g.D.Driver.rules (λ bit. anded g.D.Driver.rules bit l.b)) [] (g.D.Driver.tells l.initial.driver) l.a (take l.i l.out) (g.D.Driver.tells l.driver) (drop l.i l.a)
