use Rattle.std.proofs.Common.{◌≡◌, take, drop}
use Rattle.mage_driver.specs.Operations.{count_up, starting}
use Rattle.mage_driver.proofs.Making.{Goes}
use Rattle.mage_circuit.proofs.counts.count_up.Given as goal

abbrev pub invariant-loop-i : goal.invariant-loop-i
invariant-loop-i g l = record {
  goes : Goes g.D.Driver.rules (count_up g.D.Driver.rules) (starting g.D.Driver.rules l.initial.carry) (g.D.Driver.tells l.initial.driver) l.initial.number (record { carry = l.carry; bits = take l.i l.number }) (g.D.Driver.tells l.driver) (drop l.i l.initial.number);
  kept : drop l.i l.number ≡ drop l.i l.initial.number;
}
