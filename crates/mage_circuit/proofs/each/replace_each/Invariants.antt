use Rattle.std.proofs.Common.{◌≡◌, [], take, drop}
use Rattle.std.specs.List.{zip}
use Rattle.mage_driver.specs.Operations.{one_more, replace_bit}
use Rattle.mage_driver.proofs.Making.{Goes}
use Rattle.mage_circuit.proofs.each.replace_each.Given as goal

abbrev pub invariant-loop-i : goal.invariant-loop-i
invariant-loop-i g l = record {
  goes : Goes g.D.Driver.rules (one_more g.D.Driver.rules (replace_bit g.D.Driver.rules l.condition)) [] (g.D.Driver.tells l.initial.driver) (zip l.initial.bits l.others) (take l.i l.bits) (g.D.Driver.tells l.driver) (drop l.i (zip l.initial.bits l.others));
  kept : drop l.i l.bits ≡ drop l.i l.initial.bits;
}
