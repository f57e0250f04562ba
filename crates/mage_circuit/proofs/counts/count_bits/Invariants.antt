use Rattle.std.proofs.Common.{◌≡◌, ◌≤◌, ◌<◌, ◌*◌, ◌^◌, take, drop}
use Rattle.mage_driver.specs.Operations.{count_bit}
use Rattle.mage_driver.proofs.Making.{Goes}
use Rattle.mage_circuit.proofs.counts.count_bits.Given as goal

abbrev pub invariant-loop-i : goal.invariant-loop-i
invariant-loop-i g l = record {
  goes : Goes g.D.Driver.rules (count_bit g.D.Driver.rules) (record { seen = 1; bits = take 1 l.initial.number }) (g.D.Driver.tells l.initial.driver) (drop 1 l.a) (record { seen = l.i; bits = take l.length l.number }) (g.D.Driver.tells l.driver) (drop l.i l.a);
  full : l.full ≡ 2 ^ l.length;
  some : 1 ≤ l.length;
  within : l.length ≤ l.i;
  below : l.i < l.full;
  few : l.full ≤ 2 * l.i;
}
