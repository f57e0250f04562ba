-- The rules of a driver that does nothing: over them only how far workers are, and the wires on links, count.
use Rattle.std.proofs.Common.{[], ◌∷◌, None, replicate}
use Rattle.mage_driver.specs.Rules.{Rules}

abbrev pub quiet : Rules (Unit {0})
quiet = record {
  State = Unit {0};
  constant = λ s bit. tt;
  xor = λ a b. tt;
  not = λ s a. tt;
  and = λ s a b. (tt, tt);
  input = λ s party count. (tt, replicate count tt);
  output = λ s wires. tt;
  finish = λ s. tt;
  due = λ from to. None;
  Stops = λ from to fault after. ⊥;
  outputs = λ s. [];
  stream = λ s k. [];
  IsWire = λ wire. Unit {0};
  wire_bytes = 1;
  pack = λ wire. 0 ∷ [];
  unpack = λ bytes. tt;
}
