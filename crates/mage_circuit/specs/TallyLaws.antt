-- The rules of the driver that counts its calls are lawful.
use Rattle.std.proofs.Common.{◌≡◌, [], Bool, true, false, refl, inr, arith}
use Rattle.std.proofs.lemmas.List.{length-replicate}
use Rattle.mage_driver.specs.Rules.{Grows, AreLawful}
use Rattle.mage_circuit.specs.Tally.{Tally, tally_rules}

nothing_grows : (from to : Tally) → Grows tally_rules from to
nothing_grows from to = record { outputs = ([], refl); streams = λ k. ([], refl) }

unpacked_is : (wire : Bool) → tally_rules.unpack (tally_rules.pack wire) ≡ wire
unpacked_is true = refl
unpacked_is false = refl

pub tally_is_lawful : AreLawful tally_rules
tally_is_lawful = record {
  some_bytes = omega arith;
  few_bytes = omega arith;
  packed = λ wire known. refl;
  unpacked = λ wire known. unpacked_is wire;
  zeros = refl;
  inputs = λ s party count. length-replicate count false;
  and_grows = λ s a b. nothing_grows s ((tally_rules.and s a b).0);
  input_grows = λ s party count. nothing_grows s ((tally_rules.input s party count).0);
  output_grows = λ s wires. nothing_grows s (tally_rules.output s wires);
  finish_grows = λ s. nothing_grows s (tally_rules.finish s);
  stopped_grows = λ from to after f stops. (nothing_grows from after, nothing_grows after to);
  causes = λ from to after f stops. inr stops.0;
}
