-- The plain rules are lawful.
use Rattle.std.proofs.Common.{◌≡◌, ◌∙◌, ℕ, List, [], ◌∷◌, ◌++◌, Bool, true, false, cond, length, nat_lt, refl, sym, arith}
use Rattle.std.proofs.lemmas.List.{append-nil}
use Rattle.mage_bits.specs.Bits.{number}
use Rattle.mage_bits.proofs.BitLaws.{length-bits}
use Rattle.mage_instr.specs.declared.party.Party.{Party}
use Rattle.mage_instr.specs.declared.party.Party.TheVariants as party
use Rattle.mage_driver.specs.Rules.{Begins, Grows, AreLawful}
use Rattle.mage_plain.specs.Plain.{Plain, plain_rules, taken_in, next_of, packed}

begins_itself : {X : Type 0} (xs : List X) → Begins xs xs
begins_itself xs = ([], sym (append-nil xs))

same_grows : (from to : Plain) → to.outputs ≡ from.outputs → Grows plain_rules from to
same_grows from to same = record {
  outputs = ([], same ∙ sym (append-nil from.outputs));
  streams = λ k. begins_itself {X = ℕ} [];
}

input_length : (s : Plain) (p : Party) (count : ℕ) → length ((taken_in s p count).1) ≡ count
input_length s party.Garbler count = length-bits (next_of s.garbler) count
input_length s party.Evaluator count = length-bits (next_of s.evaluator) count

input_keeps : (s : Plain) (p : Party) (count : ℕ) → ((taken_in s p count).0).outputs ≡ s.outputs
input_keeps s party.Garbler count = refl
input_keeps s party.Evaluator count = refl

output_begins : (test : Bool) (outputs : List ℕ) (n : ℕ) → Begins outputs (cond test (outputs ++ n ∷ []) outputs)
output_begins true outputs n = (n ∷ [], refl)
output_begins false outputs n = begins_itself outputs

unpacked_is : (wire : Bool) → plain_rules.unpack (packed wire) ≡ wire
unpacked_is true = refl
unpacked_is false = refl

pub plain_is_lawful : AreLawful plain_rules
plain_is_lawful = record {
  some_bytes = omega arith;
  few_bytes = omega arith;
  packed = λ wire known. refl;
  unpacked = λ wire known. unpacked_is wire;
  zeros = refl;
  inputs = input_length;
  and_grows = λ s a b. same_grows s ((plain_rules.and s a b).0) refl;
  input_grows = λ s p count. same_grows s ((taken_in s p count).0) (input_keeps s p count);
  output_grows = λ s wires. record {
    outputs = output_begins (nat_lt (length s.outputs) s.room) s.outputs (number wires);
    streams = λ k. begins_itself {X = ℕ} [];
  };
  finish_grows = λ s. same_grows s s refl;
  stopped_grows = λ from to after f stops. absurd stops;
  causes = λ from to after f stops. absurd stops;
}
