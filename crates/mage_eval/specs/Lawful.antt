-- The rules of the evaluating driver are lawful.
use Rattle.std.proofs.Common.{◌≡◌, ◌∙◌, ℕ, zero, suc, List, [], ◌∷◌, ◌++◌, Bool, true, false, cond, length, nat_lt, refl, sym, ap, inl, inr, arith}
use Rattle.std.proofs.lemmas.List.{append-nil}
use Rattle.mage_instr.specs.declared.fault.DriverFault.{DriverFault}
use Rattle.mage_instr.specs.declared.party.Party.{Party}
use Rattle.mage_instr.specs.declared.party.Party.TheVariants as party
use Rattle.mage_bits.specs.Bits.{number}
use Rattle.mage_label.specs.declared.labels.Label.{Label}
use Rattle.mage_driver.specs.Rules.{Begins, Grows, AreLawful}
use Rattle.mage_streams.specs.Evaluating.{Evaluator, after_taking, decoded_bits, first_labels, next_labels, taken_labels}
use Rattle.mage_eval.specs.Rule.{Evaluating, eval_rules, StopsAt}

begins_itself : {X : Type 0} (xs : List X) → Begins xs xs
begins_itself xs = ([], sym (append-nil xs))

same_grows : (from to : Evaluating) → to.evaluator.outputs ≡ from.evaluator.outputs → Grows eval_rules from to
same_grows from to same = record {
  outputs = ([], same ∙ sym (append-nil from.evaluator.outputs));
  streams = λ k. begins_itself {X = ℕ} [];
}

kept_begins : (test : Bool) (outputs : List ℕ) (value : ℕ) → Begins outputs (cond test (outputs ++ value ∷ []) outputs)
kept_begins true outputs value = (value ∷ [], refl)
kept_begins false outputs value = begins_itself outputs

taking_keeps : (e : Evaluator) (whose : Party) (count : ℕ) → (after_taking e whose count).outputs ≡ e.outputs
taking_keeps e party.Garbler count = refl
taking_keeps e party.Evaluator count = refl

length-next_labels : (count : ℕ) (left : List ℕ) → length (next_labels count left) ≡ count
length-next_labels zero left = refl
length-next_labels (suc count) left = ap suc (length-next_labels count _)

length-first_labels : (count : ℕ) (labels : List Label) → length (first_labels count labels) ≡ count
length-first_labels zero labels = refl
length-first_labels (suc count) [] = ap suc (length-first_labels count [])
length-first_labels (suc count) (label ∷ labels) = ap suc (length-first_labels count labels)

length-taken_labels : (e : Evaluator) (whose : Party) (count : ℕ) → length (taken_labels e whose count) ≡ count
length-taken_labels e party.Garbler count = length-next_labels count e.left
length-taken_labels e party.Evaluator count = length-first_labels count e.labels

output_grows : (s : Evaluating) (wires : List Label) → Grows eval_rules s (eval_rules.output s wires)
output_grows s wires = record {
  outputs = kept_begins (nat_lt (length s.evaluator.outputs) s.room) s.evaluator.outputs (number (decoded_bits wires s.evaluator.left));
  streams = λ k. begins_itself {X = ℕ} [];
}

behind_grows : (from to after : Evaluating) (f : DriverFault) → StopsAt from to f after → Grows eval_rules after to
behind_grows from to after f stops = record {
  outputs = (stops.behind.0, stops.behind.1 ∙ ap (λ (xs : List ℕ). xs ++ stops.behind.0) (sym stops.outputs));
  streams = λ k. begins_itself {X = ℕ} [];
}

pub evaluating_is_lawful : AreLawful eval_rules
evaluating_is_lawful = record {
  some_bytes = omega arith;
  few_bytes = omega arith;
  packed = λ wire known. known;
  unpacked = λ wire known. refl;
  zeros = refl;
  inputs = λ s whose count. length-taken_labels s.evaluator whose count;
  and_grows = λ s a b. same_grows s ((eval_rules.and s a b).0) refl;
  input_grows = λ s whose count. same_grows s ((eval_rules.input s whose count).0) (taking_keeps s.evaluator whose count);
  output_grows = output_grows;
  finish_grows = λ s. same_grows s (eval_rules.finish s) refl;
  stopped_grows = λ from to after f stops. (same_grows from after stops.outputs, behind_grows from to after f stops);
  causes = λ from to after f stops. elim stops.cause [ inl at_source ↦ inl (inl at_source.0) | inr due ↦ inr due ];
}
