-- The rules of the garbling driver are lawful.
use Rattle.std.proofs.Common.{◌≡◌, ◌∙◌, ℕ, zero, suc, ◌+◌, List, [], ◌++◌, Bool, true, false, cond, length, nat_le, take, drop, refl, sym, ap, inl, inr, append_assoc, arith}
use Rattle.std.proofs.lemmas.List.{append-nil, take-append-drop}
use Rattle.mage_instr.specs.declared.fault.DriverFault.{DriverFault}
use Rattle.mage_instr.specs.declared.party.Party.{Party}
use Rattle.mage_instr.specs.declared.party.Party.TheVariants as party
use Rattle.mage_driver.specs.Rules.{Begins, Grows, AreLawful}
use Rattle.mage_streams.specs.Numbers.{number_after}
use Rattle.mage_streams.specs.Garbling.{zero_labels}
use Rattle.mage_garble.specs.Sending.{Sending, flushed, saying, most_waiting}
use Rattle.mage_garble.specs.Rule.{Garbling, garble_rules, sending_at_input, stream_of, StopsAt}

begins_itself : {X : Type 0} (xs : List X) → Begins xs xs
begins_itself xs = ([], sym (append-nil xs))

-- the stream has grown
grows : (from to : Garbling) → Begins from.sending.stream to.sending.stream → Grows garble_rules from to
grows from to begins = record { outputs = begins_itself {X = ℕ} []; streams = each }
  where
    each : (k : ℕ) → Begins (stream_of from k) (stream_of to k)
    each zero = begins
    each (suc k) = begins_itself {X = ℕ} []

saying_begins : (s : Sending) (bytes : List ℕ) → Begins s.stream ((saying s bytes).stream)
saying_begins s bytes = by_test (nat_le (length s.waiting + length bytes) most_waiting)
  where
    by_test : (test : Bool) → Begins s.stream ((cond test s (flushed s)).stream)
    by_test true = begins_itself s.stream
    by_test false = (s.waiting, refl)

input_begins : (s : Garbling) (whose : Party) (count : ℕ) → Begins s.sending.stream ((sending_at_input s whose count).stream)
input_begins s party.Garbler count = saying_begins s.sending _
input_begins s party.Evaluator count = begins_itself s.sending.stream

length-zero_labels : (seed : List ℕ) (worker first count : ℕ) → length (zero_labels seed worker first count) ≡ count
length-zero_labels seed worker first zero = refl
length-zero_labels seed worker first (suc count) = ap suc (length-zero_labels seed worker (number_after first 1) count)

stopped : (from to after : Garbling) (f : DriverFault) → StopsAt from to f after → Grows garble_rules from after × Grows garble_rules after to
stopped from to after f stops =
    let n : ℕ = stops.failed.front.0 in
    let ws : List ℕ = from.sending.waiting in
    let whole : (from.sending.stream ++ take n ws) ++ drop n ws ≡ from.sending.stream ++ ws =
    append_assoc from.sending.stream (take n ws) (drop n ws) ∙ ap (λ (xs : List ℕ). from.sending.stream ++ xs) (take-append-drop n ws) in (
      grows from after (take n ws, stops.failed.front.1),
      grows after to (drop n ws, stops.puts ∙ sym whole ∙ ap (λ (xs : List ℕ). xs ++ drop n ws) (sym stops.failed.front.1)),
    )

pub garbling_is_lawful : AreLawful garble_rules
garbling_is_lawful = record {
  some_bytes = omega arith;
  few_bytes = omega arith;
  packed = λ wire known. known;
  unpacked = λ wire known. refl;
  zeros = refl;
  inputs = λ s whose count. length-zero_labels s.garbler.seed s.garbler.worker s.garbler.wires count;
  and_grows = λ s a b. grows s ((garble_rules.and s a b).0) (saying_begins s.sending _);
  input_grows = λ s whose count. grows s ((garble_rules.input s whose count).0) (input_begins s whose count);
  output_grows = λ s wires. grows s (garble_rules.output s wires) (saying_begins s.sending _);
  finish_grows = λ s. grows s (garble_rules.finish s) (s.sending.waiting, refl);
  stopped_grows = stopped;
  causes = λ from to after f stops. inl (inr stops.sink);
}
