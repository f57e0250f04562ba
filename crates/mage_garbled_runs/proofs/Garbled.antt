-- Garblers and evaluators give wires, and so the laws of carried programs hold of them.
use Rattle.std.proofs.Common.{◌≡◌, ◌+◌, ℕ, zero, suc, Bool, true, false, ◌&&◌, List, [], ◌∷◌, ◌++◌, length, drop, replicate, nat_eq, refl, sym, ap, ◌∙◌, arith}
use Rattle.std.proofs.lemmas.Bool.{eqb-true, eq-eqb}
use Rattle.std.proofs.lemmas.List.{length-take-le, length-append}
use Rattle.std.specs.List.{list_all}
use Rattle.mage_base.specs.Sink.{SinkTold}
use Rattle.mage_base.specs.Source.{SourceTold}
use Rattle.mage_instr.specs.declared.directive.MemProgram.{MemProgram}
use Rattle.mage_instr.specs.declared.party.Party.{Party}
use Rattle.mage_instr.specs.declared.party.Party.TheVariants as party
use Rattle.mage_label.specs.declared.labels.Label.{Label}
use Rattle.mage_label.specs.Labels.{IsWhole, xor_times, lsb}
use Rattle.mage_label.proofs.LabelLemmas.{IsWhole-blank, IsWhole-xor, IsWhole-offset_of, IsWhole-digest_label, IsWhole-hash_of}
use Rattle.mage_linked.specs.Emission.{program_of}
use Rattle.mage_linked.specs.declared.emitted.Emitted.{Emitted}
use Rattle.mage_linked.proofs.EmissionLemmas.{emission_of-program_of}
use Rattle.mage_linked.proofs.LinkedLemmas.{AreLinked-below}
use Rattle.mage_halfgates.specs.HalfGates.{Tables, tables_of, and_zero, and_label, generator_half, evaluator_half, generator_tweak, evaluator_tweak, constant_zero}
use Rattle.mage_relations.specs.Unplaced.{starting_in, run_of}
use Rattle.mage_streams.specs.Garbling.{offset_in, zero_labels}
use Rattle.mage_streams.specs.Numbers.{number_after}
use Rattle.mage_streams.specs.Evaluating.{next_label, next_labels, first_labels, tables_read}
use Rattle.mage_streams.proofs.Reading.{IsWhole-generator, IsWhole-evaluator}
use Rattle.mage_garble.specs.Rule.{Garbling, garble_rules}
use Rattle.mage_garble.specs.Lawful.{garbling_is_lawful}
use Rattle.mage_garble.proofs.Saying.{says_the_stream}
use Rattle.mage_eval.specs.Rule.{Evaluating, eval_rules}
use Rattle.mage_eval.specs.Lawful.{evaluating_is_lawful}
use Rattle.mage_eval.proofs.PuttingOut.{puts_out_the_decoded}
use Rattle.mage_carried.specs.Wires.{AreWires, CallsGiveWires}
use Rattle.mage_carried.specs.Laws.{CanRun, Carries, RunsAsUnplaced}
use Rattle.mage_carried.proofs.Wired.{makes_wires}
use Rattle.mage_carried.proofs.Carried.{carried_runs}
use Rattle.mage_garbled_runs.specs.Runs.{garblers, evaluators, Garbles, Decodes, AreWhole}

pub whole_times : (a b : Label) (u : Bool) → IsWhole a → IsWhole b → IsWhole (xor_times a u b)
whole_times a b true h k = IsWhole-xor a b h k
whole_times a b false h k = h

-- ---- garbling

whole_constant : (offset : Label) (bit : Bool) → IsWhole offset → IsWhole (constant_zero offset bit)
whole_constant offset true h = h
whole_constant offset false h = IsWhole-blank

whole_half : (worker gate : ℕ) (tables : Tables) (a : Label) → IsWhole tables.generator → IsWhole (generator_half worker gate tables a)
unfolding generator_half
whole_half worker gate tables a h = whole_times _ _ (lsb a) (IsWhole-hash_of a worker (generator_tweak gate)) h

whole_other : (worker gate : ℕ) (tables : Tables) (a b : Label) → IsWhole tables.evaluator → IsWhole a →
    IsWhole (evaluator_half worker gate tables a b)
unfolding evaluator_half
whole_other worker gate tables a b h k =
    whole_times _ _ (lsb b) (IsWhole-hash_of b worker (evaluator_tweak gate)) (IsWhole-xor _ _ h k)

whole_and : (worker gate : ℕ) (tables : Tables) (a b : Label) → IsWhole tables.generator → IsWhole tables.evaluator → IsWhole a →
    IsWhole (and_label worker gate tables a b)
whole_and worker gate tables a b g e h =
    IsWhole-xor _ _ (whole_half worker gate tables a g) (whole_other worker gate tables a b e h)

whole_inputs : (seed : List ℕ) (worker first count : ℕ) → AreWires garble_rules (zero_labels seed worker first count)
whole_inputs seed worker first zero = tt
whole_inputs seed worker first (suc count) =
    (IsWhole-digest_label _, whole_inputs seed worker (number_after first 1) count)

pub garbler_gives_wires : CallsGiveWires garble_rules (λ s. true)
garbler_gives_wires = record {
  constant = λ s bit h. whole_constant (offset_in s.garbler) bit (IsWhole-offset_of s.garbler.seed);
  xor = IsWhole-xor;
  not = λ s a f h. IsWhole-xor a (offset_in s.garbler) h (IsWhole-offset_of s.garbler.seed);
  and = λ s a b f h k. (whole_zero (offset_in s.garbler) s.garbler.worker s.garbler.gates a b (IsWhole-offset_of s.garbler.seed) h, refl);
  input = λ s whose count f. (whole_inputs s.garbler.seed s.garbler.worker s.garbler.wires count, refl);
  output = λ s wires f are. refl;
}
  where
    whole_zero : (offset : Label) (worker gate : ℕ) (a b : Label) → IsWhole offset → IsWhole a →
        IsWhole (and_zero offset worker gate a b)
    whole_zero offset worker gate a b h k =
        whole_and worker gate (tables_of offset worker gate a b) a b (IsWhole-generator offset worker gate a b h)
        (IsWhole-evaluator offset worker gate a b k) k

pub carried_garbles : (count : ℕ) (emitted : List Emitted) (plan : MemProgram) (seed : List ℕ) (garbler : ℕ → List ℕ)
    (sinks : ℕ → SinkTold) → CanRun count emitted → Carries count emitted plan → Garbles count emitted plan seed garbler sinks
carried_garbles count emitted plan seed garbler sinks can carried = record {
  turns = run.turns;
  ends = run.ends;
  stream = λ n within.
      ap (λ (s : Garbling). s.sending.stream) (run.did n within).driver
      ∙ ap (λ es. (garble_rules.finish ((run_of garble_rules (starting_in (garblers seed garbler sinks)) es).states n)).sending.stream)
      (sym (emission_of-program_of count emitted (AreLinked-below count emitted can.linked)))
      ∙ says_the_stream (program_of count emitted) seed garbler sinks n;
}
  where
    run : RunsAsUnplaced garble_rules emitted (garblers seed garbler sinks) count plan
    run = carried_runs garble_rules garbling_is_lawful (λ s. true)
        (makes_wires garble_rules garbling_is_lawful (λ s. true) garbler_gives_wires) plan count emitted
        (garblers seed garbler sinks) (λ n. refl) can carried

-- ---- evaluating

abbrev all_whole : List Label → Bool
all_whole labels = list_all (λ (label : Label). nat_eq (length label.bytes) 16) labels

abbrev pub labels_whole : Evaluating → Bool
labels_whole s = all_whole s.evaluator.labels

whole_next : (left : List ℕ) → IsWhole (next_label left)
whole_next left = length-take-le 16 (left ++ replicate 16 0)
    (let zeros : List ℕ = replicate 16 0 in
    let b : length zeros ≡ 16 = refl in
    let a : length (left ++ zeros) ≡ length left + length zeros = length-append left zeros in omega arith)

whole_nexts : (count : ℕ) (left : List ℕ) → AreWires eval_rules (next_labels count left)
whole_nexts zero left = tt
whole_nexts (suc count) left = (whole_next left, whole_nexts count (drop 16 left))

both_so : (a b : Bool) → (a && b) ≡ true → (a ≡ true) × (b ≡ true)
both_so true b e = (refl, e)
both_so false b e = absurd cc

whole_firsts : (count : ℕ) (labels : List Label) → all_whole labels ≡ true → AreWires eval_rules (first_labels count labels)
whole_firsts zero labels h = tt
whole_firsts (suc count) [] h = (IsWhole-blank, whole_firsts count [] h)
whole_firsts (suc count) (label ∷ labels) h =
    let b = both_so (nat_eq (length label.bytes) 16) (all_whole labels) h in
    (eqb-true (length label.bytes) 16 b.0, whole_firsts count labels b.1)

whole_rest : (count : ℕ) (labels : List Label) → all_whole labels ≡ true → all_whole (drop count labels) ≡ true
whole_rest zero labels h = h
whole_rest (suc count) [] h = refl
whole_rest (suc count) (label ∷ labels) h =
    whole_rest count labels (both_so (nat_eq (length label.bytes) 16) (all_whole labels) h).1

pub evaluator_gives_wires : CallsGiveWires eval_rules labels_whole
evaluator_gives_wires = record {
  constant = λ s bit h. IsWhole-blank;
  xor = IsWhole-xor;
  not = λ s a f h. h;
  and = λ s a b f h k. (
    whole_and s.evaluator.worker s.evaluator.gates (tables_read s.evaluator.left) a b
        (whole_next s.evaluator.left) (whole_next (drop 16 s.evaluator.left)) h,
    f,
  );
  input = whole_taken;
  output = λ s wires f are. f;
}
  where
    whole_taken : (s : Evaluating) (whose : Party) (count : ℕ) → labels_whole s ≡ true →
        AreWires eval_rules ((eval_rules.input s whose count).1) × (labels_whole ((eval_rules.input s whose count).0) ≡ true)
    whole_taken s party.Garbler count f = (whole_nexts count s.evaluator.left, f)
    whole_taken s party.Evaluator count f = (whole_firsts count s.evaluator.labels f, whole_rest count s.evaluator.labels f)

pub whole_test : (labels : List Label) → AreWhole labels → all_whole labels ≡ true
whole_test [] h = refl
whole_test (label ∷ labels) h =
    ap (λ b. b && all_whole labels) (eq-eqb (length label.bytes) 16 h.0) ∙ whole_test labels h.1

pub carried_decodes : (count : ℕ) (emitted : List Emitted) (plan : MemProgram) (labels : ℕ → List Label) (rooms : ℕ → ℕ)
    (sources : ℕ → SourceTold) → ((n : ℕ) → AreWhole (labels n)) → CanRun count emitted → Carries count emitted plan →
    Decodes count emitted plan labels rooms sources
carried_decodes count emitted plan labels rooms sources whole can carried = record {
  turns = run.turns;
  ends = run.ends;
  outputs = λ n within.
      ap (λ (s : Evaluating). s.evaluator.outputs) (run.did n within).driver
      ∙ ap (λ es. ((run_of eval_rules (starting_in (evaluators labels rooms sources)) es).states n).evaluator.outputs)
      (sym (emission_of-program_of count emitted (AreLinked-below count emitted can.linked)))
      ∙ puts_out_the_decoded (program_of count emitted) labels rooms sources n;
}
  where
    run : RunsAsUnplaced eval_rules emitted (evaluators labels rooms sources) count plan
    run = carried_runs eval_rules evaluating_is_lawful labels_whole
        (makes_wires eval_rules evaluating_is_lawful labels_whole evaluator_gives_wires) plan count emitted
        (evaluators labels rooms sources) (λ n. whole_test (labels n) (whole n)) can carried
