-- How many values are decoded.
use Rattle.std.proofs.Common.{◌≡◌, ◌<◌, ◌≤◌, ◌+◌, ◌^◌, ℕ, zero, suc, List, [], ◌∷◌, ◌++◌, length, take, refl, sym, ap, ◌∙◌, arith, length-append, slice_index, true, None}
use Rattle.std.proofs.lemmas.Nat.{pow_pos}
use Rattle.mage_bits.specs.Bits.{number}
use Rattle.mage_instr.specs.declared.instr.Program.{Program}
use Rattle.mage_instr.specs.declared.party.Party.{Party}
use Rattle.mage_instr.specs.declared.party.Party.TheVariants as party
use Rattle.mage_label.specs.declared.labels.Label.{Label}
use Rattle.mage_linked.specs.declared.emitted.Emitted.{Emitted}
use Rattle.mage_linked.specs.Emission.{program_of, own_instrs, emission_of}
use Rattle.mage_linked.specs.Workers.{list_at}
use Rattle.mage_meaning.specs.Given.{Given}
use Rattle.mage_relations.specs.Each.{Each}
use Rattle.mage_relations.specs.Unplaced.{Unplaced, starting_in, calls_of}
use Rattle.mage_relations.proofs.Keeping.{KeepsCalls}
use Rattle.mage_relations.proofs.Runs.{Related, keeps_run}
use Rattle.mage_streams.specs.Evaluating.{Evaluator, evaluating, after_taking, taken_labels, after_output, decoded_bits}
use Rattle.mage_streams.specs.Streams.{decoded_outputs, new_evaluator, plain_outputs}
use Rattle.mage_eval.specs.Lawful.{evaluating_is_lawful}
use Rattle.mage_carried.specs.Laws.{CanRun}
use Rattle.mage_plain_runs.specs.Plainly.{Fit, outputs_in}
use Rattle.mage_garbled_runs.specs.Meant.{CanRunOn, labels_of, streams_of}
use Rattle.mage_garbled_runs.proofs.Meant.{decoded_is_meant, kept_is_meant}

-- as many values were put out by both
record SameCount (one other : Evaluator) : Type 0 where
  same : length one.outputs ≡ length other.outputs

abbrev Any : Label → Label → Label → Type 0
Any a b c = Unit {0}

any_each : (xs ys zs : List Label) → length xs ≡ length ys → length zs ≡ length ys → Each Any xs ys zs
any_each [] [] [] e f = tt
any_each [] [] (z ∷ zs) e f = absurd (omega (arith, f))
any_each [] (y ∷ ys) zs e f = absurd (omega (arith, e))
any_each (x ∷ xs) [] zs e f = absurd (omega (arith, e))
any_each (x ∷ xs) (y ∷ ys) [] e f = absurd (omega (arith, f))
any_each (x ∷ xs) (y ∷ ys) (z ∷ zs) e f = (tt, any_each xs ys zs (omega (arith, e)) (omega (arith, f)))

taken_count : (e : Evaluator) (whose : Party) (count : ℕ) → length (taken_labels e whose count) ≡ count
taken_count e whose count = evaluating_is_lawful.inputs (record { evaluator = e; at = 0; steady = true; room = 0; wrong = None }) whose count

same_taking : (s t : Evaluator) (whose : Party) (count : ℕ) → SameCount s t → SameCount (after_taking s whose count) (after_taking t whose count)
same_taking s t party.Garbler count h = record { same = h.same }
same_taking s t party.Evaluator count h = record { same = h.same }

same_output : (s t : Evaluator) (xs ys : List Label) → SameCount s t → SameCount (after_output s xs) (after_output t ys)
same_output s t xs ys h = record {
  same = length-append s.outputs (number (decoded_bits xs s.left) ∷ []) ∙ ap (λ (n : ℕ). n + 1) h.same
      ∙ sym (length-append t.outputs (number (decoded_bits ys t.left) ∷ []));
}

counts_keep : KeepsCalls evaluating evaluating evaluating (λ s t u rest. SameCount s t) Any
counts_keep = record {
  constant = λ s t u rest bit h. tt;
  xor = λ a a' b b' c c' h k. tt;
  not = λ s t u rest a b c h k. tt;
  and = λ s t u rest a a' b b' c c' h k k'. (record { same = h.same }, tt);
  input = λ s t u rest whose count h. (
    same_taking s t whose count h,
    any_each (taken_labels s whose count) (taken_labels t whose count) (taken_labels u whose count)
        (taken_count s whose count ∙ sym (taken_count t whose count)) (taken_count u whose count ∙ sym (taken_count t whose count)),
  );
  output = λ s t u rest xs ys zs h each. same_output s t xs ys h;
}

-- the labels and streams make no difference to how many values are decoded
same_decoded : (program : Program) (labels labels' : ℕ → List Label) (streams streams' : ℕ → List ℕ) (n : ℕ) →
    length (decoded_outputs program labels streams n) ≡ length (decoded_outputs program labels' streams' n)
same_decoded program labels labels' streams streams' n =
    let r : Unplaced Evaluator Label = starting_in (λ w. new_evaluator w (labels w) (streams w)) in
    let t : Unplaced Evaluator Label = starting_in (λ w. new_evaluator w (labels' w) (streams' w)) in
    let es : List Emitted = emission_of program in
    let related : Related evaluating evaluating evaluating (λ w s t u rest. SameCount s t) Any (λ w. counts_keep) r t t
    (λ w. calls_of evaluating w t es ++ []) = record {
      states = λ w. record { same = refl };
      values = λ w. tt;
      sent = λ v w. tt;
    } in
    ((keeps_run evaluating evaluating evaluating (λ w s t u rest. SameCount s t) Any (λ w. counts_keep) es r t t (λ w. []) related).states n).same

-- ---- at most as many as the instructions put out

abbrev none_given : Given
none_given = record { garbler = []; evaluator = [] }

some_power : (n : ℕ) → 0 < 2 ^ n
some_power n = pow_pos n

nothing_fits : (widths : List ℕ) → Fit [] widths
nothing_fits widths k h = some_power (slice_index widths k)

can_on_none : (count : ℕ) (emitted : List Emitted) → CanRun count emitted → CanRunOn count emitted none_given
can_on_none count emitted can = record {
  runs = can;
  fit = λ n within. record { garbler_fits = nothing_fits _; evaluator_fits = nothing_fits _ };
}

short_take : {X : Type 0} (n : ℕ) (xs : List X) → length (take n xs) ≤ n
short_take zero xs = omega arith
short_take (suc n) [] = omega arith
short_take (suc n) (x ∷ xs) = let rest = short_take n xs in omega (arith, rest)

pub decoded_few : (count : ℕ) (emitted : List Emitted) (labels : ℕ → List Label) (streams : ℕ → List ℕ) → CanRun count emitted → (n : ℕ) → n < count →
    length (decoded_outputs (program_of count emitted) labels streams n) ≤ outputs_in (own_instrs emitted n)
decoded_few count emitted labels streams can n within =
    let on = can_on_none count emitted can in
    let rooms : ℕ → ℕ = λ m. outputs_in (own_instrs emitted m) in
    let same = same_decoded (program_of count emitted) labels (labels_of count emitted none_given []) streams (streams_of count emitted none_given []) n in
    let meant = ap length (decoded_is_meant count emitted none_given [] on n within) in
    let kept = ap length (kept_is_meant count emitted none_given on rooms (λ m h. omega arith) n within) in
    let few = short_take (rooms n) (plain_outputs (program_of count emitted) (list_at none_given.garbler) (list_at none_given.evaluator) n) in
    omega (arith, same, meant, kept, few)
