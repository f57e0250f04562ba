-- Nothing is wrong with streams that were garbled.
use Rattle.std.proofs.Common.{◌≡◌, ◌≤◌, ◌+◌, ◌*◌, ◌++◌, ℕ, Bool, true, false, cond, nat_le, List, [], ◌∷◌, length, map, Option, None, Some, refl, sym, ap, ap₂, ◌∙◌, arith, length-append}
use Rattle.std.proofs.lemmas.Bool.Decides.{nat_tests}
use Rattle.std.proofs.lemmas.List.{append-nil}
use Rattle.mage_base.specs.Faults.{count_after}
use Rattle.mage_instr.specs.declared.fault.DriverFault.{DriverFault}
use Rattle.mage_instr.specs.declared.instr.Program.{Program}
use Rattle.mage_instr.specs.declared.party.Party.{Party}
use Rattle.mage_instr.specs.declared.party.Party.TheVariants as party
use Rattle.mage_label.specs.declared.labels.Label.{Label}
use Rattle.mage_label.specs.Labels.{lsb, offset_of}
use Rattle.mage_label.proofs.LabelLemmas.{IsWhole-offset_of}
use Rattle.mage_linked.specs.Emission.{emission_of}
use Rattle.mage_driver.specs.Calls.{Call, And, Input, Output, call_of}
use Rattle.mage_relations.specs.Each.{Each}
use Rattle.mage_relations.specs.Unplaced.{Unplaced, starting_in, run_of}
use Rattle.mage_relations.proofs.Keeping.{KeepsCalls}
use Rattle.mage_relations.proofs.Runs.{Related, keeps_run}
use Rattle.mage_streams.specs.Numbers.{next_value}
use Rattle.mage_streams.specs.Garbling.{Garbler, garbling, colour_of, next_tables, table_bytes, said_at, said_at_input, after_input, after_and, inputs_of, next_and}
use Rattle.mage_streams.specs.Evaluating.{Evaluator, label_of_and, taken_labels}
use Rattle.mage_streams.specs.Reckoning.{Reckoner, reckoning, after_value, bits_taken}
use Rattle.mage_streams.specs.Streams.{new_garbler, new_evaluator, new_reckoner, garbler_calls, garbled_stream, dealt_at, dealt_labels}
use Rattle.mage_streams.proofs.Reading.{Active, length-given, length-tables}
use Rattle.mage_streams.proofs.Halves.{Meets, halves_keep}
use Rattle.mage_eval.specs.Reading.{sooner, wrong_piece, wrong_at_colours, wrong_at_end, short_at}
use Rattle.mage_eval.specs.Rule.{Evaluating, eval_rules, wrong_at_input}

-- a piece that is there
piece_there : (n at : ℕ) (xs ys left : List ℕ) → length xs ≡ n → left ≡ xs ++ ys → wrong_piece n at left ≡ None
piece_there n at xs ys left long is =
    let many : length left ≡ length xs + length ys = ap length is ∙ length-append xs ys in
    let enough : n ≤ length left = omega (arith, many, long) in
    let test : nat_le n (length left) ≡ true = grind (arith, nat_tests) in
    ap (λ (b : Bool). cond b None (Some (short_at at left))) test

-- the colours of wires
colour_front : (b : Bool) (wire : Label) (wires : List Label) (at : ℕ) (left : List ℕ) →
    wrong_at_colours (wire ∷ wires) at (cond b 1 0 ∷ left) ≡ wrong_at_colours wires (count_after at 1) left
colour_front true wire wires at left = refl
colour_front false wire wires at left = refl

colours_there : (seed : List ℕ) (values : List Bool) (zeros wires : List Label) (at : ℕ) (others : List ℕ) → Each (Active seed) values zeros wires →
    wrong_at_colours wires at (map colour_of zeros ++ others) ≡ None
colours_there seed [] [] [] at others e = refl
colours_there seed [] [] (x ∷ wires) at others e = absurd e
colours_there seed [] (z ∷ zeros) [] at others e = absurd e
colours_there seed [] (z ∷ zeros) (x ∷ wires) at others e = absurd e
colours_there seed (v ∷ values) [] [] at others e = absurd e
colours_there seed (v ∷ values) [] (x ∷ wires) at others e = absurd e
colours_there seed (v ∷ values) (z ∷ zeros) [] at others e = absurd e
colours_there seed (v ∷ values) (z ∷ zeros) (x ∷ wires) at others e =
    colour_front (lsb z) x wires at (map colour_of zeros ++ others) ∙ colours_there seed values zeros wires (count_after at 1) others e.1

-- nothing was wrong, and nothing is
still_right : (was now : Option DriverFault) → was ≡ None → now ≡ None → sooner was now ≡ None
still_right was now e f = ap₂ sooner e f

-- a driver, whatever it kept of its outputs, that has left what its garbler will say, where nothing was wrong
record IsClean (seed : List ℕ) (r : Reckoner) (g : Garbler) (d : Evaluating) (rest : List (Call Garbler Label)) : Type 0 where
  pub meets : Meets seed r g (record d.evaluator { outputs = r.outputs }) rest
  pub right : d.wrong ≡ None

module _ (seed : List ℕ) where
  ands : (r : Reckoner) (g : Garbler) (d : Evaluating) (rest : List (Call Garbler Label)) (u v : Bool) (a b x y : Label) →
      IsClean seed r g d (call_of garbling g (And a b) ∷ rest) → Active seed u a x → Active seed v b y →
      IsClean seed ((reckoning.and r u v).0) (after_and g) ((eval_rules.and d x y).0) rest
      × Active seed ((reckoning.and r u v).1) (next_and g a b) (label_of_and d.evaluator x y)
  ands r g d rest u v a b x y h at at' =
      let kept = (halves_keep seed).and r g (record d.evaluator { outputs = r.outputs }) rest u v a b x y h.meets at at' in (
        record {
          meets = kept.0;
          right = still_right d.wrong (wrong_piece 32 d.at d.evaluator.left) h.right
              (piece_there 32 d.at (table_bytes (next_tables g a b)) (said_at rest) d.evaluator.left
              (length-tables (offset_of g.seed) g.worker g.gates a b (IsWhole-offset_of g.seed) at.whole) h.meets.left);
        },
        kept.1,
      )

  inputs : (r : Reckoner) (g : Garbler) (d : Evaluating) (rest : List (Call Garbler Label)) (whose : Party) (count : ℕ) →
      IsClean seed r g d (call_of garbling g (Input whose count) ∷ rest) →
      IsClean seed (after_value r whose) (after_input g whose count) ((eval_rules.input d whose count).0) rest
      × Each (Active seed) (bits_taken r whose count) (inputs_of g count) (taken_labels d.evaluator whose count)
  inputs r g d rest party.Garbler count h =
      let kept = (halves_keep seed).input r g (record d.evaluator { outputs = r.outputs }) rest party.Garbler count h.meets in (
        record {
          meets = kept.0;
          right = still_right d.wrong (wrong_at_input d party.Garbler count) h.right
              (piece_there (16 * count) d.at (said_at_input g party.Garbler count) (said_at rest) d.evaluator.left
              (length-given g.seed g.worker g.wires count (next_value g.values)) h.meets.left);
        },
        kept.1,
      )
  inputs r g d rest party.Evaluator count h =
      let kept = (halves_keep seed).input r g (record d.evaluator { outputs = r.outputs }) rest party.Evaluator count h.meets in (
        record { meets = kept.0; right = still_right d.wrong (wrong_at_input d party.Evaluator count) h.right refl },
        kept.1,
      )

  outputs : (r : Reckoner) (g : Garbler) (d : Evaluating) (rest : List (Call Garbler Label)) (us : List Bool) (zs xs : List Label) →
      IsClean seed r g d (call_of garbling g (Output zs) ∷ rest) → Each (Active seed) us zs xs →
      IsClean seed (reckoning.output r us) g (eval_rules.output d xs) rest
  outputs r g d rest us zs xs h each =
      let kept = (halves_keep seed).output r g (record d.evaluator { outputs = r.outputs }) rest us zs xs h.meets each in record {
        meets = record {
          of_seed = kept.of_seed;
          workers = kept.workers;
          gates = kept.gates;
          values = kept.values;
          left = kept.left;
          labels = kept.labels;
          outputs = refl;
        };
        right = still_right d.wrong (wrong_at_colours xs d.at d.evaluator.left) h.right
            (ap (wrong_at_colours xs d.at) h.meets.left ∙ colours_there seed us zs xs d.at (said_at rest) each);
      }

  clean_keeps : KeepsCalls reckoning garbling eval_rules (IsClean seed) (Active seed)
  clean_keeps = record {
    constant = λ r g d rest bit h. (halves_keep seed).constant r g (record d.evaluator { outputs = r.outputs }) rest bit h.meets;
    xor = λ u v a b x y at at'. (halves_keep seed).xor u v a b x y at at';
    not = λ r g d rest u a x h at. (halves_keep seed).not r g (record d.evaluator { outputs = r.outputs }) rest u a x h.meets at;
    and = λ r g d rest u v a b x y h at at'. ands r g d rest u v a b x y h at at';
    input = λ r g d rest whose count h. inputs r g d rest whose count h;
    output = λ r g d rest us zs xs h each. outputs r g d rest us zs xs h each;
  }

-- drivers with the labels that are dealt, over the garbled streams
pub nothing_wrong : (program : Program) (seed : List ℕ) (garbler evaluator : ℕ → List ℕ) (states : ℕ → Evaluating) →
    ((w : ℕ) → (states w).evaluator ≡ new_evaluator w (dealt_labels program seed garbler evaluator w) (garbled_stream program seed garbler w)) →
    ((w : ℕ) → (states w).wrong ≡ None) → (worker : ℕ) →
    (eval_rules.finish ((run_of eval_rules (starting_in states) (emission_of program)).states worker)).wrong ≡ None
nothing_wrong program seed garbler evaluator states are right worker =
    let r : Unplaced Reckoner Bool = starting_in (λ w. new_reckoner (garbler w) (evaluator w)) in
    let g : Unplaced Garbler Label = starting_in (λ w. new_garbler seed w (garbler w)) in
    let d : Unplaced Evaluating Label = starting_in states in
    let calls : ℕ → List (Call Garbler Label) = garbler_calls program seed garbler in
    let related : Related reckoning garbling eval_rules (λ w. IsClean seed) (Active seed) (λ w. clean_keeps seed) r g d (λ w. calls w ++ []) = record {
      states = λ w. record {
        meets = record {
          of_seed = refl;
          workers = ap (λ (e : Evaluator). e.worker) (are w);
          gates = ap (λ (e : Evaluator). e.gates) (are w);
          values = refl;
          left = ap (λ (e : Evaluator). e.left) (are w) ∙ ap said_at (sym (append-nil (calls w)));
          labels = ap (λ (e : Evaluator). e.labels) (are w) ∙ ap (λ (xs : List (Call Garbler Label)). dealt_at xs (evaluator w)) (sym (append-nil (calls w)));
          outputs = refl;
        };
        right = right w;
      };
      values = λ w. tt;
      sent = λ v w. tt;
    } in
    let end = (keeps_run reckoning garbling eval_rules (λ w. IsClean seed) (Active seed) (λ w. clean_keeps seed) (emission_of program) r g d (λ w. []) related).states worker in
    let last : Evaluating = (run_of eval_rules d (emission_of program)).states worker in
    still_right last.wrong (wrong_at_end last.at last.evaluator.left) end.right (ap (wrong_at_end last.at) end.meets.left)
