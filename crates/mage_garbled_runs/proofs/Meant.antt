-- What is decoded from a program's streams and dealt labels is what the program means.
use Rattle.std.proofs.Common.{◌≡◌, ◌≤◌, ◌<◌, ◌+◌, ℕ, zero, suc, Bool, true, false, not, ◌&&◌, List, [], ◌∷◌, ◌++◌, length, take, drop, unwrap_or, refl, sym, ap, ap₂, subst, ◌∙◌, take_all, arith}
use Rattle.std.proofs.Math.Path.{fun_ext}
use Rattle.std.specs.Bool.{xor as xor_bits}
use Rattle.mage_base.specs.Source.{SourceTold}
use Rattle.mage_bits.specs.Bits.{bits, number}
use Rattle.mage_instr.specs.declared.directive.MemProgram.{MemProgram}
use Rattle.mage_instr.specs.declared.party.Party.{Party}
use Rattle.mage_instr.specs.declared.party.Party.TheVariants as party
use Rattle.mage_label.specs.declared.labels.Label.{Label}
use Rattle.mage_label.specs.Labels.{IsWhole}
use Rattle.mage_label.proofs.LabelLemmas.{IsWhole-offset_of, IsWhole-digest_label}
use Rattle.mage_linked.specs.Emission.{own_instrs, program_of, emission_of}
use Rattle.mage_linked.specs.Workers.{list_at}
use Rattle.mage_linked.specs.declared.emitted.Emitted.{Emitted}
use Rattle.mage_linked.proofs.EmissionLemmas.{emission_of-program_of}
use Rattle.mage_linked.proofs.LinkedLemmas.{AreLinked-below}
use Rattle.mage_driver.specs.Calls.{Call, Ask, And, Input, Output, Finish}
use Rattle.mage_meaning.specs.Given.{Given}
use Rattle.mage_meaning.specs.Means.{means_of}
use Rattle.mage_relations.specs.Each.{Each}
use Rattle.mage_relations.specs.Unplaced.{Unplaced, starting_in, run_of, calls_of}
use Rattle.mage_relations.proofs.EachLemmas.{Same, each_same, same_lists}
use Rattle.mage_relations.proofs.Keeping.{KeepsCalls}
use Rattle.mage_relations.proofs.Runs.{Related, keeps_run}
use Rattle.mage_streams.specs.Numbers.{next_value, number_after}
use Rattle.mage_streams.specs.Garbling.{Garbler, offset_in, zero_labels, active_labels}
use Rattle.mage_streams.specs.Reckoning.{Reckoner, reckoning, after_value, bits_taken}
use Rattle.mage_streams.specs.Streams.{new_reckoner, garbler_calls, plain_outputs, decoded_outputs, dealt_at, dealt_for, values_behind}
use Rattle.mage_streams.proofs.Decoded.{decoding_gives_the_value}
use Rattle.mage_plain.specs.Plain.{Plain, plain_rules, differ, next_of, taken_in}
use Rattle.mage_eval.specs.Rule.{kept}
use Rattle.mage_eval.proofs.PuttingOut.{kept_take}
use Rattle.mage_carried.specs.Laws.{Carries}
use Rattle.mage_plain_runs.specs.Plainly.{CanRunPlainly, outputs_in, unplaced_outputs}
use Rattle.mage_plain_runs.proofs.Carrying.{unplaced_means}
use Rattle.mage_garbled_runs.specs.Runs.{AreWhole, Decodes}
use Rattle.mage_garbled_runs.specs.Meant.{CanRunOn, streams_of, labels_of, AreStreamed, EvaluatesAsMeant}
use Rattle.mage_garbled_runs.proofs.Garbled.{whole_times, carried_decodes}

-- ---- a worker that computes in plain, and the plain driver

-- the same worker twice, and a driver that keeps so many outputs
record Follows (room : ℕ) (r r' : Reckoner) (p : Plain) : Type 0 where
  pub twice : r ≡ r'
  pub rooms : p.room ≡ room
  pub garbler : p.garbler ≡ r'.garbler
  pub evaluator : p.evaluator ≡ r'.evaluator
  pub outputs : p.outputs ≡ take room r'.outputs

differ_xor : (a b : Bool) → differ a b ≡ xor_bits a b
unfolding mathlib.Core.Bool.xor
differ_xor true true = refl
differ_xor true false = refl
differ_xor false true = refl
differ_xor false false = refl

next_same : (values : List ℕ) → next_of values ≡ next_value values
next_same [] = refl
next_same (value ∷ values) = refl

module _ (room : ℕ) where
  after_input : (r r' : Reckoner) (p : Plain) (whose : Party) (count : ℕ) → Follows room r r' p →
      Follows room (after_value r whose) (after_value r' whose) ((taken_in p whose count).0)
  after_input r r' p party.Garbler count h = record {
    twice = ap (λ (q : Reckoner). after_value q party.Garbler) h.twice;
    rooms = h.rooms;
    garbler = ap (drop 1) h.garbler;
    evaluator = h.evaluator;
    outputs = h.outputs;
  }
  after_input r r' p party.Evaluator count h = record {
    twice = ap (λ (q : Reckoner). after_value q party.Evaluator) h.twice;
    rooms = h.rooms;
    garbler = h.garbler;
    evaluator = ap (drop 1) h.evaluator;
    outputs = h.outputs;
  }

  taken_same : (r' : Reckoner) (p : Plain) (whose : Party) (count : ℕ) → p.garbler ≡ r'.garbler → p.evaluator ≡ r'.evaluator →
      (taken_in p whose count).1 ≡ bits_taken r' whose count
  taken_same r' p party.Garbler count g e = ap (λ v. bits v count) (ap next_of g ∙ next_same r'.garbler)
  taken_same r' p party.Evaluator count g e = ap (λ v. bits v count) (ap next_of e ∙ next_same r'.evaluator)

  wires_in : (r r' : Reckoner) (p : Plain) (whose : Party) (count : ℕ) → Follows room r r' p →
      Each Same (bits_taken r whose count) (bits_taken r' whose count) ((taken_in p whose count).1)
  wires_in r r' p whose count h =
      subst (λ (q : Reckoner). Each Same (bits_taken q whose count) (bits_taken r' whose count) ((taken_in p whose count).1)) (sym h.twice)
      (subst (λ (xs : List Bool). Each Same (bits_taken r' whose count) (bits_taken r' whose count) xs)
      (sym (taken_same r' p whose count h.garbler h.evaluator)) (each_same (bits_taken r' whose count)))

  after_output : (r r' : Reckoner) (p : Plain) (xs ys zs : List Bool) → Follows room r r' p →
      Each Same xs ys zs → Follows room (reckoning.output r xs) (reckoning.output r' ys) (plain_rules.output p zs)
  after_output r r' p xs ys zs h each = record {
    twice = ap₂ (λ (q : Reckoner) (ws : List Bool). reckoning.output q ws) h.twice (same_lists xs ys zs each).0;
    rooms = h.rooms;
    garbler = h.garbler;
    evaluator = h.evaluator;
    outputs = ap (λ (k : ℕ). kept k p.outputs (number zs)) h.rooms
        ∙ ap₂ (λ (os : List ℕ) (ws : List Bool). kept room os (number ws)) h.outputs (same_lists xs ys zs each).1
        ∙ kept_take room r'.outputs (number ys);
  }

  following_keeps : KeepsCalls reckoning reckoning plain_rules (λ s t u rest. Follows room s t u) Same
  following_keeps = record {
    constant = λ s t u rest bit h. (refl, refl);
    xor = λ a a' b b' c c' h k. (ap₂ xor_bits h.0 k.0, ap₂ differ h.1 k.1 ∙ differ_xor b b');
    not = λ s t u rest a b c h k. (ap not k.0, ap not k.1);
    and = λ s t u rest a a' b b' c c' h k k'. (
      record {
        twice = h.twice;
        rooms = h.rooms;
        garbler = h.garbler;
        evaluator = h.evaluator;
        outputs = h.outputs;
      },
      (ap₂ (λ x y. x && y) k.0 k'.0, ap₂ (λ x y. x && y) k.1 k'.1),
    );
    input = λ s t u rest whose count h. (after_input s t u whose count h, wires_in s t u whose count h);
    output = λ s t u rest xs ys zs h each. after_output s t u xs ys zs h each;
  }

module _ (count : ℕ) (emitted : List Emitted) (given : Given) (can : CanRunOn count emitted given) where
  abbrev reckoned : (worker : ℕ) → List ℕ
  reckoned = plain_outputs (program_of count emitted) (list_at given.garbler) (list_at given.evaluator)

  abbrev drivers : (rooms : ℕ → ℕ) → ℕ → Plain
  drivers rooms n = record { garbler = list_at given.garbler n; evaluator = list_at given.evaluator n; outputs = []; room = rooms n; ands = 0 }

  -- what is kept of a worker's outputs in plain
  kept_reckoned : (rooms : ℕ → ℕ) (n : ℕ) → unplaced_outputs emitted (drivers rooms) n ≡ take (rooms n) (reckoned n)
  kept_reckoned rooms n =
      let r : Unplaced Reckoner Bool = starting_in (λ w. new_reckoner (list_at given.garbler w) (list_at given.evaluator w)) in
      let p : Unplaced Plain Bool = starting_in (drivers rooms) in
      let es : List Emitted = emission_of (program_of count emitted) in
      let related : Related reckoning reckoning plain_rules (λ w s t u rest. Follows (rooms w) s t u) Same (λ w. following_keeps (rooms w)) r r p
      (λ w. calls_of reckoning w r es ++ []) = record {
        states = λ w. record { twice = refl; rooms = refl; garbler = refl; evaluator = refl; outputs = sym (nothing (rooms w)) };
        values = λ w. tt;
        sent = λ v w. tt;
      } in
      ap (λ (xs : List Emitted). ((run_of plain_rules p xs).states n).outputs) (sym (emission_of-program_of count emitted (AreLinked-below count emitted can.runs.linked)))
      ∙ ((keeps_run reckoning reckoning plain_rules (λ w s t u rest. Follows (rooms w) s t u) Same (λ w. following_keeps (rooms w)) es r r p (λ w. [])
      related).states n).outputs
    where
      nothing : (k : ℕ) → take k (let l : List ℕ = [] in l) ≡ []
      nothing zero = refl
      nothing (suc k) = refl

  -- where there is room for the outputs, what is kept is what the program means
  pub kept_is_meant : (rooms : ℕ → ℕ) → ((n : ℕ) → n < count → outputs_in (own_instrs emitted n) ≤ rooms n) → (n : ℕ) → n < count →
      take (rooms n) (reckoned n) ≡ list_at (means_of (program_of count emitted) given) n
  kept_is_meant rooms room n within =
      sym (kept_reckoned rooms n) ∙ unplaced_means count emitted given (drivers rooms) able n within
    where
      able : CanRunPlainly count emitted given (drivers rooms)
      able = record {
        runs = can.runs;
        fit = can.fit;
        handed = record { garbler = λ m. refl; evaluator = λ m. refl; outputs = λ m. refl };
        room = room;
      }

  all_meant : (n : ℕ) → n < count → reckoned n ≡ list_at (means_of (program_of count emitted) given) n
  all_meant n within =
      sym (take_all (rooms n) (reckoned n) (omega arith))
      ∙ kept_is_meant rooms (λ m below. omega arith) n within
    where
      rooms : ℕ → ℕ
      rooms m = outputs_in (own_instrs emitted m) + length (reckoned m)

pub decoded_is_meant : (count : ℕ) (emitted : List Emitted) (given : Given) (seed : List ℕ) → CanRunOn count emitted given →
    (n : ℕ) → n < count →
    decoded_outputs (program_of count emitted) (labels_of count emitted given seed) (streams_of count emitted given seed) n
    ≡ list_at (means_of (program_of count emitted) given) n
decoded_is_meant count emitted given seed can n within =
    decoding_gives_the_value (program_of count emitted) seed (list_at given.garbler) (list_at given.evaluator) n
    ∙ all_meant count emitted given can n within

-- ---- the labels that are dealt are whole

whole_more : (xs ys : List Label) → AreWhole xs → AreWhole ys → AreWhole (xs ++ ys)
whole_more [] ys h k = k
whole_more (x ∷ xs) ys h k = (h.0, whole_more xs ys h.1 k)

whole_zeros : (seed : List ℕ) (worker first count : ℕ) → AreWhole (zero_labels seed worker first count)
whole_zeros seed worker first zero = tt
whole_zeros seed worker first (suc count) = (IsWhole-digest_label _, whole_zeros seed worker (number_after first 1) count)

whole_active : (offset : Label) (zeros : List Label) (values : List Bool) → AreWhole zeros → IsWhole offset → AreWhole (active_labels offset zeros values)
whole_active offset [] values h k = tt
whole_active offset (z ∷ zeros) [] h k = tt
whole_active offset (z ∷ zeros) (value ∷ values) h k = (whole_times z offset value h.0 k, whole_active offset zeros values h.1 k)

whole_dealt_for : (g : Garbler) (ask : Ask Label) (values : List ℕ) → AreWhole (dealt_for g ask values)
whole_dealt_for g (And a b) values = tt
whole_dealt_for g (Input party.Garbler count) values = tt
whole_dealt_for g (Input party.Evaluator count) values =
    whole_active (offset_in g) (zero_labels g.seed g.worker g.wires count) (bits (next_value values) count)
    (whole_zeros g.seed g.worker g.wires count) (IsWhole-offset_of g.seed)
whole_dealt_for g (Output wires) values = tt
whole_dealt_for g Finish values = tt

pub whole_dealt : (calls : List (Call Garbler Label)) (values : List ℕ) → AreWhole (dealt_at calls values)
whole_dealt [] values = tt
whole_dealt (call ∷ calls) values =
    whole_more (dealt_for call.state call.ask values) (dealt_at calls (values_behind call.ask values))
    (whole_dealt_for call.state call.ask values) (whole_dealt calls (values_behind call.ask values))

-- ---- a memory program that carries the program

pub carried_means : (count : ℕ) (emitted : List Emitted) (given : Given) (seed : List ℕ) (plan : MemProgram) (rooms : ℕ → ℕ)
    (sources : ℕ → SourceTold) → CanRunOn count emitted given → AreStreamed count emitted given seed rooms sources →
    Carries count emitted plan → EvaluatesAsMeant count emitted given seed plan rooms sources
carried_means count emitted given seed plan rooms sources can streamed carried = record {
  turns = run.turns;
  ends = run.ends;
  outputs = λ n within.
      run.outputs n within
      ∙ ap (λ (streams : ℕ → List ℕ). take (rooms n) (decoded_outputs (program_of count emitted) (labels_of count emitted given seed) streams n))
      (fun_ext (λ w. ap (λ left. unwrap_or left []) (streamed.left w)))
      ∙ ap (take (rooms n)) (decoding_gives_the_value (program_of count emitted) seed (list_at given.garbler) (list_at given.evaluator) n)
      ∙ kept_is_meant count emitted given can rooms streamed.room n within;
}
  where
    run : Decodes count emitted plan (labels_of count emitted given seed) rooms sources
    run = carried_decodes count emitted plan (labels_of count emitted given seed) rooms sources
        (λ n. whole_dealt (garbler_calls (program_of count emitted) seed (list_at given.garbler) n) (list_at given.evaluator n))
        can.runs carried
