-- The driver says what the definition says, over any calls.
use Rattle.std.proofs.Common.{◌≡◌, ℕ, ◌+◌, List, [], ◌∷◌, ◌++◌, Bool, true, false, cond, length, nat_le, map, refl, sym, ap, ap₂, subst, ◌∙◌, append_assoc}
use Rattle.std.proofs.lemmas.List.{append-nil}
use Rattle.mage_instr.specs.declared.party.Party.{Party}
use Rattle.mage_instr.specs.declared.party.Party.TheVariants as party
use Rattle.mage_linked.specs.Emission.{emission_of}
use Rattle.mage_label.specs.declared.labels.Label.{Label}
use Rattle.mage_label.specs.Labels.{xor}
use Rattle.mage_driver.specs.Calls.{Ask, Call, And, Input, Output, call_of}
use Rattle.mage_relations.specs.Each.{Each}
use Rattle.mage_relations.specs.Unplaced.{Unplaced, starting_in}
use Rattle.mage_relations.proofs.EachLemmas.{Same, each_same, same_lists}
use Rattle.mage_relations.proofs.Keeping.{KeepsCalls}
use Rattle.mage_relations.proofs.Runs.{Related, keeps_run}
use Rattle.mage_streams.specs.Garbling.{Garbler, garbling, after_and, after_input, colour_of, inputs_of, next_and, said_for, said_at}
use Rattle.mage_streams.specs.Streams.{new_garbler, garbler_calls, garbled_stream}
use Rattle.mage_garble.specs.Sending.{Sending, flushed, saying, sending_to, most_waiting}
use Rattle.mage_garble.specs.Rule.{Garbling, garbling_from, garble_rules, sending_at_input}
use Rattle.mage_garble.specs.Laws.{SaysTheStream}

-- all that was said
abbrev pub all_said : Sending → List ℕ
all_said s = s.stream ++ s.waiting

pub all_said-saying : (s : Sending) (bytes : List ℕ) → all_said (saying s bytes) ≡ all_said s ++ bytes
all_said-saying s bytes = by_test (nat_le (length s.waiting + length bytes) most_waiting)
  where
    by_test : (test : Bool) → (cond test s (flushed s)).stream ++ ((cond test s (flushed s)).waiting ++ bytes) ≡ (s.stream ++ s.waiting) ++ bytes
    by_test true = sym (append_assoc s.stream s.waiting bytes)
    by_test false = refl

-- the definition's garbler, twice, and the driver, of which this is said in the end
pub record Agrees (whole : List ℕ) (g g' : Garbler) (d : Garbling) (rest : List (Call Garbler Label)) : Type 0 where
  pub twice : g ≡ g'
  pub garbler : d.garbler ≡ g'
  pub said : all_said d.sending ++ said_at rest ≡ whole

module _ (whole : List ℕ) where
  -- a call after which this was said more
  moved : (g : Garbler) (d : Garbling) (rest : List (Call Garbler Label)) (ask : Ask Label) → all_said d.sending ++ said_at (call_of garbling g ask ∷ rest) ≡ whole →
      (s : Sending) → all_said s ≡ all_said d.sending ++ said_for g ask → all_said s ++ said_at rest ≡ whole
  moved g d rest ask said s more =
      ap (λ (xs : List ℕ). xs ++ said_at rest) more ∙ append_assoc (all_said d.sending) (said_for g ask) (said_at rest) ∙ said

  ands : (g g' : Garbler) (d : Garbling) (rest : List (Call Garbler Label)) (a a' b b' c c' : Label) → Agrees whole g g' d (call_of garbling g' (And b b') ∷ rest) → Same a b c → Same a' b' c' →
      Agrees whole (after_and g) (after_and g') ((garble_rules.and d c c').0) rest × Same (next_and g a a') (next_and g' b b') (next_and d.garbler c c')
  ands g g' d rest a a' b b' c c' agrees same same' =
      let said = all_said-saying d.sending (said_for d.garbler (And c c'))
      ∙ ap (λ (xs : List ℕ). all_said d.sending ++ xs) (ap (λ (h : Garbler). said_for h (And c c')) agrees.garbler ∙ ap₂ (λ (x y : Label). said_for g' (And x y)) same.1 same'.1) in (
        record {
          twice = ap after_and agrees.twice;
          garbler = ap after_and agrees.garbler;
          said = moved g' d rest (And b b') agrees.said (saying d.sending (said_for d.garbler (And c c'))) said;
        },
        (
          ap (λ (h : Garbler). next_and h a a') agrees.twice ∙ ap₂ (λ (x y : Label). next_and g' x y) same.0 same'.0,
          ap (λ (h : Garbler). next_and h c c') agrees.garbler ∙ ap₂ (λ (x y : Label). next_and g' x y) same.1 same'.1,
        ),
      )

  inputs : (g g' : Garbler) (d : Garbling) (rest : List (Call Garbler Label)) (whose : Party) (count : ℕ) → Agrees whole g g' d (call_of garbling g' (Input whose count) ∷ rest) →
      Agrees whole (after_input g whose count) (after_input g' whose count) ((garble_rules.input d whose count).0) rest × Each Same (inputs_of g count) (inputs_of g' count) (inputs_of d.garbler count)
  inputs g g' d rest whose count agrees = (
    record {
      twice = ap (λ (h : Garbler). after_input h whose count) agrees.twice;
      garbler = ap (λ (h : Garbler). after_input h whose count) agrees.garbler;
      said = moved g' d rest (Input whose count) agrees.said (sending_at_input d whose count) (more whose);
    },
    subst (λ (h : Garbler). Each Same (inputs_of h count) (inputs_of g' count) (inputs_of d.garbler count)) (sym agrees.twice)
        (subst (λ (h : Garbler). Each Same (inputs_of g' count) (inputs_of g' count) (inputs_of h count)) (sym agrees.garbler) (each_same (inputs_of g' count))),
  )
    where
      more : (p : Party) → all_said (sending_at_input d p count) ≡ all_said d.sending ++ said_for g' (Input p count)
      more party.Garbler = all_said-saying d.sending (said_for d.garbler (Input party.Garbler count)) ∙ ap (λ (h : Garbler). all_said d.sending ++ said_for h (Input party.Garbler count)) agrees.garbler
      more party.Evaluator = sym (append-nil (all_said d.sending))

  outputs : (g g' : Garbler) (d : Garbling) (rest : List (Call Garbler Label)) (xs ys zs : List Label) → Agrees whole g g' d (call_of garbling g' (Output ys) ∷ rest) → Each Same xs ys zs →
      Agrees whole g g' (garble_rules.output d zs) rest
  outputs g g' d rest xs ys zs agrees each = record {
    twice = agrees.twice;
    garbler = agrees.garbler;
    said = moved g' d rest (Output ys) agrees.said (saying d.sending (said_for d.garbler (Output zs)))
        (all_said-saying d.sending (map colour_of zs) ∙ ap (λ (vs : List Label). all_said d.sending ++ map colour_of vs) (same_lists xs ys zs each).1);
  }

  pub saying_keeps : KeepsCalls garbling garbling garble_rules (Agrees whole) Same
  saying_keeps = record {
    constant = λ g g' d rest bit agrees. (ap (λ (h : Garbler). garbling.constant h bit) agrees.twice, ap (λ (h : Garbler). garbling.constant h bit) agrees.garbler);
    xor = λ a a' b b' c c' same same'. (ap₂ xor same.0 same'.0, ap₂ xor same.1 same'.1);
    not = λ g g' d rest a b c agrees same.
        (ap₂ (λ (h : Garbler) (x : Label). garbling.not h x) agrees.twice same.0, ap₂ (λ (h : Garbler) (x : Label). garbling.not h x) agrees.garbler same.1);
    and = ands;
    input = inputs;
    output = outputs;
  }

pub says_the_stream : SaysTheStream
says_the_stream program seed garbler sinks worker =
    let g : Unplaced Garbler Label = starting_in (λ w. new_garbler seed w (garbler w)) in
    let d : Unplaced Garbling Label = starting_in (λ w. garbling_from seed w (garbler w) 0 0 (sinks w)) in
    let calls : ℕ → List (Call Garbler Label) = garbler_calls program seed garbler in
    let whole : ℕ → List ℕ = λ w. (sending_to (sinks w)).stream ++ garbled_stream program seed garbler w in
    let related : Related garbling garbling garble_rules (λ w. Agrees (whole w)) Same (λ w. saying_keeps (whole w)) g g d (λ w. calls w ++ []) = record {
      states = λ w. record {
        twice = refl;
        garbler = refl;
        said = ap (λ (xs : List ℕ). xs ++ said_at (calls w ++ [])) (append-nil (sending_to (sinks w)).stream)
            ∙ ap (λ (cs : List (Call Garbler Label)). (sending_to (sinks w)).stream ++ said_at cs) (append-nil (calls w));
      };
      values = λ w. tt;
      sent = λ v w. tt;
    } in
    let after = (keeps_run garbling garbling garble_rules (λ w. Agrees (whole w)) Same (λ w. saying_keeps (whole w)) (emission_of program) g g d (λ w. []) related).states worker in
    sym (append-nil _) ∙ after.said
