-- The driver puts out what the definition decodes, over any calls.
use Rattle.std.proofs.Common.{◌≡◌, ◌≤◌, ◌<◌, ℕ, List, [], ◌∷◌, ◌++◌, Bool, true, false, length, nat_lt, take, drop, refl, sym, ap, ap₂, subst, ◌∙◌, inl, inr, length-append, length-take, arith}
use Rattle.std.proofs.lemmas.List.{take_all, take-append-le}
use Rattle.std.proofs.lemmas.Bool.{cases_lt}
use Rattle.std.specs.Prelude.{unwrap_or}
use Rattle.mage_bits.specs.Bits.{number}
use Rattle.mage_instr.specs.declared.party.Party.{Party}
use Rattle.mage_instr.specs.declared.party.Party.TheVariants as party
use Rattle.mage_linked.specs.Emission.{emission_of}
use Rattle.mage_label.specs.declared.labels.Label.{Label}
use Rattle.mage_label.specs.Labels.{xor}
use Rattle.mage_driver.specs.Calls.{Call, And, Input, Output, call_of}
use Rattle.mage_relations.specs.Each.{Each}
use Rattle.mage_relations.specs.Unplaced.{Unplaced, starting_in, calls_of}
use Rattle.mage_relations.proofs.EachLemmas.{Same, each_same, same_lists}
use Rattle.mage_relations.proofs.Keeping.{KeepsCalls}
use Rattle.mage_relations.proofs.Runs.{Related, keeps_run}
use Rattle.mage_streams.specs.Evaluating.{Evaluator, evaluating, after_output, after_reading, after_taking, decoded_bits, label_of_and, taken_labels}
use Rattle.mage_streams.specs.Streams.{new_evaluator}
use Rattle.mage_eval.specs.Rule.{Evaluating, evaluating_from, eval_rules, kept}
use Rattle.mage_eval.specs.Laws.{PutsOutTheDecoded}

-- an output more, as far as there is room
pub kept_take : (room : ℕ) (outputs : List ℕ) (value : ℕ) → kept room (take room outputs) value ≡ take room (outputs ++ value ∷ [])
kept_take room outputs value = elim (cases_lt (length outputs) room) [ inl less ↦ within less | inr full ↦ past full ]
  where
    within : length outputs < room → kept room (take room outputs) value ≡ take room (outputs ++ value ∷ [])
    within less =
        let all : take room outputs ≡ outputs = take_all room outputs (omega arith) in
        let more : take room (outputs ++ value ∷ []) ≡ outputs ++ value ∷ [] = take_all room (outputs ++ value ∷ []) (omega (arith, length-append outputs (value ∷ []))) in
        let test : nat_lt (length outputs) room ≡ true = grind arith in
        rw (all, more, test) refl

    past : room ≤ length outputs → kept room (take room outputs) value ≡ take room (outputs ++ value ∷ [])
    past full =
        let long : length (take room outputs) ≡ room = omega (arith, length-take room outputs) in
        let test : nat_lt room room ≡ false = grind arith in
        rw (take-append-le room outputs (value ∷ []) full, long, test) refl

-- the definition's evaluator, twice, and the driver, which keeps so many outputs
pub record Follows (room : ℕ) (e e' : Evaluator) (d : Evaluating) (rest : List (Call Evaluator Label)) : Type 0 where
  pub twice : e ≡ e'
  pub rooms : d.room ≡ room
  pub evaluator : ◌≡◌ {A = Evaluator} (record d.evaluator { outputs = e'.outputs }) e'
  pub outputs : d.evaluator.outputs ≡ take room e'.outputs

module _ (room : ℕ) where
  ands : (e e' : Evaluator) (d : Evaluating) (rest : List (Call Evaluator Label)) (a a' b b' c c' : Label) → Follows room e e' d (call_of evaluating e' (And b b') ∷ rest) → Same a b c → Same a' b' c' →
      Follows room (after_reading e) (after_reading e') ((eval_rules.and d c c').0) rest × Same (label_of_and e a a') (label_of_and e' b b') (label_of_and d.evaluator c c')
  ands e e' d rest a a' b b' c c' follows same same' = (
    record {
      twice = ap after_reading follows.twice;
      rooms = follows.rooms;
      evaluator = ap after_reading follows.evaluator;
      outputs = follows.outputs;
    },
    (
      ap (λ (h : Evaluator). label_of_and h a a') follows.twice ∙ ap₂ (λ (x y : Label). label_of_and e' x y) same.0 same'.0,
      ap (λ (h : Evaluator). label_of_and h c c') follows.evaluator ∙ ap₂ (λ (x y : Label). label_of_and e' x y) same.1 same'.1,
    ),
  )

  inputs : (e e' : Evaluator) (d : Evaluating) (rest : List (Call Evaluator Label)) (whose : Party) (count : ℕ) → Follows room e e' d (call_of evaluating e' (Input whose count) ∷ rest) →
      Follows room (after_taking e whose count) (after_taking e' whose count) ((eval_rules.input d whose count).0) rest
      × Each Same (taken_labels e whose count) (taken_labels e' whose count) (taken_labels d.evaluator whose count)
  inputs e e' d rest whose count follows = (after whose, wires whose)
    where
      after : (p : Party) → Follows room (after_taking e p count) (after_taking e' p count) ((eval_rules.input d p count).0) rest
      after party.Garbler = record {
        twice = ap (λ (h : Evaluator). after_taking h party.Garbler count) follows.twice;
        rooms = follows.rooms;
        evaluator = ap (λ (h : Evaluator). after_taking h party.Garbler count) follows.evaluator;
        outputs = follows.outputs;
      }
      after party.Evaluator = record {
        twice = ap (λ (h : Evaluator). after_taking h party.Evaluator count) follows.twice;
        rooms = follows.rooms;
        evaluator = ap (λ (h : Evaluator). after_taking h party.Evaluator count) follows.evaluator;
        outputs = follows.outputs;
      }

      same : (p : Party) → taken_labels d.evaluator p count ≡ taken_labels e' p count
      same party.Garbler = ap (λ (h : Evaluator). taken_labels h party.Garbler count) follows.evaluator
      same party.Evaluator = ap (λ (h : Evaluator). taken_labels h party.Evaluator count) follows.evaluator

      wires : (p : Party) → Each Same (taken_labels e p count) (taken_labels e' p count) (taken_labels d.evaluator p count)
      wires p =
          subst (λ (h : Evaluator). Each Same (taken_labels h p count) (taken_labels e' p count) (taken_labels d.evaluator p count)) (sym follows.twice)
          (subst (λ (xs : List Label). Each Same (taken_labels e' p count) (taken_labels e' p count) xs) (sym (same p)) (each_same (taken_labels e' p count)))

  outputs : (e e' : Evaluator) (d : Evaluating) (rest : List (Call Evaluator Label)) (xs ys zs : List Label) → Follows room e e' d (call_of evaluating e' (Output ys) ∷ rest) → Each Same xs ys zs →
      Follows room (after_output e xs) (after_output e' ys) (eval_rules.output d zs) rest
  outputs e e' d rest xs ys zs follows each =
      let bits : decoded_bits zs d.evaluator.left ≡ decoded_bits ys e'.left =
      ap₂ (λ (vs : List Label) (left : List ℕ). decoded_bits vs left) (same_lists xs ys zs each).1 (ap (λ (h : Evaluator). h.left) follows.evaluator) in
      record {
        twice = ap₂ (λ (h : Evaluator) (vs : List Label). after_output h vs) follows.twice (same_lists xs ys zs each).0;
        rooms = follows.rooms;
        evaluator = ap (λ (vs : List Label). record d.evaluator { left = drop (length vs) d.evaluator.left; outputs = (after_output e' ys).outputs }) (same_lists xs ys zs each).1
            ∙ ap (λ (h : Evaluator). record h { left = drop (length ys) h.left; outputs = (after_output e' ys).outputs }) follows.evaluator;
        outputs = ap (λ (r : ℕ). kept r d.evaluator.outputs (number (decoded_bits zs d.evaluator.left))) follows.rooms
            ∙ ap₂ (λ (os : List ℕ) (bs : List Bool). kept room os (number bs)) follows.outputs bits ∙ kept_take room e'.outputs (number (decoded_bits ys e'.left));
      }

  pub putting_out_keeps : KeepsCalls evaluating evaluating eval_rules (Follows room) Same
  putting_out_keeps = record {
    constant = λ e e' d rest bit follows. (refl, refl);
    xor = λ a a' b b' c c' same same'. (ap₂ xor same.0 same'.0, ap₂ xor same.1 same'.1);
    not = λ e e' d rest a b c follows same. same;
    and = ands;
    input = inputs;
    output = outputs;
  }

pub puts_out_the_decoded : PutsOutTheDecoded
puts_out_the_decoded program labels rooms sources worker =
    let e : Unplaced Evaluator Label = starting_in (λ w. new_evaluator w (labels w) (unwrap_or (sources w).left [])) in
    let d : Unplaced Evaluating Label = starting_in (λ w. evaluating_from w (labels w) (rooms w) (sources w)) in
    let calls : ℕ → List (Call Evaluator Label) = λ w. calls_of evaluating w e (emission_of program) in
    let related : Related evaluating evaluating eval_rules (λ w. Follows (rooms w)) Same (λ w. putting_out_keeps (rooms w)) e e d (λ w. calls w ++ []) = record {
      states = λ w. record { twice = refl; rooms = refl; evaluator = refl; outputs = sym (nothing (rooms w)) };
      values = λ w. tt;
      sent = λ v w. tt;
    } in
    ((keeps_run evaluating evaluating eval_rules (λ w. Follows (rooms w)) Same (λ w. putting_out_keeps (rooms w)) (emission_of program) e e d (λ w. []) related).states worker).outputs
  where
    nothing : (n : ℕ) → ◌≡◌ {A = List ℕ} (take n []) []
    nothing n = take_all n [] (omega arith)
