-- What is wrong with a stream at some call is what is wrong with it first, and so in the end.
use Rattle.std.proofs.Common.{◌≡◌, ◌⊎◌, ◌++◌, inl, inr, ℕ, Bool, false, List, [], ◌∷◌, Option, None, Some, refl, sym, ap, ap₂, ◌∙◌, subst}
use Rattle.std.proofs.lemmas.List.{append-nil}
use Rattle.mage_instr.specs.declared.fault.DriverFault.{DriverFault}
use Rattle.mage_instr.specs.declared.fault.DriverFault.TheVariants as broken
use Rattle.mage_instr.specs.declared.party.Party.{Party}
use Rattle.mage_label.specs.declared.labels.Label.{Label}
use Rattle.mage_label.specs.Labels.{xor}
use Rattle.mage_linked.specs.declared.emitted.Emitted.{Emitted}
use Rattle.mage_driver.specs.Calls.{Ask, Call, And, Input, Output, Finish, NoneIsDue, SomeStops, call_of, led_to, reached}
use Rattle.mage_relations.specs.Each.{Each}
use Rattle.mage_relations.specs.Unplaced.{Unplaced, starting_in, run_of, calls_of}
use Rattle.mage_relations.proofs.EachLemmas.{Same, each_same, each_of, same_lists}
use Rattle.mage_relations.proofs.Keeping.{KeepsCalls}
use Rattle.mage_relations.proofs.Runs.{Related, keeps_run}
use Rattle.mage_eval.specs.Reading.{sooner, wrong_piece, wrong_at_colours, wrong_at_end}
use Rattle.mage_eval.specs.Rule.{Evaluating, eval_rules, wrong_at_input}

sooner_stays : (was now : Option DriverFault) (f : DriverFault) → was ≡ Some f → sooner was now ≡ Some f
sooner_stays None now f e = absurd cc
sooner_stays (Some g) now f e = e

-- a call that is made over a source so steady, in which only what is wrong in the end can be due
pub record Sticks (is_steady : Bool) (last : Option DriverFault) (call : Call Evaluating Label) : Type 0 where
  pub steady : call.state.steady ≡ is_steady
  pub wrong : (f : DriverFault) → (led_to eval_rules call).wrong ≡ Some f → last ≡ Some f

abbrev pub AllStick : (steady : Bool) → (last : Option DriverFault) → List (Call Evaluating Label) → Type 0
AllStick steady last [] = Unit {0}
AllStick steady last (call ∷ calls) = Sticks steady last call × AllStick steady last calls

all_and : (steady : Bool) (last : Option DriverFault) (calls : List (Call Evaluating Label)) (call : Call Evaluating Label) → AllStick steady last calls →
    Sticks steady last call → AllStick steady last (calls ++ call ∷ [])
all_and steady last [] call h k = (k, tt)
all_and steady last (c ∷ cs) call h k = (h.0, all_and steady last cs call h.1 k)

pub stick_first : (steady : Bool) (last : Option DriverFault) (xs ys : List (Call Evaluating Label)) → AllStick steady last (xs ++ ys) → AllStick steady last xs
stick_first steady last [] ys h = tt
stick_first steady last (x ∷ xs) ys h = (h.0, stick_first steady last xs ys h.1)

pub stick_behind : (steady : Bool) (last : Option DriverFault) (xs ys : List (Call Evaluating Label)) → AllStick steady last (xs ++ ys) → AllStick steady last ys
stick_behind steady last [] ys h = h
stick_behind steady last (x ∷ xs) ys h = stick_behind steady last xs ys h.1

module _ (is_steady : Bool) (all : List (Call Evaluating Label)) where
  -- between two calls: all calls are as said as soon as those that are still to come are, and nothing else was wrong before
  record Stands (s : Evaluating) (rest : List (Call Evaluating Label)) : Type 0 where
    steady : s.steady ≡ is_steady
    back : (last : Option DriverFault) → ((f : DriverFault) → s.wrong ≡ Some f → last ≡ Some f) → AllStick is_steady last rest → AllStick is_steady last all

  called : (s : Evaluating) (ask : Ask Label) (rest : List (Call Evaluating Label)) (now : Option DriverFault) → Stands s (call_of eval_rules s ask ∷ rest) →
      (reached eval_rules s ask).steady ≡ s.steady → (reached eval_rules s ask).wrong ≡ sooner s.wrong now → Stands (reached eval_rules s ask) rest
  called s ask rest now h same is = record {
    steady = same ∙ h.steady;
    back = λ last reaches others. h.back last (λ f e. reaches f (is ∙ sooner_stays s.wrong now f e)) (record { steady = h.steady; wrong = reaches }, others);
  }

  -- the driver, three times
  record Thrice (s t u : Evaluating) (rest : List (Call Evaluating Label)) : Type 0 where
    twice : s ≡ t
    thrice : u ≡ t
    stands : Stands t rest

  ands : (s t u : Evaluating) (rest : List (Call Evaluating Label)) (a a' b b' c c' : Label) → Thrice s t u (call_of eval_rules t (And b b') ∷ rest) → Same a b c → Same a' b' c' →
      Thrice ((eval_rules.and s a a').0) ((eval_rules.and t b b').0) ((eval_rules.and u c c').0) rest
      × Same ((eval_rules.and s a a').1) ((eval_rules.and t b b').1) ((eval_rules.and u c c').1)
  ands s t u rest a a' b b' c c' h same same' =
      let one : ◌≡◌ {A = Evaluating × Label} (eval_rules.and s a a') (eval_rules.and t b b') =
      ap (λ (x : Evaluating). eval_rules.and x a a') h.twice ∙ ap₂ (λ (x y : Label). eval_rules.and t x y) same.0 same'.0 in
      let other : ◌≡◌ {A = Evaluating × Label} (eval_rules.and u c c') (eval_rules.and t b b') =
      ap (λ (x : Evaluating). eval_rules.and x c c') h.thrice ∙ ap₂ (λ (x y : Label). eval_rules.and t x y) same.1 same'.1 in (
        record {
          twice = ap (λ (p : Evaluating × Label). p.0) one;
          thrice = ap (λ (p : Evaluating × Label). p.0) other;
          stands = called t (And b b') rest (wrong_piece 32 t.at t.evaluator.left) h.stands refl refl;
        },
        (ap (λ (p : Evaluating × Label). p.1) one, ap (λ (p : Evaluating × Label). p.1) other),
      )

  inputs : (s t u : Evaluating) (rest : List (Call Evaluating Label)) (whose : Party) (count : ℕ) → Thrice s t u (call_of eval_rules t (Input whose count) ∷ rest) →
      Thrice ((eval_rules.input s whose count).0) ((eval_rules.input t whose count).0) ((eval_rules.input u whose count).0) rest
      × Each Same ((eval_rules.input s whose count).1) ((eval_rules.input t whose count).1) ((eval_rules.input u whose count).1)
  inputs s t u rest whose count h =
      let one : ◌≡◌ {A = Evaluating × List Label} (eval_rules.input s whose count) (eval_rules.input t whose count) =
      ap (λ (x : Evaluating). eval_rules.input x whose count) h.twice in
      let other : ◌≡◌ {A = Evaluating × List Label} (eval_rules.input u whose count) (eval_rules.input t whose count) =
      ap (λ (x : Evaluating). eval_rules.input x whose count) h.thrice in (
        record {
          twice = ap (λ (p : Evaluating × List Label). p.0) one;
          thrice = ap (λ (p : Evaluating × List Label). p.0) other;
          stands = called t (Input whose count) rest (wrong_at_input t whose count) h.stands refl refl;
        },
        each_of ((eval_rules.input s whose count).1) ((eval_rules.input t whose count).1) ((eval_rules.input u whose count).1)
            (ap (λ (p : Evaluating × List Label). p.1) one) (ap (λ (p : Evaluating × List Label). p.1) other),
      )

  outputs : (s t u : Evaluating) (rest : List (Call Evaluating Label)) (xs ys zs : List Label) → Thrice s t u (call_of eval_rules t (Output ys) ∷ rest) → Each Same xs ys zs →
      Thrice (eval_rules.output s xs) (eval_rules.output t ys) (eval_rules.output u zs) rest
  outputs s t u rest xs ys zs h each =
      let same = same_lists xs ys zs each in record {
        twice = ap (λ (x : Evaluating). eval_rules.output x xs) h.twice ∙ ap (λ (l : List Label). eval_rules.output t l) same.0;
        thrice = ap (λ (x : Evaluating). eval_rules.output x zs) h.thrice ∙ ap (λ (l : List Label). eval_rules.output t l) same.1;
        stands = called t (Output ys) rest (wrong_at_colours ys t.at t.evaluator.left) h.stands refl refl;
      }

  calls_stick : KeepsCalls eval_rules eval_rules eval_rules Thrice Same
  calls_stick = record {
    constant = λ s t u rest bit h. (refl, refl);
    xor = λ a a' b b' c c' same same'. (ap₂ xor same.0 same'.0, ap₂ xor same.1 same'.1);
    not = λ s t u rest a b c h same. same;
    and = ands;
    input = inputs;
    output = outputs;
  }

-- the last call of a worker whose driver stands so
abbrev ending : Evaluating → Call Evaluating Label
ending s = call_of eval_rules s Finish

-- all calls of a worker's driver over some instructions, and its end
pub all_stick : (states : ℕ → Evaluating) (es : List Emitted) (worker : ℕ) →
    AllStick (states worker).steady (eval_rules.finish ((run_of eval_rules (starting_in states) es).states worker)).wrong
    (calls_of eval_rules worker (starting_in states) es ++ ending ((run_of eval_rules (starting_in states) es).states worker) ∷ [])
all_stick states es worker =
    let start : Unplaced Evaluating Label = starting_in states in
    let calls : ℕ → List (Call Evaluating Label) = λ w. calls_of eval_rules w start es in
    let steady : ℕ → Bool = λ w. (states w).steady in
    let related : Related eval_rules eval_rules eval_rules (λ w. Thrice (steady w) (calls w)) Same (λ w. calls_stick (steady w) (calls w)) start start start
    (λ w. calls w ++ []) = record {
      states = λ w. record {
        twice = refl;
        thrice = refl;
        stands = record { steady = refl; back = λ last reaches h. subst (AllStick (steady w) last) (append-nil (calls w)) h };
      };
      values = λ w. tt;
      sent = λ v w. tt;
    } in
    let end = (keeps_run eval_rules eval_rules eval_rules (λ w. Thrice (steady w) (calls w)) Same (λ w. calls_stick (steady w) (calls w)) es start start start
    (λ w. []) related).states worker in
    let last : Evaluating = (run_of eval_rules start es).states worker in
    all_and (steady worker) (eval_rules.finish last).wrong (calls worker) (ending last)
    (end.stands.back (eval_rules.finish last).wrong (λ f e. sooner_stays last.wrong (wrong_at_end last.at last.evaluator.left) f e) tt)
    (record { steady = end.stands.steady; wrong = λ f e. e })

-- a driver that stopped at one of these calls
pub stopped_for : (steady : Bool) (last : Option DriverFault) (calls : List (Call Evaluating Label)) (f : DriverFault) (after : Evaluating) → AllStick steady last calls →
    SomeStops eval_rules calls f after → ((f ≡ broken.Source) × (steady ≡ false)) ⊎ (last ≡ Some f)
stopped_for steady last [] f after h stops = absurd stops
stopped_for steady last (call ∷ calls) f after h (inr stops) = stopped_for steady last calls f after h.1 stops
stopped_for steady last (call ∷ calls) f after h (inl stops) = go stops.cause
  where
    go : ((f ≡ broken.Source) × (call.state.steady ≡ false)) ⊎ ((led_to eval_rules call).wrong ≡ Some f) → ((f ≡ broken.Source) × (steady ≡ false)) ⊎ (last ≡ Some f)
    go (inl source) = inl (source.0, sym h.0.steady ∙ source.1)
    go (inr due) = inr (h.0.wrong f due)

-- no fault is due in the last call
pub last_passed : (calls : List (Call Evaluating Label)) (call : Call Evaluating Label) → NoneIsDue eval_rules (calls ++ call ∷ []) → (led_to eval_rules call).wrong ≡ None
last_passed [] call h = h.0
last_passed (c ∷ cs) call h = last_passed cs call h.1
