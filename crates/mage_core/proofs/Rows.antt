-- Calls of a driver in a row: each is made in the state to which the one before it led.
use Rattle.std.proofs.Common.{◌≡◌, ◌++◌, inl, inr, ℕ, List, [], ◌∷◌, length, append-nil, append_assoc, refl, sym, ◌∙◌, subst}
use Rattle.mage_instr.specs.declared.op.Op.{Op}
use Rattle.mage_instr.specs.declared.fault.DriverFault.{DriverFault}
use Rattle.mage_driver.specs.Rules.{Rules, AreLawful, Grows}
use Rattle.mage_driver.specs.Calls.{Ask, And, Input, Output, Finish, Call, call_of, reached, led_to, SomeStops}
use Rattle.mage_driver.specs.Operations.{circuit_of}
use Rattle.mage_relations.specs.Each.{Each}
use Rattle.mage_relations.proofs.Keeping.{KeepsCalls}
use Rattle.mage_relations.proofs.Instructions.{keeps_circuit}
use Rattle.mage_steps.proofs.Outputs.{grows_same, grows_then}

module _ {W : Type 0} (rules : Rules W) where
  -- these calls lead from the first state to the last
  abbrev pub IsRow : rules.State → List (Call rules.State W) → rules.State → Type 0
  IsRow first [] last = first ≡ last
  IsRow first (call ∷ calls) last = (call.state ≡ first) × IsRow (led_to rules call) calls last

  pub row_then : (s t u : rules.State) (xs ys : List (Call rules.State W)) → IsRow s xs t → IsRow t ys u → IsRow s (xs ++ ys) u
  row_then s t u [] ys h k = subst (λ (x : rules.State). IsRow x ys u) (sym h) k
  row_then s t u (x ∷ xs) ys h k = (h.0, row_then (led_to rules x) t u xs ys h.1 k)

  -- where the first of them lead, and that the others lead on from there
  pub record Midway (s u : rules.State) (xs ys : List (Call rules.State W)) : Type 0 where
    pub state : rules.State
    pub first : IsRow s xs state
    pub then_on : IsRow state ys u

  pub midway : (s u : rules.State) (xs ys : List (Call rules.State W)) → IsRow s (xs ++ ys) u → Midway s u xs ys
  midway s u [] ys h = record { state = s; first = refl; then_on = h }
  midway s u (x ∷ xs) ys h =
      let rest = midway (led_to rules x) u xs ys h.1 in
      record { state = rest.state; first = (h.0, rest.first); then_on = rest.then_on }

  pub row_one : (s t u : rules.State) (xs : List (Call rules.State W)) → IsRow s xs t → IsRow s xs u → t ≡ u
  row_one s t u [] h k = sym h ∙ k
  row_one s t u (x ∷ xs) h k = row_one (led_to rules x) t u xs h.1 k.1

  -- ---- some call that stops

  pub stops_front : (xs ys : List (Call rules.State W)) (f : DriverFault) (after : rules.State) → SomeStops rules xs f after → SomeStops rules (xs ++ ys) f after
  stops_front [] ys f after h = absurd h
  stops_front (x ∷ xs) ys f after (inl h) = inl h
  stops_front (x ∷ xs) ys f after (inr h) = inr (stops_front xs ys f after h)

  pub stops_later : (xs ys : List (Call rules.State W)) (f : DriverFault) (after : rules.State) → SomeStops rules ys f after → SomeStops rules (xs ++ ys) f after
  stops_later [] ys f after h = h
  stops_later (x ∷ xs) ys f after h = inr (stops_later xs ys f after h)

  -- ---- what is put out and written

  module _ (lawful : AreLawful rules) where
    call_grows : (s : rules.State) (ask : Ask W) → Grows rules s (reached rules s ask)
    call_grows s (And left right) = lawful.and_grows s left right
    call_grows s (Input party count) = lawful.input_grows s party count
    call_grows s (Output wires) = lawful.output_grows s wires
    call_grows s Finish = lawful.finish_grows s

    from_first : (s : rules.State) (x : Call rules.State W) → x.state ≡ s → Grows rules s (led_to rules x)
    from_first s x e = subst (λ (a : rules.State). Grows rules a (led_to rules x)) e (call_grows x.state x.ask)

    pub row_grows : (s t : rules.State) (xs : List (Call rules.State W)) → IsRow s xs t → Grows rules s t
    row_grows s t [] h = subst (Grows rules s) h (grows_same rules s)
    row_grows s t (x ∷ xs) h = grows_then rules s (led_to rules x) t (from_first s x h.0) (row_grows (led_to rules x) t xs h.1)

    -- a driver that is stopped at one of them stands between its ends
    pub stop_grows : (s t : rules.State) (xs : List (Call rules.State W)) (f : DriverFault) (after : rules.State) → IsRow s xs t → SomeStops rules xs f after →
        Grows rules s after × Grows rules after t
    stop_grows s t [] f after h stops = absurd stops
    stop_grows s t (x ∷ xs) f after h (inl stops) =
        let between = lawful.stopped_grows x.state (led_to rules x) after f stops in (
          subst (λ (a : rules.State). Grows rules a after) h.0 between.0,
          grows_then rules after (led_to rules x) t between.1 (row_grows (led_to rules x) t xs h.1),
        )
    stop_grows s t (x ∷ xs) f after h (inr stops) =
        let rest = stop_grows (led_to rules x) t xs f after h.1 stops in
        (grows_then rules s (led_to rules x) after (from_first s x h.0) rest.0, rest.1)

    -- ---- the calls of a circuit

    -- some of all calls were made, in a row, and these are to come
    record SoFar (all : List (Call rules.State W)) (first now : rules.State) (rest : List (Call rules.State W)) : Type 0 where
      made : List (Call rules.State W)
      whole : made ++ rest ≡ all
      row : IsRow first made now

    -- nothing is claimed of wires
    Anything : W → W → W → Type 0
    Anything a b c = Unit {0}

    as_long : (xs ys zs : List W) → length xs ≡ length ys → length ys ≡ length zs → Each Anything xs ys zs
    unfolding Anything
    as_long [] [] [] e f = tt
    as_long [] [] (z ∷ zs) e f = absurd cc
    as_long [] (y ∷ ys) zs e f = absurd cc
    as_long (x ∷ xs) [] zs e f = absurd cc
    as_long (x ∷ xs) (y ∷ ys) [] e f = absurd cc
    as_long (x ∷ xs) (y ∷ ys) (z ∷ zs) e f = (tt, as_long xs ys zs (let tails : length xs ≡ length ys = cc in tails) (let tails : length ys ≡ length zs = cc in tails))

    one_more : (all : List (Call rules.State W)) (first now : rules.State) (ask : Ask W) (rest : List (Call rules.State W)) →
        SoFar all first now (call_of rules now ask ∷ rest) → SoFar all first (reached rules now ask) rest
    one_more all first now ask rest h = record {
      made = h.made ++ call_of rules now ask ∷ [];
      whole = append_assoc h.made (call_of rules now ask ∷ []) rest ∙ h.whole;
      row = row_then first now (reached rules now ask) h.made (call_of rules now ask ∷ []) h.row (refl, refl);
    }

    keeps : (all : List (Call rules.State W)) (first : rules.State) → KeepsCalls rules rules rules (λ s t u rest. SoFar all first t rest) Anything
    unfolding Anything
    keeps all first = record {
      constant = λ s t u rest bit h. tt;
      xor = λ a a' b b' c c' v v'. tt;
      not = λ s t u rest a b c h v. tt;
      and = λ s t u rest a a' b b' c c' h v v'. (one_more all first t (And b b') rest h, tt);
      input = λ s t u rest party count h. (
        one_more all first t (Input party count) rest h,
        as_long ((rules.input s party count).1) ((rules.input t party count).1) ((rules.input u party count).1)
            (lawful.inputs s party count ∙ sym (lawful.inputs t party count)) (lawful.inputs t party count ∙ sym (lawful.inputs u party count)),
      );
      output = λ s t u rest xs ys zs h each. one_more all first t (Output ys) rest h;
    }

    -- those of a circuit lead from the state in which it is made to the state after it
    pub circuit_row : (o : Op) (width imm : ℕ) (a b c : List W) (s : rules.State) →
        IsRow s (circuit_of rules o width imm a b c s).calls (circuit_of rules o width imm a b c s).state
    circuit_row o width imm a b c s =
        let made = circuit_of rules o width imm a b c s in
        let done = (keeps_circuit rules rules rules (λ s' t' u' rest. SoFar made.calls s t' rest) Anything (keeps made.calls s) o width imm a a a b b b c c c
        (as_long a a a refl refl) (as_long b b b refl refl) (as_long c c c refl refl) s s s []
        (record { made = []; whole = append-nil made.calls; row = refl })).0 in
        subst (λ (l : List (Call rules.State W)). IsRow s l made.state) (sym (append-nil done.made) ∙ done.whole) done.row
