-- The law of plain runs: what the unplaced program puts out over plain drivers is what it means.
use Rattle.std.proofs.Common.{◌≡◌, ◌≤◌, ◌<◌, ◌+◌, ◌^◌, ℕ, Bool, true, false, cond, List, [], ◌∷◌, ◌++◌, length, drop, get_or, nat_eq, nat_lt, Some, refl, sym, ap, ◌∙◌, subst, slice_get, arith, append_assoc, ◌&&◌}
use Rattle.std.proofs.lemmas.Bool.{eqb-true}
use Rattle.std.proofs.lemmas.Bool.Decides.{nat_tests}
use Rattle.std.proofs.lemmas.List.{length-append}
use Rattle.mage_bits.specs.Bits.{bits, number}
use Rattle.mage_instr.specs.declared.instr.Instr.{Instr}
use Rattle.mage_instr.specs.declared.op.Op.{Op}
use Rattle.mage_instr.specs.declared.op.Op.TheVariants as op
use Rattle.mage_instr.specs.declared.party.Party.TheVariants as party
use Rattle.mage_instr.specs.Opcodes.{arity_of, has_result, width_of_result, width_of_arg, ImmOk}
use Rattle.mage_instr.specs.Computed.{computed}
use Rattle.mage_instr.specs.Inputs.{is_input, widths_in}
use Rattle.mage_instr.specs.Sound.{IsSound, IsSoundAt, arg_of}
use Rattle.mage_linked.specs.Workers.{with_at}
use Rattle.mage_meaning.specs.Means.{Running, acted, after_instr, run_all}
use Rattle.mage_meaning.specs.Means as means
use Rattle.mage_driver.specs.Operations.{circuit_of, party_of}
use Rattle.mage_driver.specs.Circuits.{Made}
use Rattle.mage_plain.specs.Plain.{Plain, plain_rules, next_of, taken_in, put_out}
use Rattle.mage_plain_runs.specs.Plainly.{Fit, is_output, outputs_in}
use Rattle.mage_circuit_laws.specs.Right.{IsRight, computes}
use Rattle.mage_plain_runs.proofs.Numbers.{computed_fits}
use Rattle.mage_plain_runs.proofs.Telling.{number_fits, tells_more, arg_tells, sound_at}
use Rattle.mage_plain_runs.proofs.Running.{Agrees, next_here, fit_other, fit_next}
use Rattle.mage_plain_runs.proofs.Reckoning.{Same, reckoning_keeps, reckoned}

next_is : (values : List ℕ) → next_of values ≡ get_or values 0 0
next_is [] = refl
next_is (x ∷ values) = refl

-- an instruction's circuit on the wires of its arguments
abbrev pub made_on : List (List Bool) → Instr → Plain → Made Plain Bool (List Bool)
made_on wires i state = circuit_of plain_rules i.op i.width i.imm
    (get_or wires (arg_of i 0) []) (get_or wires (arg_of i 1) []) (get_or wires (arg_of i 2) []) state

-- what an instruction makes of the numbers of its worker
pub record Effect (n : ℕ) (i : Instr) (r after : Running) (x : ℕ) (garbler evaluator outputs : List ℕ) : Type 0 where
  pub values : after.values ≡ with_at r.values n (r.values n ++ x ∷ [])
  pub garbler_left : (m : ℕ) → after.garbler m ≡ with_at r.garbler n garbler m
  pub evaluator_left : (m : ℕ) → after.evaluator m ≡ with_at r.evaluator n evaluator m
  pub put : (m : ℕ) → after.outputs m ≡ with_at r.outputs n outputs m
  pub sent : after.sent ≡ r.sent

pub unchanged : {A : Type 0} (f : ℕ → A) (n m : ℕ) → f m ≡ with_at f n (f n) m
unchanged f n m = go (nat_eq m n) refl
  where
    go : (b : Bool) → nat_eq m n ≡ b → f m ≡ cond b (f n) (f m)
    go true e = ap f (eqb-true m n e)
    go false e = refl

-- the instruction and what it leaves of its worker
pub record Steps (instrs rest : List Instr) (n : ℕ) (i : Instr) (wires : List (List Bool)) (state : Plain) (r after : Running) : Type 0 where
  pub x : ℕ
  pub garbler : List ℕ
  pub evaluator : List ℕ
  pub outputs : List ℕ
  pub effect : Effect n i r after x garbler evaluator outputs
  pub agrees : Agrees instrs rest (wires ++ (made_on wires i state).wires ∷ []) (made_on wires i state).state
      (r.values n ++ x ∷ []) garbler evaluator outputs

module _ (right : (o : Op) → computes o ≡ true → IsRight o) (instrs rest : List Instr) (n : ℕ) (i : Instr)
    (wires : List (List Bool)) (state : Plain) (r : Running) (sound : IsSound instrs)
    (h : Agrees instrs (i ∷ rest) wires state (r.values n) (r.garbler n) (r.evaluator n) (r.outputs n)) where
  here : slice_get instrs (length wires) ≡ Some i
  here = next_here instrs i rest wires state (r.values n) (r.garbler n) (r.evaluator n) (r.outputs n) h

  ready : IsSoundAt instrs (length wires) i
  ready = sound_at instrs (length wires) i sound here

  same_arg : (k : ℕ) → means.arg r n i k ≡ get_or (r.values n) (arg_of i k) 0
  same_arg k = refl

  -- one instruction fewer is left
  fewer : (w : List Bool) → (done : List Instr) × (instrs ≡ done ++ rest) × (length done ≡ length (wires ++ w ∷ []))
  fewer w = (
    h.done ++ i ∷ [],
    h.split ∙ sym (append_assoc h.done (i ∷ []) rest),
    length-append h.done (i ∷ []) ∙ ap (λ k. k + 1) h.count ∙ sym (length-append wires (w ∷ [])),
  )

  -- an instruction that computes
  pub step_reckons : computes i.op ≡ true → is_input i.op ≡ false → is_output i.op ≡ false →
      Steps instrs rest n i wires state r (means.computes i.op n i r)
  step_reckons is no_input no_output = record {
    x = x;
    garbler = r.garbler n;
    evaluator = r.evaluator n;
    outputs = r.outputs n;
    effect = record {
      values = refl;
      garbler_left = unchanged r.garbler n;
      evaluator_left = unchanged r.evaluator n;
      put = unchanged r.outputs n;
      sent = refl;
    };
    agrees = record {
      tells = tells_more instrs wires (r.values n) i made.wires x h.tells here (λ has. (bits_are, fits));
      garbler_left = kept.garbler ∙ h.garbler_left;
      evaluator_left = kept.evaluator ∙ h.evaluator_left;
      put = kept.outputs ∙ h.put;
      room = subst (λ k. length (r.outputs n) + outputs_in rest ≤ k) (sym kept.room)
          (let a = h.room in
          let b : outputs_in (i ∷ rest) ≡ outputs_in rest = ap (λ t. cond t 1 0 + outputs_in rest) no_output ∙ (let c : 0 + outputs_in rest ≡ outputs_in rest = omega arith in c) in
          omega arith);
      fits = record {
        garbler_fits = fit_other party.Garbler i rest (r.garbler n) (ap (λ t. t && nat_eq i.imm 0) no_input) h.fits.garbler_fits;
        evaluator_fits = fit_other party.Evaluator i rest (r.evaluator n) (ap (λ t. t && nat_eq i.imm 1) no_input) h.fits.evaluator_fits;
      };
      done = (fewer made.wires).0;
      split = (fewer made.wires).1;
      count = (fewer made.wires).2;
    };
  }
    where
      made : Made Plain Bool (List Bool)
      made = made_on wires i state

      a0 : ℕ
      a0 = get_or (r.values n) (arg_of i 0) 0

      a1 : ℕ
      a1 = get_or (r.values n) (arg_of i 1) 0

      a2 : ℕ
      a2 = get_or (r.values n) (arg_of i 2) 0

      x : ℕ
      x = computed i.op i.width i.imm (get_or (r.values n) (arg_of i 0) 0) (get_or (r.values n) (arg_of i 1) 0) (get_or (r.values n) (arg_of i 2) 0)

      kept : Same state (made_on wires i state).state
      kept = reckoning_keeps i.op i.width i.imm (get_or wires (arg_of i 0) []) (get_or wires (arg_of i 1) []) (get_or wires (arg_of i 2) []) state is

      bits_are : (made_on wires i state).wires ≡ bits (computed i.op i.width i.imm (get_or (r.values n) (arg_of i 0) 0)
          (get_or (r.values n) (arg_of i 1) 0) (get_or (r.values n) (arg_of i 2) 0)) (width_of_result i.op i.width)
      bits_are = reckoned i.op i.width i.imm (get_or wires (arg_of i 0) []) (get_or wires (arg_of i 1) []) (get_or wires (arg_of i 2) [])
          (get_or (r.values n) (arg_of i 0) 0) (get_or (r.values n) (arg_of i 1) 0) (get_or (r.values n) (arg_of i 2) 0) state
          (right i.op is) ready.0
          (arg_tells instrs wires (r.values n) i 0 sound here h.tells)
          (arg_tells instrs wires (r.values n) i 1 sound here h.tells)
          (arg_tells instrs wires (r.values n) i 2 sound here h.tells)

      fits : computed i.op i.width i.imm (get_or (r.values n) (arg_of i 0) 0) (get_or (r.values n) (arg_of i 1) 0)
          (get_or (r.values n) (arg_of i 2) 0) < 2 ^ width_of_result i.op i.width
      fits = computed_fits i.op i.width i.imm (get_or (r.values n) (arg_of i 0) 0) (get_or (r.values n) (arg_of i 1) 0)
          (get_or (r.values n) (arg_of i 2) 0) is ready.0
          (λ w. (arg_tells instrs wires (r.values n) i 0 sound here h.tells w).1)
          (λ w. (arg_tells instrs wires (r.values n) i 1 sound here h.tells w).1)
          (λ w. (arg_tells instrs wires (r.values n) i 2 sound here h.tells w).1)

  -- a value that is put out
  pub step_puts : i.op ≡ op.Output → Steps instrs rest n i wires state r (acted op.Output n i r)
  step_puts is = record {
    x = 0;
    garbler = r.garbler n;
    evaluator = r.evaluator n;
    outputs = r.outputs n ++ get_or (r.values n) (arg_of i 0) 0 ∷ [];
    effect = record {
      values = refl;
      garbler_left = unchanged r.garbler n;
      evaluator_left = unchanged r.evaluator n;
      put = λ m. refl;
      sent = refl;
    };
    agrees = record {
      tells = tells_more instrs wires (r.values n) i (made_on wires i state).wires 0 h.tells here
          (λ has. absurd (let e : has_result i.op ≡ false = ap has_result is in let c : true ≡ false = sym has ∙ e in cc));
      garbler_left = ap (λ (s : Plain). s.garbler) state_is ∙ h.garbler_left;
      evaluator_left = ap (λ (s : Plain). s.evaluator) state_is ∙ h.evaluator_left;
      put = ap (λ (s : Plain). s.outputs) state_is ∙ put_is;
      room = subst (λ k. length (r.outputs n ++ get_or (r.values n) (arg_of i 0) 0 ∷ []) + outputs_in rest ≤ k)
          (sym (ap (λ (s : Plain). s.room) state_is))
          (let a = h.room in
          let b : outputs_in (i ∷ rest) ≡ 1 + outputs_in rest = ap (λ o. cond (is_output o) 1 0 + outputs_in rest) is in
          let c = length-append (r.outputs n) (get_or (r.values n) (arg_of i 0) 0 ∷ []) in omega arith);
      fits = record {
        garbler_fits = fit_other party.Garbler i rest (r.garbler n) (ap (λ o. is_input o && nat_eq i.imm 0) is) h.fits.garbler_fits;
        evaluator_fits = fit_other party.Evaluator i rest (r.evaluator n) (ap (λ o. is_input o && nat_eq i.imm 1) is) h.fits.evaluator_fits;
      };
      done = (fewer (made_on wires i state).wires).0;
      split = (fewer (made_on wires i state).wires).1;
      count = (fewer (made_on wires i state).wires).2;
    };
  }
    where
      state_is : (made_on wires i state).state ≡ put_out state (get_or wires (arg_of i 0) [])
      state_is = ap (λ o. (circuit_of plain_rules o i.width i.imm (get_or wires (arg_of i 0) []) (get_or wires (arg_of i 1) [])
          (get_or wires (arg_of i 2) []) state).state) is

      told : (get_or wires (arg_of i 0) [] ≡ bits (get_or (r.values n) (arg_of i 0) 0) (width_of_arg i.op i.width i.imm 0))
          × (get_or (r.values n) (arg_of i 0) 0 < 2 ^ width_of_arg i.op i.width i.imm 0)
      told = arg_tells instrs wires (r.values n) i 0 sound here h.tells (subst (λ o. 0 < arity_of o) (sym is) (omega arith))

      number_is : number (get_or wires (arg_of i 0) []) ≡ get_or (r.values n) (arg_of i 0) 0
      number_is = ap number told.0 ∙ number_fits (get_or (r.values n) (arg_of i 0) 0) (width_of_arg i.op i.width i.imm 0) told.1

      space : nat_lt (length state.outputs) state.room ≡ true
      space = let a = h.room in let p = h.put in
          let b : outputs_in (i ∷ rest) ≡ 1 + outputs_in rest = ap (λ o. cond (is_output o) 1 0 + outputs_in rest) is in
          let c : length state.outputs ≡ length (r.outputs n) = ap length p in
          (let d : length state.outputs < state.room = omega arith in grind (arith, nat_tests))

      put_is : (put_out state (get_or wires (arg_of i 0) [])).outputs ≡ r.outputs n ++ get_or (r.values n) (arg_of i 0) 0 ∷ []
      put_is = ap (λ t. cond t (state.outputs ++ number (get_or wires (arg_of i 0) []) ∷ []) state.outputs) space
          ∙ ap (λ l. l ++ number (get_or wires (arg_of i 0) []) ∷ []) h.put
          ∙ ap (λ k. r.outputs n ++ k ∷ []) number_is

  -- a value that comes in, of the garbler or of the evaluator
  pub step_takes : i.op ≡ op.Input → Steps instrs rest n i wires state r (acted op.Input n i r)
  step_takes is = go (nat_eq i.imm 0) refl
    where
      few : i.imm ≤ 1
      few = subst (λ o. ImmOk o i.width i.imm) is ready.0.2

      circuit_is : (made_on wires i state) ≡ circuit_of plain_rules op.Input i.width i.imm (get_or wires (arg_of i 0) [])
          (get_or wires (arg_of i 1) []) (get_or wires (arg_of i 2) []) state
      circuit_is = ap (λ o. circuit_of plain_rules o i.width i.imm (get_or wires (arg_of i 0) []) (get_or wires (arg_of i 1) [])
          (get_or wires (arg_of i 2) []) state) is

      wide : width_of_result i.op i.width ≡ i.width
      wide = ap (λ o. width_of_result o i.width) is

      no_outputs : outputs_in (i ∷ rest) ≡ outputs_in rest
      no_outputs = ap (λ o. cond (is_output o) 1 0 + outputs_in rest) is ∙ (let c : 0 + outputs_in rest ≡ outputs_in rest = omega arith in c)

      go : (b : Bool) → nat_eq i.imm 0 ≡ b → Steps instrs rest n i wires state r (acted op.Input n i r)
      go true e = subst (λ after. Steps instrs rest n i wires state r after)
          (sym (ap (λ t. cond t
          (means.with_value n (get_or (r.garbler n) 0 0) (record r { garbler = with_at r.garbler n (drop 1 (r.garbler n)) }))
          (means.with_value n (get_or (r.evaluator n) 0 0) (record r { evaluator = with_at r.evaluator n (drop 1 (r.evaluator n)) }))) e))
          (record {
            x = get_or (r.garbler n) 0 0;
            garbler = drop 1 (r.garbler n);
            evaluator = r.evaluator n;
            outputs = r.outputs n;
            effect = record {
              values = refl;
              garbler_left = λ m. refl;
              evaluator_left = unchanged r.evaluator n;
              put = unchanged r.outputs n;
              sent = refl;
            };
            agrees = record {
              tells = tells_more instrs wires (r.values n) i (made_on wires i state).wires (get_or (r.garbler n) 0 0) h.tells here
                  (λ has. (wires_are, subst (λ w. get_or (r.garbler n) 0 0 < 2 ^ w) (sym wide) mine.0));
              garbler_left = ap (λ (s : Plain). s.garbler) state_is ∙ ap (drop 1) h.garbler_left;
              evaluator_left = ap (λ (s : Plain). s.evaluator) state_is ∙ h.evaluator_left;
              put = ap (λ (s : Plain). s.outputs) state_is ∙ h.put;
              room = subst (λ k. length (r.outputs n) + outputs_in rest ≤ k) (sym (ap (λ (s : Plain). s.room) state_is))
                  (let a = h.room in let b = no_outputs in omega arith);
              fits = record {
                garbler_fits = mine.1;
                evaluator_fits = fit_other party.Evaluator i rest (r.evaluator n)
                    (ap (λ o. is_input o && nat_eq i.imm 1) is ∙ (let zero_imm = eqb-true i.imm 0 e in grind (arith, nat_tests)))
                    h.fits.evaluator_fits;
              };
              done = (fewer (made_on wires i state).wires).0;
              split = (fewer (made_on wires i state).wires).1;
              count = (fewer (made_on wires i state).wires).2;
            };
          })
        where
          whose : party_of i.imm ≡ party.Garbler
          whose = ap (λ t. cond t party.Garbler party.Evaluator) e

          mine : (get_or (r.garbler n) 0 0 < 2 ^ i.width) × Fit (drop 1 (r.garbler n)) (widths_in party.Garbler rest)
          mine = fit_next party.Garbler i rest (r.garbler n) (ap (λ o. is_input o && nat_eq i.imm 0) is ∙ ap (λ t. true && t) e) h.fits.garbler_fits

          state_is : (made_on wires i state).state ≡ (taken_in state party.Garbler i.width).0
          state_is = ap (λ m. m.state) circuit_is ∙ ap (λ p. (taken_in state p i.width).0) whose

          wires_are : (made_on wires i state).wires ≡ bits (get_or (r.garbler n) 0 0) (width_of_result i.op i.width)
          wires_are = ap (λ m. m.wires) circuit_is ∙ ap (λ p. (taken_in state p i.width).1) whose
              ∙ ap (λ v. bits v i.width) (next_is state.garbler ∙ ap (λ l. get_or l 0 0) h.garbler_left)
              ∙ ap (bits (get_or (r.garbler n) 0 0)) (sym wide)
      go false e = subst (λ after. Steps instrs rest n i wires state r after)
          (sym (ap (λ t. cond t
          (means.with_value n (get_or (r.garbler n) 0 0) (record r { garbler = with_at r.garbler n (drop 1 (r.garbler n)) }))
          (means.with_value n (get_or (r.evaluator n) 0 0) (record r { evaluator = with_at r.evaluator n (drop 1 (r.evaluator n)) }))) e))
          (record {
            x = get_or (r.evaluator n) 0 0;
            garbler = r.garbler n;
            evaluator = drop 1 (r.evaluator n);
            outputs = r.outputs n;
            effect = record {
              values = refl;
              garbler_left = unchanged r.garbler n;
              evaluator_left = λ m. refl;
              put = unchanged r.outputs n;
              sent = refl;
            };
            agrees = record {
              tells = tells_more instrs wires (r.values n) i (made_on wires i state).wires (get_or (r.evaluator n) 0 0) h.tells here
                  (λ has. (wires_are, subst (λ w. get_or (r.evaluator n) 0 0 < 2 ^ w) (sym wide) mine.0));
              garbler_left = ap (λ (s : Plain). s.garbler) state_is ∙ h.garbler_left;
              evaluator_left = ap (λ (s : Plain). s.evaluator) state_is ∙ ap (drop 1) h.evaluator_left;
              put = ap (λ (s : Plain). s.outputs) state_is ∙ h.put;
              room = subst (λ k. length (r.outputs n) + outputs_in rest ≤ k) (sym (ap (λ (s : Plain). s.room) state_is))
                  (let a = h.room in let b = no_outputs in omega arith);
              fits = record {
                garbler_fits = fit_other party.Garbler i rest (r.garbler n)
                    (ap (λ o. is_input o && nat_eq i.imm 0) is ∙ ap (λ t. true && t) e) h.fits.garbler_fits;
                evaluator_fits = mine.1;
              };
              done = (fewer (made_on wires i state).wires).0;
              split = (fewer (made_on wires i state).wires).1;
              count = (fewer (made_on wires i state).wires).2;
            };
          })
        where
          whose : party_of i.imm ≡ party.Evaluator
          whose = ap (λ t. cond t party.Garbler party.Evaluator) e

          one : nat_eq i.imm 1 ≡ true
          one = let f = few in grind (arith, nat_tests)

          mine : (get_or (r.evaluator n) 0 0 < 2 ^ i.width) × Fit (drop 1 (r.evaluator n)) (widths_in party.Evaluator rest)
          mine = fit_next party.Evaluator i rest (r.evaluator n) (ap (λ o. is_input o && nat_eq i.imm 1) is ∙ ap (λ t. true && t) one) h.fits.evaluator_fits

          state_is : (made_on wires i state).state ≡ (taken_in state party.Evaluator i.width).0
          state_is = ap (λ m. m.state) circuit_is ∙ ap (λ p. (taken_in state p i.width).0) whose

          wires_are : (made_on wires i state).wires ≡ bits (get_or (r.evaluator n) 0 0) (width_of_result i.op i.width)
          wires_are = ap (λ m. m.wires) circuit_is ∙ ap (λ p. (taken_in state p i.width).1) whose
              ∙ ap (λ v. bits v i.width) (next_is state.evaluator ∙ ap (λ l. get_or l 0 0) h.evaluator_left)
              ∙ ap (bits (get_or (r.evaluator n) 0 0)) (sym wide)
