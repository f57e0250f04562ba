-- The whole program, in the order of emission.
use Rattle.std.proofs.Common.{◌≡◌, ◌<◌, ◌+◌, ◌^◌, ℕ, Bool, true, false, cond, List, [], ◌∷◌, ◌++◌, drop, get_or, nat_eq, refl, sym, ap, ◌∙◌, subst, arith, append_assoc, ◌||◌, ◌&&◌}
use Rattle.std.proofs.lemmas.Bool.{eqb-true, eq-eqb}
use Rattle.std.proofs.lemmas.List.{length-append}
use Rattle.mage_bits.specs.Bits.{bits}
use Rattle.mage_instr.specs.declared.instr.Instr.{Instr}
use Rattle.mage_instr.specs.declared.op.Op.{Op}
use Rattle.mage_instr.specs.declared.op.Op.TheVariants as op
use Rattle.mage_instr.specs.declared.party.Party.TheVariants as party
use Rattle.mage_instr.specs.Opcodes.{arity_of, has_result, width_of_result, width_of_arg}
use Rattle.mage_instr.specs.Inputs.{is_input}
use Rattle.mage_instr.specs.Sound.{IsSound, arg_of}
use Rattle.mage_linked.specs.Workers.{with_at}
use Rattle.mage_linked.specs.Transfers.{is_send, is_recv}
use Rattle.mage_linked.specs.Linked.{is_transfer, IsTransfer, AreLinked, nothing, alone, transfer}
use Rattle.mage_linked.specs.Emission.{own_instrs}
use Rattle.mage_linked.specs.declared.emitted.Emitted.{Emitted}
use Rattle.mage_linked.proofs.EmissionLemmas.{own_instrs-first, own_instrs-other}
use Rattle.mage_meaning.specs.Means.{Running, acted, after_instr, run_all}
use Rattle.mage_meaning.specs.Means as means
use Rattle.mage_driver.specs.Circuits.{Made}
use Rattle.mage_relations.specs.Unplaced.{Unplaced, wires_of_arg, with_sent, with_wires, made_by, after_emitted, run_of}
use Rattle.mage_plain.specs.Plain.{Plain, plain_rules}
use Rattle.mage_plain_runs.specs.Plainly.{is_output, outputs_in}
use Rattle.mage_circuit_laws.specs.Right.{IsRight, computes}
use Rattle.mage_plain_runs.proofs.Telling.{tells_more, arg_tells, acted_computes, Kind, takes, puts, reckons, kind_of}
use Rattle.mage_plain_runs.proofs.Running.{Agrees, next_here, fit_other}
use Rattle.mage_plain_runs.proofs.Meaning.{Steps, step_reckons, step_puts, step_takes}

neither : (a b : Bool) → (a || b) ≡ false → (a ≡ false) × (b ≡ false)
neither true b e = absurd cc
neither false b e = (refl, e)

no_input : (o : Op) → computes o ≡ true → is_input o ≡ false
no_input op.Input is = absurd cc
no_input op.Const is = refl
no_input op.Output is = absurd cc
no_input op.Add is = refl
no_input op.Sub is = refl
no_input op.Mul is = refl
no_input op.And is = refl
no_input op.Or is = refl
no_input op.Xor is = refl
no_input op.Not is = refl
no_input op.Eq is = refl
no_input op.Lt is = refl
no_input op.Mux is = refl
no_input op.Shl is = refl
no_input op.Shr is = refl
no_input op.Resize is = refl
no_input op.Send is = absurd cc
no_input op.Recv is = absurd cc
no_input op.Div is = refl
no_input op.Rem is = refl
no_input op.Count is = refl
no_input op.Min is = refl
no_input op.Max is = refl

no_output : (o : Op) → computes o ≡ true → is_output o ≡ false
no_output op.Input is = absurd cc
no_output op.Const is = refl
no_output op.Output is = absurd cc
no_output op.Add is = refl
no_output op.Sub is = refl
no_output op.Mul is = refl
no_output op.And is = refl
no_output op.Or is = refl
no_output op.Xor is = refl
no_output op.Not is = refl
no_output op.Eq is = refl
no_output op.Lt is = refl
no_output op.Mux is = refl
no_output op.Shl is = refl
no_output op.Shr is = refl
no_output op.Resize is = refl
no_output op.Send is = absurd cc
no_output op.Recv is = absurd cc
no_output op.Div is = refl
no_output op.Rem is = refl
no_output op.Count is = refl
no_output op.Min is = refl
no_output op.Max is = refl

with_here : {A : Type 0} (f : ℕ → A) (n : ℕ) (x : A) → with_at f n x n ≡ x
with_here f n x = ap (λ b. cond b x (f n)) (eq-eqb n n refl)

with_other : {A : Type 0} (f : ℕ → A) (n : ℕ) (x : A) (m : ℕ) → nat_eq m n ≡ false → with_at f n x m ≡ f m
with_other f n x m e = ap (λ b. cond b x (f m)) e

not_eq : (n m : ℕ) → (n ≡ m → ⊥) → nat_eq n m ≡ false
not_eq n m h = go (nat_eq n m) refl
  where
    go : (b : Bool) → nat_eq n m ≡ b → b ≡ false
    go true e = absurd (h (eqb-true n m e))
    go false e = refl

module _ (right : (o : Op) → computes o ≡ true → IsRight o) (count : ℕ) (instrs : ℕ → List Instr)
    (sound : (n : ℕ) → n < count → IsSound (instrs n)) where
  abbrev Agree : ℕ → List Instr → List (List Bool) → Plain → (numbers garbler evaluator outputs : List ℕ) → Type 0
  Agree n = Agrees (instrs n)

  -- each worker's wires tell its numbers, and nothing lies between workers
  pub record AllAgree (es : List Emitted) (u : Unplaced Plain Bool) (r : Running) : Type 0 where
    pub each : (n : ℕ) → n < count → Agree n (own_instrs es n) (u.values n) (u.states n) (r.values n) (r.garbler n) (r.evaluator n) (r.outputs n)
    pub wires_taken : (from to : ℕ) → u.sent from to ≡ []
    pub numbers_taken : (from to : ℕ) → r.sent from to ≡ []

  after_alone : (u : Unplaced Plain Bool) (e : Emitted) → is_send e.instr.op ≡ false → is_recv e.instr.op ≡ false →
      after_emitted plain_rules u e ≡
      with_wires (record u { states = with_at u.states e.worker (made_by plain_rules u e).state }) e.worker (made_by plain_rules u e).wires
  after_alone u e s t =
      ap (λ b. cond b
      (with_wires (with_sent u e.worker e.instr.imm (u.sent e.worker e.instr.imm ++ wires_of_arg u e.worker e.instr 0 ∷ [])) e.worker [])
      (cond (is_recv e.instr.op)
      (with_wires (with_sent u e.instr.imm e.worker (drop 1 (u.sent e.instr.imm e.worker))) e.worker
      (get_or (u.sent e.instr.imm e.worker) 0 []))
      (with_wires (record u { states = with_at u.states e.worker (made_by plain_rules u e).state }) e.worker (made_by plain_rules u e).wires))) s
      ∙ ap (λ b. cond b
      (with_wires (with_sent u e.instr.imm e.worker (drop 1 (u.sent e.instr.imm e.worker))) e.worker
      (get_or (u.sent e.instr.imm e.worker) 0 []))
      (with_wires (record u { states = with_at u.states e.worker (made_by plain_rules u e).state }) e.worker (made_by plain_rules u e).wires)) t

  -- one worker's instruction is done, and the others stay
  one_done : (e : Emitted) (es : List Emitted) (u : Unplaced Plain Bool) (r after : Running) → e.worker < count → AllAgree (e ∷ es) u r →
      Steps (instrs e.worker) (own_instrs es e.worker) e.worker e.instr (u.values e.worker) (u.states e.worker) r after →
      AllAgree es (with_wires (record u { states = with_at u.states e.worker (made_by plain_rules u e).state }) e.worker
      (made_by plain_rules u e).wires) after
  one_done e es u r after within h s = record {
    each = λ m below. go m below (nat_eq m e.worker) refl;
    wires_taken = h.wires_taken;
    numbers_taken = λ from to. ap (λ f. f from to) s.effect.sent ∙ h.numbers_taken from to;
  }
    where
      n : ℕ
      n = e.worker

      made : Made Plain Bool (List Bool)
      made = made_by plain_rules u e

      go : (m : ℕ) → m < count → (b : Bool) → nat_eq m e.worker ≡ b →
          Agree m (own_instrs es m) (cond b (u.values e.worker ++ (made_by plain_rules u e).wires ∷ []) (u.values m))
          (cond b (made_by plain_rules u e).state (u.states m)) (after.values m) (after.garbler m) (after.evaluator m) (after.outputs m)
      go m below true f =
          let at : m ≡ e.worker = eqb-true m e.worker f in
          let at_values : after.values m ≡ r.values e.worker ++ s.x ∷ [] = ap (λ g. g m) s.effect.values ∙ ap (λ b. cond b (r.values e.worker ++ s.x ∷ []) (r.values m)) f in
          let at_garbler : after.garbler m ≡ s.garbler = s.effect.garbler_left m ∙ ap (λ b. cond b s.garbler (r.garbler m)) f in
          let at_evaluator : after.evaluator m ≡ s.evaluator = s.effect.evaluator_left m ∙ ap (λ b. cond b s.evaluator (r.evaluator m)) f in
          let at_outputs : after.outputs m ≡ s.outputs = s.effect.put m ∙ ap (λ b. cond b s.outputs (r.outputs m)) f in
          subst (λ v. Agree m (own_instrs es m) (u.values e.worker ++ (made_by plain_rules u e).wires ∷ []) (made_by plain_rules u e).state v (after.garbler m) (after.evaluator m) (after.outputs m)) (sym at_values)
          (subst (λ g. Agree m (own_instrs es m) (u.values e.worker ++ (made_by plain_rules u e).wires ∷ []) (made_by plain_rules u e).state (r.values e.worker ++ s.x ∷ []) g (after.evaluator m) (after.outputs m)) (sym at_garbler)
          (subst (λ g. Agree m (own_instrs es m) (u.values e.worker ++ (made_by plain_rules u e).wires ∷ []) (made_by plain_rules u e).state (r.values e.worker ++ s.x ∷ []) s.garbler g (after.outputs m)) (sym at_evaluator)
          (subst (λ g. Agree m (own_instrs es m) (u.values e.worker ++ (made_by plain_rules u e).wires ∷ []) (made_by plain_rules u e).state (r.values e.worker ++ s.x ∷ []) s.garbler s.evaluator g) (sym at_outputs)
          (subst (λ k. Agree k (own_instrs es k) (u.values e.worker ++ (made_by plain_rules u e).wires ∷ []) (made_by plain_rules u e).state (r.values e.worker ++ s.x ∷ []) s.garbler s.evaluator s.outputs) (sym at) s.agrees))))
      go m below false f =
          let at_values : after.values m ≡ r.values m = ap (λ g. g m) s.effect.values ∙ ap (λ b. cond b (r.values e.worker ++ s.x ∷ []) (r.values m)) f in
          let at_garbler : after.garbler m ≡ r.garbler m = s.effect.garbler_left m ∙ ap (λ b. cond b s.garbler (r.garbler m)) f in
          let at_evaluator : after.evaluator m ≡ r.evaluator m = s.effect.evaluator_left m ∙ ap (λ b. cond b s.evaluator (r.evaluator m)) f in
          let at_outputs : after.outputs m ≡ r.outputs m = s.effect.put m ∙ ap (λ b. cond b s.outputs (r.outputs m)) f in
          let rest : own_instrs (e ∷ es) m ≡ own_instrs es m = own_instrs-other e es m
          (λ same. let t : true ≡ false = sym (eq-eqb m e.worker (sym same)) ∙ f in absurd cc) in
          subst (λ v. Agree m (own_instrs es m) (u.values m) (u.states m) v (after.garbler m) (after.evaluator m) (after.outputs m)) (sym at_values)
          (subst (λ g. Agree m (own_instrs es m) (u.values m) (u.states m) (r.values m) g (after.evaluator m) (after.outputs m)) (sym at_garbler)
          (subst (λ g. Agree m (own_instrs es m) (u.values m) (u.states m) (r.values m) (r.garbler m) g (after.outputs m)) (sym at_evaluator)
          (subst (λ g. Agree m (own_instrs es m) (u.values m) (u.states m) (r.values m) (r.garbler m) (r.evaluator m) g) (sym at_outputs)
          (subst (λ l. Agree m l (u.values m) (u.states m) (r.values m) (r.garbler m) (r.evaluator m) (r.outputs m)) rest (h.each m below)))))

  pub alone_agrees : (e : Emitted) (es : List Emitted) (u : Unplaced Plain Bool) (r : Running) → is_transfer e.instr.op ≡ false →
      e.worker < count → AllAgree (e ∷ es) u r → AllAgree es (after_emitted plain_rules u e) (after_instr e.worker e.instr r)
  unfolding after_instr
  alone_agrees e es u r none within h =
      subst (λ x. AllAgree es x (acted e.instr.op e.worker e.instr r)) (sym (after_alone u e links.0 links.1))
      (one_done e es u r (acted e.instr.op e.worker e.instr r) within h (go (kind_of e.instr.op links.0 links.1)))
    where
      links : (is_send e.instr.op ≡ false) × (is_recv e.instr.op ≡ false)
      links = neither (is_send e.instr.op) (is_recv e.instr.op) none

      mine : Agree e.worker (e.instr ∷ own_instrs es e.worker) (u.values e.worker) (u.states e.worker) (r.values e.worker)
          (r.garbler e.worker) (r.evaluator e.worker) (r.outputs e.worker)
      mine = subst (λ l. Agree e.worker l (u.values e.worker) (u.states e.worker) (r.values e.worker)
          (r.garbler e.worker) (r.evaluator e.worker) (r.outputs e.worker)) (own_instrs-first e es) (h.each e.worker within)

      go : Kind e.instr.op → Steps (instrs e.worker) (own_instrs es e.worker) e.worker e.instr (u.values e.worker) (u.states e.worker) r
          (acted e.instr.op e.worker e.instr r)
      go (takes is) = subst (λ o. Steps (instrs e.worker) (own_instrs es e.worker) e.worker e.instr (u.values e.worker) (u.states e.worker) r
          (acted o e.worker e.instr r)) (sym is)
          (step_takes right (instrs e.worker) (own_instrs es e.worker) e.worker e.instr (u.values e.worker) (u.states e.worker) r
          (sound e.worker within) mine is)
      go (puts is) = subst (λ o. Steps (instrs e.worker) (own_instrs es e.worker) e.worker e.instr (u.values e.worker) (u.states e.worker) r
          (acted o e.worker e.instr r)) (sym is)
          (step_puts right (instrs e.worker) (own_instrs es e.worker) e.worker e.instr (u.values e.worker) (u.states e.worker) r
          (sound e.worker within) mine is)
      go (reckons is) = subst (λ a. Steps (instrs e.worker) (own_instrs es e.worker) e.worker e.instr (u.values e.worker) (u.states e.worker) r a)
          (sym (acted_computes e.instr.op e.worker e.instr r is))
          (step_reckons right (instrs e.worker) (own_instrs es e.worker) e.worker e.instr (u.values e.worker) (u.states e.worker) r
          (sound e.worker within) mine is (no_input e.instr.op is) (no_output e.instr.op is))

  -- a Send and its Recv: the wires of the number go over
  pub transfer_agrees : (send recv : Emitted) (es : List Emitted) (u : Unplaced Plain Bool) (r : Running) → IsTransfer count send recv →
      AllAgree (send ∷ recv ∷ es) u r →
      AllAgree es (after_emitted plain_rules (after_emitted plain_rules u send) recv)
      (after_instr recv.worker recv.instr (after_instr send.worker send.instr r))
  unfolding after_instr
  transfer_agrees send recv es u r is h =
      subst (λ x. AllAgree es x (acted recv.instr.op recv.worker recv.instr (acted send.instr.op send.worker send.instr r))) (sym u_is)
      (subst (λ x. AllAgree es (taken_wires (sent_wires u)) x) (sym r_is)
      (record {
        each = λ m below. go m below (nat_eq m send.worker) (nat_eq m recv.worker) refl refl;
        wires_taken = λ from to. none_wires from to (nat_eq from send.worker) refl;
        numbers_taken = λ from to. none_numbers from to (nat_eq from send.worker) refl;
      }))
    where
      wires : List Bool
      wires = get_or (u.values send.worker) (arg_of send.instr 0) []

      x : ℕ
      x = get_or (r.values send.worker) (arg_of send.instr 0) 0

      sent_wires : Unplaced Plain Bool → Unplaced Plain Bool
      sent_wires v = with_wires (with_sent v send.worker recv.worker (v.sent send.worker recv.worker
          ++ get_or (v.values send.worker) (arg_of send.instr 0) [] ∷ [])) send.worker []

      taken_wires : Unplaced Plain Bool → Unplaced Plain Bool
      taken_wires v = with_wires (with_sent v send.worker recv.worker (drop 1 (v.sent send.worker recv.worker))) recv.worker
          (get_or (v.sent send.worker recv.worker) 0 [])

      sent_number : Running → Running
      sent_number q = means.with_value send.worker 0 (record q {
        sent = with_at q.sent send.worker
            (with_at (q.sent send.worker) recv.worker (q.sent send.worker recv.worker ++ get_or (q.values send.worker) (arg_of send.instr 0) 0 ∷ []));
      })

      taken_number : Running → Running
      taken_number q = means.with_value recv.worker (get_or (q.sent send.worker recv.worker) 0 0) (record q {
        sent = with_at q.sent send.worker
            (with_at (q.sent send.worker) recv.worker (drop 1 (q.sent send.worker recv.worker)));
      })

      u_is : after_emitted plain_rules (after_emitted plain_rules u send) recv ≡ taken_wires (sent_wires u)
      u_is = ap (λ v. after_emitted plain_rules v recv) (sending send is.sends is.to) ∙ receiving recv (sent_wires u) is.receives is.from
        where
          sending : (e : Emitted) → e.instr.op ≡ op.Send → e.instr.imm ≡ recv.worker →
              after_emitted plain_rules u e ≡ with_wires (with_sent u e.worker recv.worker (u.sent e.worker recv.worker
              ++ get_or (u.values e.worker) (arg_of e.instr 0) [] ∷ [])) e.worker []
          sending e s t =
              ap (λ b. cond b (with_wires (with_sent u e.worker e.instr.imm (u.sent e.worker e.instr.imm ++ wires_of_arg u e.worker e.instr 0 ∷ [])) e.worker [])
              (cond (is_recv e.instr.op)
              (with_wires (with_sent u e.instr.imm e.worker (drop 1 (u.sent e.instr.imm e.worker))) e.worker (get_or (u.sent e.instr.imm e.worker) 0 []))
              (with_wires (record u { states = with_at u.states e.worker (made_by plain_rules u e).state }) e.worker (made_by plain_rules u e).wires)))
              (ap is_send s)
              ∙ ap (λ k. with_wires (with_sent u e.worker k (u.sent e.worker k ++ wires_of_arg u e.worker e.instr 0 ∷ [])) e.worker []) t

          receiving : (e : Emitted) (v : Unplaced Plain Bool) → e.instr.op ≡ op.Recv → e.instr.imm ≡ send.worker →
              after_emitted plain_rules v e ≡ with_wires (with_sent v send.worker e.worker (drop 1 (v.sent send.worker e.worker))) e.worker
              (get_or (v.sent send.worker e.worker) 0 [])
          receiving e v s t =
              ap (λ b. cond b (with_wires (with_sent v e.worker e.instr.imm (v.sent e.worker e.instr.imm ++ wires_of_arg v e.worker e.instr 0 ∷ [])) e.worker [])
              (cond (is_recv e.instr.op)
              (with_wires (with_sent v e.instr.imm e.worker (drop 1 (v.sent e.instr.imm e.worker))) e.worker (get_or (v.sent e.instr.imm e.worker) 0 []))
              (with_wires (record v { states = with_at v.states e.worker (made_by plain_rules v e).state }) e.worker (made_by plain_rules v e).wires)))
              (ap is_send s)
              ∙ ap (λ b. cond b
              (with_wires (with_sent v e.instr.imm e.worker (drop 1 (v.sent e.instr.imm e.worker))) e.worker (get_or (v.sent e.instr.imm e.worker) 0 []))
              (with_wires (record v { states = with_at v.states e.worker (made_by plain_rules v e).state }) e.worker (made_by plain_rules v e).wires))
              (ap is_recv s)
              ∙ ap (λ k. with_wires (with_sent v k e.worker (drop 1 (v.sent k e.worker))) e.worker (get_or (v.sent k e.worker) 0 [])) t

      r_is : acted recv.instr.op recv.worker recv.instr (acted send.instr.op send.worker send.instr r) ≡ taken_number (sent_number r)
      r_is = ap (λ o. acted recv.instr.op recv.worker recv.instr (acted o send.worker send.instr r)) is.sends
          ∙ ap (λ o. acted o recv.worker recv.instr (acted op.Send send.worker send.instr r)) is.receives
          ∙ ap (λ k. acted op.Recv recv.worker recv.instr (means.with_value send.worker 0 (record r {
            sent = with_at r.sent send.worker
                (with_at (r.sent send.worker) k (r.sent send.worker k ++ get_or (r.values send.worker) (arg_of send.instr 0) 0 ∷ []));
          }))) is.to
          ∙ ap (λ k. means.with_value recv.worker (get_or ((sent_number r).sent k recv.worker) 0 0) (record (sent_number r) {
            sent = with_at (sent_number r).sent k
                (with_at ((sent_number r).sent k) recv.worker (drop 1 ((sent_number r).sent k recv.worker)));
          })) is.from

      ab : nat_eq send.worker recv.worker ≡ false
      ab = not_eq send.worker recv.worker is.apart

      ba : nat_eq recv.worker send.worker ≡ false
      ba = not_eq recv.worker send.worker (λ e. is.apart (sym e))

      wires_sent : (sent_wires u).sent send.worker recv.worker ≡ get_or (u.values send.worker) (arg_of send.instr 0) [] ∷ []
      wires_sent = ap (λ f. f recv.worker) (with_here u.sent send.worker (with_at (u.sent send.worker) recv.worker
          (u.sent send.worker recv.worker ++ get_or (u.values send.worker) (arg_of send.instr 0) [] ∷ [])))
          ∙ with_here (u.sent send.worker) recv.worker (u.sent send.worker recv.worker ++ get_or (u.values send.worker) (arg_of send.instr 0) [] ∷ [])
          ∙ ap (λ l. l ++ get_or (u.values send.worker) (arg_of send.instr 0) [] ∷ []) (h.wires_taken send.worker recv.worker)

      number_sent : (sent_number r).sent send.worker recv.worker ≡ get_or (r.values send.worker) (arg_of send.instr 0) 0 ∷ []
      number_sent = ap (λ f. f recv.worker) (with_here r.sent send.worker (with_at (r.sent send.worker) recv.worker
          (r.sent send.worker recv.worker ++ get_or (r.values send.worker) (arg_of send.instr 0) 0 ∷ [])))
          ∙ with_here (r.sent send.worker) recv.worker (r.sent send.worker recv.worker ++ get_or (r.values send.worker) (arg_of send.instr 0) 0 ∷ [])
          ∙ ap (λ l. l ++ get_or (r.values send.worker) (arg_of send.instr 0) 0 ∷ []) (h.numbers_taken send.worker recv.worker)

      none_wires : (from to : ℕ) (b : Bool) → nat_eq from send.worker ≡ b → (taken_wires (sent_wires u)).sent from to ≡ []
      none_wires from to true e = ap (λ k. (taken_wires (sent_wires u)).sent k to) (eqb-true from send.worker e)
          ∙ ap (λ f. f to) (with_here (sent_wires u).sent send.worker (with_at ((sent_wires u).sent send.worker) recv.worker
          (drop 1 ((sent_wires u).sent send.worker recv.worker)))) ∙ go' (nat_eq to recv.worker) refl
        where
          go' : (c : Bool) → nat_eq to recv.worker ≡ c →
              cond c (drop 1 ((sent_wires u).sent send.worker recv.worker)) ((sent_wires u).sent send.worker to) ≡ []
          go' true f = ap (drop 1) wires_sent
          go' false f = ap (λ g. g to) (with_here u.sent send.worker (with_at (u.sent send.worker) recv.worker
              (u.sent send.worker recv.worker ++ get_or (u.values send.worker) (arg_of send.instr 0) [] ∷ [])))
              ∙ with_other (u.sent send.worker) recv.worker _ to f ∙ h.wires_taken send.worker to
      none_wires from to false e = ap (λ f. f to) (with_other (sent_wires u).sent send.worker _ from e)
          ∙ ap (λ f. f to) (with_other u.sent send.worker _ from e) ∙ h.wires_taken from to

      none_numbers : (from to : ℕ) (b : Bool) → nat_eq from send.worker ≡ b → (taken_number (sent_number r)).sent from to ≡ []
      none_numbers from to true e = ap (λ k. (taken_number (sent_number r)).sent k to) (eqb-true from send.worker e)
          ∙ ap (λ f. f to) (with_here (sent_number r).sent send.worker (with_at ((sent_number r).sent send.worker) recv.worker
          (drop 1 ((sent_number r).sent send.worker recv.worker)))) ∙ go' (nat_eq to recv.worker) refl
        where
          go' : (c : Bool) → nat_eq to recv.worker ≡ c →
              cond c (drop 1 ((sent_number r).sent send.worker recv.worker)) ((sent_number r).sent send.worker to) ≡ []
          go' true f = ap (drop 1) number_sent
          go' false f = ap (λ g. g to) (with_here r.sent send.worker (with_at (r.sent send.worker) recv.worker
              (r.sent send.worker recv.worker ++ get_or (r.values send.worker) (arg_of send.instr 0) 0 ∷ [])))
              ∙ with_other (r.sent send.worker) recv.worker _ to f ∙ h.numbers_taken send.worker to
      none_numbers from to false e = ap (λ f. f to) (with_other (sent_number r).sent send.worker _ from e)
          ∙ ap (λ f. f to) (with_other r.sent send.worker _ from e) ∙ h.numbers_taken from to

      -- a worker whose next instruction gives a value that needs none of its driver
      goes_on : (n : ℕ) (i : Instr) (rest : List Instr) (w : List Bool) (v : ℕ) → is_input i.op ≡ false → is_output i.op ≡ false →
          (has_result i.op ≡ true → (w ≡ bits v (width_of_result i.op i.width)) × (v < 2 ^ width_of_result i.op i.width)) →
          Agree n (i ∷ rest) (u.values n) (u.states n) (r.values n) (r.garbler n) (r.evaluator n) (r.outputs n) →
          Agree n rest (u.values n ++ w ∷ []) (u.states n) (r.values n ++ v ∷ []) (r.garbler n) (r.evaluator n) (r.outputs n)
      goes_on n i rest w v input output new a = record {
        tells = tells_more (instrs n) (u.values n) (r.values n) i w v a.tells
            (next_here (instrs n) i rest (u.values n) (u.states n) (r.values n) (r.garbler n) (r.evaluator n) (r.outputs n) a) new;
        garbler_left = a.garbler_left;
        evaluator_left = a.evaluator_left;
        put = a.put;
        room = let b = a.room in
            let c : outputs_in (i ∷ rest) ≡ outputs_in rest = ap (λ t. cond t 1 0 + outputs_in rest) output ∙ (let d : 0 + outputs_in rest ≡ outputs_in rest = omega arith in d) in
            omega arith;
        fits = record {
          garbler_fits = fit_other party.Garbler i rest (r.garbler n) (ap (λ t. t && nat_eq i.imm 0) input) a.fits.garbler_fits;
          evaluator_fits = fit_other party.Evaluator i rest (r.evaluator n) (ap (λ t. t && nat_eq i.imm 1) input) a.fits.evaluator_fits;
        };
        done = a.done ++ i ∷ [];
        split = a.split ∙ sym (append_assoc a.done (i ∷ []) rest);
        count = length-append a.done (i ∷ []) ∙ ap (λ k. k + 1) a.count ∙ sym (length-append (u.values n) (w ∷ []));
      }

      sender : Agree send.worker (own_instrs es send.worker) (u.values send.worker ++ [] ∷ []) (u.states send.worker)
          (r.values send.worker ++ 0 ∷ []) (r.garbler send.worker) (r.evaluator send.worker) (r.outputs send.worker)
      sender = goes_on send.worker send.instr (own_instrs es send.worker) [] 0 (ap is_input is.sends) (ap is_output is.sends)
          (λ has. absurd (let e : has_result send.instr.op ≡ false = ap has_result is.sends in let c : true ≡ false = sym has ∙ e in cc))
          (subst (λ l. Agree send.worker l (u.values send.worker) (u.states send.worker) (r.values send.worker) (r.garbler send.worker)
          (r.evaluator send.worker) (r.outputs send.worker))
          (own_instrs-first send (recv ∷ es) ∙ ap (λ l. send.instr ∷ l) (own_instrs-other recv es send.worker (λ e. is.apart (sym e))))
          (h.each send.worker is.sender))

      told : (get_or (u.values send.worker) (arg_of send.instr 0) [] ≡ bits (get_or (r.values send.worker) (arg_of send.instr 0) 0)
          (width_of_arg send.instr.op send.instr.width send.instr.imm 0))
          × (get_or (r.values send.worker) (arg_of send.instr 0) 0 < 2 ^ width_of_arg send.instr.op send.instr.width send.instr.imm 0)
      told =
          let a = h.each send.worker is.sender in
          arg_tells (instrs send.worker) (u.values send.worker) (r.values send.worker) send.instr 0 (sound send.worker is.sender)
          (next_here (instrs send.worker) send.instr (own_instrs (recv ∷ es) send.worker) (u.values send.worker) (u.states send.worker)
          (r.values send.worker) (r.garbler send.worker) (r.evaluator send.worker) (r.outputs send.worker)
          (subst (λ l. Agree send.worker l (u.values send.worker) (u.states send.worker) (r.values send.worker) (r.garbler send.worker)
          (r.evaluator send.worker) (r.outputs send.worker)) (own_instrs-first send (recv ∷ es)) a))
          a.tells (subst (λ o. 0 < arity_of o) (sym is.sends) (omega arith))

      wide : width_of_arg send.instr.op send.instr.width send.instr.imm 0 ≡ width_of_result recv.instr.op recv.instr.width
      wide = ap (λ o. width_of_arg o send.instr.width send.instr.imm 0) is.sends ∙ is.same_width
          ∙ sym (ap (λ o. width_of_result o recv.instr.width) is.receives)

      receiver : Agree recv.worker (own_instrs es recv.worker)
          (u.values recv.worker ++ get_or (u.values send.worker) (arg_of send.instr 0) [] ∷ []) (u.states recv.worker)
          (r.values recv.worker ++ get_or (r.values send.worker) (arg_of send.instr 0) 0 ∷ []) (r.garbler recv.worker) (r.evaluator recv.worker)
          (r.outputs recv.worker)
      receiver = goes_on recv.worker recv.instr (own_instrs es recv.worker) (get_or (u.values send.worker) (arg_of send.instr 0) [])
          (get_or (r.values send.worker) (arg_of send.instr 0) 0) (ap is_input is.receives) (ap is_output is.receives)
          (λ has. subst (λ k. (get_or (u.values send.worker) (arg_of send.instr 0) [] ≡ bits (get_or (r.values send.worker) (arg_of send.instr 0) 0) k)
          × (get_or (r.values send.worker) (arg_of send.instr 0) 0 < 2 ^ k)) wide told)
          (subst (λ l. Agree recv.worker l (u.values recv.worker) (u.states recv.worker) (r.values recv.worker) (r.garbler recv.worker)
          (r.evaluator recv.worker) (r.outputs recv.worker))
          (own_instrs-other send (recv ∷ es) recv.worker is.apart ∙ own_instrs-first recv es)
          (h.each recv.worker is.receiver))

      go : (m : ℕ) → m < count → (a b : Bool) → nat_eq m send.worker ≡ a → nat_eq m recv.worker ≡ b →
          Agree m (own_instrs es m) ((taken_wires (sent_wires u)).values m) (u.states m) ((taken_number (sent_number r)).values m)
          (r.garbler m) (r.evaluator m) (r.outputs m)
      go m below true b e f =
          let at = eqb-true m send.worker e in
          subst (λ k. Agree k (own_instrs es k) ((taken_wires (sent_wires u)).values k) (u.states k) ((taken_number (sent_number r)).values k)
          (r.garbler k) (r.evaluator k) (r.outputs k)) (sym at)
          (subst (λ w. Agree send.worker (own_instrs es send.worker) w (u.states send.worker) ((taken_number (sent_number r)).values send.worker)
          (r.garbler send.worker) (r.evaluator send.worker) (r.outputs send.worker))
          (sym (with_other (sent_wires u).values recv.worker _ send.worker ab ∙ with_here u.values send.worker (u.values send.worker ++ [] ∷ [])))
          (subst (λ w. Agree send.worker (own_instrs es send.worker) (u.values send.worker ++ [] ∷ []) (u.states send.worker) w
          (r.garbler send.worker) (r.evaluator send.worker) (r.outputs send.worker))
          (sym (with_other (sent_number r).values recv.worker _ send.worker ab ∙ with_here r.values send.worker (r.values send.worker ++ 0 ∷ [])))
          sender))
      go m below false true e f =
          let at = eqb-true m recv.worker f in
          subst (λ k. Agree k (own_instrs es k) ((taken_wires (sent_wires u)).values k) (u.states k) ((taken_number (sent_number r)).values k)
          (r.garbler k) (r.evaluator k) (r.outputs k)) (sym at)
          (subst (λ w. Agree recv.worker (own_instrs es recv.worker) w (u.states recv.worker) ((taken_number (sent_number r)).values recv.worker)
          (r.garbler recv.worker) (r.evaluator recv.worker) (r.outputs recv.worker))
          (sym (with_here (sent_wires u).values recv.worker ((sent_wires u).values recv.worker ++ get_or ((sent_wires u).sent send.worker recv.worker) 0 [] ∷ [])
          ∙ ap (λ v. v ++ get_or ((sent_wires u).sent send.worker recv.worker) 0 [] ∷ []) (with_other u.values send.worker (u.values send.worker ++ [] ∷ []) recv.worker ba)
          ∙ ap (λ l. u.values recv.worker ++ get_or l 0 [] ∷ []) wires_sent))
          (subst (λ w. Agree recv.worker (own_instrs es recv.worker) (u.values recv.worker ++ get_or (u.values send.worker) (arg_of send.instr 0) [] ∷ [])
          (u.states recv.worker) w (r.garbler recv.worker) (r.evaluator recv.worker) (r.outputs recv.worker))
          (sym (with_here (sent_number r).values recv.worker ((sent_number r).values recv.worker ++ get_or ((sent_number r).sent send.worker recv.worker) 0 0 ∷ [])
          ∙ ap (λ v. v ++ get_or ((sent_number r).sent send.worker recv.worker) 0 0 ∷ []) (with_other r.values send.worker (r.values send.worker ++ 0 ∷ []) recv.worker ba)
          ∙ ap (λ l. r.values recv.worker ++ get_or l 0 0 ∷ []) number_sent))
          receiver))
      go m below false false e f =
          subst (λ w. Agree m (own_instrs es m) w (u.states m) ((taken_number (sent_number r)).values m) (r.garbler m) (r.evaluator m) (r.outputs m))
          (sym (with_other (sent_wires u).values recv.worker _ m f ∙ with_other u.values send.worker (u.values send.worker ++ [] ∷ []) m e))
          (subst (λ w. Agree m (own_instrs es m) (u.values m) (u.states m) w (r.garbler m) (r.evaluator m) (r.outputs m))
          (sym (with_other (sent_number r).values recv.worker _ m f ∙ with_other r.values send.worker (r.values send.worker ++ 0 ∷ []) m e))
          (subst (λ l. Agree m l (u.values m) (u.states m) (r.values m) (r.garbler m) (r.evaluator m) (r.outputs m))
          (own_instrs-other send (recv ∷ es) m (λ same. let t : true ≡ false = sym (eq-eqb m send.worker (sym same)) ∙ e in absurd cc)
          ∙ own_instrs-other recv es m (λ same. let t : true ≡ false = sym (eq-eqb m recv.worker (sym same)) ∙ f in absurd cc))
          (h.each m below)))

  -- all of them
  pub program_agrees : (es : List Emitted) → AreLinked count es → (u : Unplaced Plain Bool) (r : Running) → AllAgree es u r →
      AllAgree [] (run_of plain_rules u es) (run_all es r)
  program_agrees [] nothing u r h = h
  program_agrees (e ∷ es) (alone none within rest) u r h =
      program_agrees es rest (after_emitted plain_rules u e) (after_instr e.worker e.instr r) (alone_agrees e es u r none within h)
  program_agrees (send ∷ recv ∷ es) (transfer is rest) u r h =
      program_agrees es rest (after_emitted plain_rules (after_emitted plain_rules u send) recv)
      (after_instr recv.worker recv.instr (after_instr send.worker send.instr r)) (transfer_agrees send recv es u r is h)
