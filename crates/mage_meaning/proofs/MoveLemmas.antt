-- A value that is moved from another worker is the one that stands there.
use Rattle.std.proofs.Common.{◌≡◌, ℕ, true, false, eqb, List, [], ◌∷◌, ◌++◌, map, drop, Some, Ok, refl, sym, ap, ◌∙◌, subst, ⊎_elim}
use Rattle.std.specs.Prelude.{slice_index}
use Rattle.std.proofs.lemmas.Bool.{eqb-true, cases_Bool, cases_eq, cond-true, cond-false}
use Rattle.mage_instr.specs.declared.instr.Instr.{Instr}
use Rattle.mage_instr.specs.declared.op.Op.TheVariants as op
use Rattle.mage_lex.specs.declared.token.Token.{Token}
use Rattle.mage_linked.specs.declared.emitted.Emitted.{Emitted}
use Rattle.mage_unroll.specs.declared.state.Variable.{Variable}
use Rattle.mage_linked.specs.Workers.{below}
use Rattle.mage_unroll.specs.declared.state.Held.{Held}
use Rattle.mage_unroll.specs.State as state
use Rattle.mage_linked.specs.Emission.{count_of}
use Rattle.mage_unroll.specs.State.{State, instr_of, defined, emitted}
use Rattle.mage_unroll.specs.Statements.{transferred, moved, named_scalar}
use Rattle.mage_meaning.specs.declared.known.Known.TheVariants as known
use Rattle.mage_meaning.specs.declared.known.Wide.{Wide}
use Rattle.mage_linked.specs.Workers.{with_at}
use Rattle.mage_meaning.specs.Given.{Given}
use Rattle.mage_meaning.specs.Means.{Running, with_value, after_instr}
use Rattle.mage_meaning.specs.Value as value
use Rattle.mage_meaning.specs.Value.{Moment}
use Rattle.mage_meaning.proofs.Agree.{Stands, Agree, SameNames-Extends, Agree-bound}
use Rattle.mage_unroll.proofs.SoundStates.{after_emission, emitted_is, defined_is}
use Rattle.mage_meaning.proofs.EmissionLemmas.{last_value, value_of_variable}
use Rattle.mage_meaning.proofs.PlaceLemmas.{HeldFor}
use Rattle.mage_chains.proofs.Ends.{then_ok, same_Ok}
use Rattle.mage_linked.proofs.WorkerLemmas.{with_at-same, with_at-other}
use Rattle.mage_meaning.proofs.Runs.{ran, ran-push, Extends, Extends-ran}

-- what one worker sent to another that had nothing to take, and what is left once that one takes it
abbrev sent_one : (ℕ → ℕ → List ℕ) → (from to x : ℕ) → (ℕ → ℕ → List ℕ)
sent_one sent from to x = with_at sent from (with_at (sent from) to (sent from to ++ x ∷ []))

abbrev took_one : (ℕ → ℕ → List ℕ) → (from to : ℕ) → (ℕ → ℕ → List ℕ)
took_one sent from to = with_at sent from (with_at (sent from) to (drop 1 (sent from to)))

sent-is : (sent : ℕ → ℕ → List ℕ) (from to x : ℕ) → ((v w : ℕ) → sent v w ≡ []) → sent_one sent from to x from to ≡ x ∷ []
sent-is sent from to x h =
    ap (λ (f : ℕ → List ℕ). f to) (with_at-same sent from (with_at (sent from) to (sent from to ++ x ∷ [])))
    ∙ with_at-same (sent from) to (sent from to ++ x ∷ []) ∙ ap (λ l. l ++ x ∷ []) (h from to)

took-is : (sent : ℕ → ℕ → List ℕ) (from to x : ℕ) → ((v w : ℕ) → sent v w ≡ []) → (v w : ℕ) → took_one (sent_one sent from to x) from to v w ≡ []
took-is sent from to x h v w = ⊎_elim (λ e. subst (λ u. took_one now from to u w ≡ []) (sym e) at_from) elsewhere (cases_eq v from)
  where
    now : ℕ → ℕ → List ℕ
    now = sent_one sent from to x

    at_to : w ≡ to → with_at (now from) to (drop 1 (now from to)) w ≡ []
    at_to e =
        let here = with_at-same (now from) to (drop 1 (now from to)) ∙ ap (λ (l : List ℕ). drop 1 l) (sent-is sent from to x h) in
        subst (λ u. with_at (now from) to (drop 1 (now from to)) u ≡ []) (sym e) here

    beside : (w ≡ to → ⊥) → with_at (now from) to (drop 1 (now from to)) w ≡ []
    beside k =
        with_at-other (now from) to (drop 1 (now from to)) w k
        ∙ ap (λ (f : ℕ → List ℕ). f w) (with_at-same sent from (with_at (sent from) to (sent from to ++ x ∷ [])))
        ∙ with_at-other (sent from) to (sent from to ++ x ∷ []) w k ∙ h from w

    at_from : took_one now from to from w ≡ []
    at_from = ap (λ (f : ℕ → List ℕ). f w) (with_at-same now from (with_at (now from) to (drop 1 (now from to)))) ∙ ⊎_elim at_to beside (cases_eq w to)

    elsewhere : (v ≡ from → ⊥) → took_one now from to v w ≡ []
    elsewhere k =
        ap (λ (f : ℕ → List ℕ). f w) (with_at-other now from (with_at (now from) to (drop 1 (now from to))) v k)
        ∙ ap (λ (f : ℕ → List ℕ). f w) (with_at-other sent from (with_at (sent from) to (sent from to ++ x ∷ [])) v k) ∙ h v w

abbrev send_instr : Held → (to : ℕ) → Instr
send_instr held to = instr_of op.Send held.variable.width (held.variable.index ∷ 0 ∷ 0 ∷ []) to

abbrev recv_instr : Held → Instr
recv_instr held = instr_of op.Recv held.variable.width (0 ∷ 0 ∷ 0 ∷ []) held.worker

-- once a value is sent, and once it is received
abbrev after_send : Held → State → State
after_send held s = after_emission held.worker (send_instr held s.worker) s

abbrev after_recv : Held → State → State
after_recv held s = after_emission s.worker (recv_instr held) s

transferred-parts : (word : Token) (held : Held) (s s2 : State) (v : Variable) → transferred word held s ≡ Ok (v, s2) → (s1 : State) × (emitted word held.worker (send_instr held s.worker) s ≡ Ok s1) × (defined word (recv_instr held) s1 ≡ Ok (v, s2))
unfolding transferred
transferred-parts word held s s2 v h = then_ok (emitted word held.worker (send_instr held s.worker) s) _ (v, s2) h

module _ (given : Given) (workers : ℕ) where
  record Moves (held : Held) (x : Wide) (s s' : State) (m : Moment) (v : Variable) : Type 0 where
    agree : Agree given workers s' m
    stands : Stands ((ran given s'.program).values s.worker) v x

  Moves-emissions : (held : Held) (x : Wide) (s : State) (m : Moment) → Agree given workers s m → HeldFor given workers s held x → Moves held x s (after_recv held (after_send held s)) m (record { width = held.variable.width; index = count_of s.worker (after_send held s).program })
  unfolding after_instr
  Moves-emissions held x s m a h =
      let w = held.worker in
      let c = s.worker in
      let p = s.program in
      let r = ran given p in
      let e1 : Emitted = record { worker = w; instr = send_instr held c } in
      let p1 = p ++ e1 ∷ [] in
      let r1 = ran given p1 in
      let e2 : Emitted = record { worker = c; instr = recv_instr held } in
      let p2 = p1 ++ e2 ∷ [] in
      let y = slice_index (r.values w) held.variable.index in
      let run1 : r1 ≡ with_value w 0 (record r { sent = sent_one r.sent w c y }) = ran-push given p e1 in
      let now : Running = record r1 { sent = took_one r1.sent w c } in
      let run2 : ran given p2 ≡ with_value c (slice_index (r1.sent w c) 0) now = ran-push given p1 e2 in
      let sent = ap (λ (z : Running). z.sent) run1 in
      let first = ap (λ (f : ℕ → ℕ → List ℕ). slice_index (f w c) 0) sent ∙ ap (λ (l : List ℕ). slice_index l 0) (sent-is r.sent w c y a.follows.nothing_sent) ∙ value_of_variable given workers s w held.variable x h.1 in
      let there = last_value given workers p1 e2 (slice_index (r1.sent w c) 0) now refl run2 ∙ ap Some first in
      let kept : Extends r.values (ran given p2).values = λ v i z k. Extends-ran given p1 e2 v i z (Extends-ran given p e1 v i z k) in
      record {
        agree = record {
          worker = a.worker;
          within = a.within;
          count = a.count;
          names = SameNames-Extends given workers p p2 s.scopes m.scopes kept a.names;
          follows = record {
            garbler_left = ap (λ (z : Running). z.garbler) run2 ∙ ap (λ (z : Running). z.garbler) run1 ∙ a.follows.garbler_left;
            evaluator_left = ap (λ (z : Running). z.evaluator) run2 ∙ ap (λ (z : Running). z.evaluator) run1 ∙ a.follows.evaluator_left;
            outputs_so_far = ap (λ (z : Running). map z.outputs (below workers)) run2 ∙ ap (λ (z : Running). map z.outputs (below workers)) run1 ∙ a.follows.outputs_so_far;
            nothing_sent = λ u v. ap (λ (z : Running). z.sent u v) run2 ∙ ap (λ (f : ℕ → ℕ → List ℕ). took_one f w c u v) sent ∙ took-is r.sent w c y a.follows.nothing_sent u v;
          };
        };
        stands = (there, h.1.1);
      }

  near : (name : Token) (held : Held) (x : Wide) (s : State) (m : Moment) → Agree given workers s m → HeldFor given workers s held x → held.worker ≡ s.worker → Agree given workers (state.bound name (named_scalar s.worker held.variable) s) (value.bound name (known.Number x) m)
  near name held x s m a h e =
      Agree-bound given workers s m name (named_scalar s.worker held.variable) (known.Number x) a (a.within, subst (λ w. Stands ((ran given s.program).values w) held.variable x) e h.1)

  far : (word name : Token) (held : Held) (x : Wide) (s s1 s2 : State) (v : Variable) (m : Moment) → Agree given workers s m → HeldFor given workers s held x → emitted word held.worker (send_instr held s.worker) s ≡ Ok s1 → defined word (recv_instr held) s1 ≡ Ok (v, s2) → Agree given workers (state.bound name (named_scalar s.worker v) s2) (value.bound name (known.Number x) m)
  far word name held x s s1 s2 v m a h e1 e2 =
      let sent = (emitted_is word held.worker (send_instr held s.worker) s s1 e1).1 in
      let is = defined_is word (recv_instr held) (after_send held s) s2 v (subst (λ y. defined word (recv_instr held) y ≡ Ok (v, s2)) (sym sent) e2) in
      let moves = subst (λ v'. Moves held x s s2 m v') is.2 (subst (λ y. Moves held x s y m (record { width = held.variable.width; index = count_of s.worker (after_send held s).program })) is.1 (Moves-emissions held x s m a h)) in
      Agree-bound given workers s2 m name (named_scalar s.worker v) (known.Number x) moves.agree (a.within, moves.stands)

  pub moved-Agree : (word name : Token) (held : Held) (x : Wide) (s s' : State) (m : Moment) → Agree given workers s m → HeldFor given workers s held x → moved word name held s ≡ Ok s' → Agree given workers s' (value.bound name (known.Number x) m)
  unfolding moved
  moved-Agree word name held x s s' m a h e = ⊎_elim here there (cases_Bool (eqb held.worker s.worker))
    where
      here : eqb held.worker s.worker ≡ true → Agree given workers s' (value.bound name (known.Number x) m)
      here t =
          let same = same_Ok (state.bound name (named_scalar s.worker held.variable) s) s' (sym (cond-true (eqb held.worker s.worker) _ _ t) ∙ e) in
          subst (λ y. Agree given workers y (value.bound name (known.Number x) m)) same (near name held x s m a h (eqb-true held.worker s.worker t))

      there : eqb held.worker s.worker ≡ false → Agree given workers s' (value.bound name (known.Number x) m)
      there t =
          let c = then_ok (transferred word held s) _ s' (sym (cond-false (eqb held.worker s.worker) _ _ t) ∙ e) in
          let b = transferred-parts word held s c.0.1 c.0.0 c.1 in
          subst (λ y. Agree given workers y (value.bound name (known.Number x) m)) (same_Ok (state.bound name (named_scalar s.worker c.0.0) c.0.1) s' c.2) (far word name held x s b.0 c.0.1 c.0.0 m a h b.1 b.2)
