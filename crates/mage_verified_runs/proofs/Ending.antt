-- The core's joint run of a verified program follows the verifier's order, and ends.
use Rattle.std.proofs.Common.{◌≡◌, ◌≤◌, ◌<◌, ◌+◌, ◌⊎◌, ℕ, zero, suc, Bool, true, false, cond, not, List, [], ◌∷◌, ◌++◌, length, append-nil, append_assoc, Option, None, Some, refl, sym, ap, ◌∙◌, subst, slice_get, slice_index_or, nat_eq, nat_lt, ◌&&◌, inl, inr, replicate, arith, map}
use Rattle.std.proofs.lemmas.Bool.{eqb-true, eq-eqb, cases_lt}
use Rattle.std.proofs.lemmas.Bool.Decides.{nat_tests}
use Rattle.mage_instr.specs.declared.directive.Directive.{Directive}
use Rattle.mage_instr.specs.declared.directive.Directive.TheVariants as entry
use Rattle.mage_instr.specs.declared.directive.MemProgram.{MemProgram}
use Rattle.mage_instr.specs.declared.op.Op.{Op}
use Rattle.mage_instr.specs.declared.op.Op.TheVariants as op
use Rattle.mage_instr.specs.declared.replaced.Job.{Job}
use Rattle.mage_instr.specs.Opcodes.{WidthOk}
use Rattle.mage_network.specs.Workers.{Act, Moves, Sends, Stops, Worker, Moved, Sent, Took, doing as doing_on}
use Rattle.mage_network.specs.Network as net
use Rattle.mage_network.specs.Together.{Joint, Alone, Hands, joint, joint_run, moves, hands}
use Rattle.mage_network.specs.Pasts.{WentAlone}
use Rattle.mage_network.specs.Slots.{act_of, act_in, or_stops, served_at_once}
use Rattle.mage_network.proofs.Meeting.{together_keeps}
use Rattle.mage_driver.specs.Rules.{Rules}
use Rattle.mage_driver.specs.Calls.{Call, Finish, call_of}
use Rattle.mage_steps.specs.Engines.{advanced, finishes, doing_at}
use Rattle.mage_steps.specs.Core.{Core, directives_of, core_act, core_at_first, engine_of, joint_after}
use Rattle.mage_steps.specs.Orderly.{AreOrderly, Fits, flights_before}
use Rattle.mage_steps.specs.Laws.{EndsInJoint}
use Rattle.mage_steps.proofs.Flights.{FlightsAre, run_keeps}
use Rattle.mage_steps.proofs.Settled.{AreSettled, run_settles}
use Rattle.mage_directives.specs.Directives.{IsDirective, IsPart, IsMemProgram}
use Rattle.mage_verify.specs.declared.turn.Stand.TheVariants as stand
use Rattle.mage_verify.specs.declared.turn.Turn.{Turn}
use Rattle.mage_verify.specs.declared.turn.Turn.TheVariants as turn
use Rattle.mage_verify.specs.Joint.{stand_at, width_at, next_of, stands, first_turn, with_one, after_turn, after_turns, joint_order, then_turns, differing_at, differing, count_all, none_done, order_of, done_of, differing_of}
use Rattle.mage_verify.specs.Parts.{parts_from, parts_of}
use Rattle.mage_verify.specs.Faults.{fault_of, joint_fault}
use Rattle.mage_verify.specs.Faults as faults
use Rattle.mage_verify.specs.Runs.{RunTogether}
use Rattle.mage_verify.proofs.Together.{RunTogether-from_none}
use Rattle.mage_verify.proofs.Tests.{none_second}
use Rattle.mage_verified_runs.specs.Turns.{wire_turns, all_wire_turns, finishing, verified_turns}
use Rattle.mage_verified_runs.proofs.Orderliness.{verified_is_orderly, same_test}
use Rattle.mage_verified_runs.proofs.Moving.{GoesOn, alone_goes, Passes, SendsOn, sends_on, TakesOn, takes_on}
use Rattle.mage_verified_runs.proofs.Order.{IsTurn, first_so, both_none, same_width, no_widths, send_job, recv_job, alone_some, found_in}

-- ---- lists of turns

turns_append : {S L W : Type 0} (next : ℕ → S → Act S L W) (xs ys : List Joint) (ws : ℕ → Worker S L W) →
    joint_run next (xs ++ ys) ws ≡ joint_run next ys (joint_run next xs ws)
turns_append next [] ys ws = refl
turns_append next (x ∷ xs) ys ws = turns_append next xs ys (joint next x ws)

-- beside its workers a program has no directives
pub past_workers : {X : Type 0} (xss : List (List X)) (n : ℕ) → length xss ≤ n → slice_index_or xss n [] ≡ []
past_workers [] zero past = refl
past_workers [] (suc n) past = refl
past_workers (xs ∷ xss) zero past = absurd (omega arith)
past_workers (xs ∷ xss) (suc n) past = past_workers xss n (omega arith)

pub past_end : {X : Type 0} (xs : List X) (d : ℕ) → length xs ≤ d → slice_get xs d ≡ None
past_end [] zero past = refl
past_end [] (suc d) past = refl
past_end (x ∷ xs) zero past = absurd (omega arith)
past_end (x ∷ xs) (suc d) past = past_end xs d (omega arith)

pub in_list : {X : Type 0} (xss : List (List X)) (n : ℕ) (d : ℕ) (x : X) → slice_get (slice_index_or xss n []) d ≡ Some x →
    slice_get xss n ≡ Some (slice_index_or xss n [])
in_list [] zero zero x e = absurd cc
in_list [] zero (suc d) x e = absurd cc
in_list [] (suc n) zero x e = absurd cc
in_list [] (suc n) (suc d) x e = absurd cc
in_list (xs ∷ xss) zero d x e = refl
in_list (xs ∷ xss) (suc n) d x e = in_list xss n d x e

pub directives_are : (plan : MemProgram) (n : ℕ) (workers : List (List Directive)) →
    map (λ part. part.directives) (parts_from plan.limits plan.stores n workers) ≡ workers
directives_are plan n [] = refl
directives_are plan n (directives ∷ workers) = ap (λ xs. directives ∷ xs) (directives_are plan (n + 1) workers)

pub some_width : (workers own : ℕ) (job : Job) → job.op ≡ op.Send → IsDirective workers own (entry.Do job) → 1 ≤ job.width
some_width workers own job is_send h = sent_width job.op job.width job.imm is_send h.width
  where
    sent_width : (o : Op) (width imm : ℕ) → o ≡ op.Send → WidthOk o width imm → 1 ≤ width
    sent_width o width imm e ok = let ok' = subst (λ o'. WidthOk o' width imm) e ok in omega (arith, ok')

module _ {W : Type 0} (rules : Rules W) (plan : MemProgram) (drivers : ℕ → rules.State) where
  abbrev Core' : Type 0
  Core' = Core rules plan

  abbrev after : List Joint → ℕ → Worker Core' (Call rules.State W) (List ℕ)
  after turns = joint_after rules plan drivers turns

  after_more : (turns more : List Joint) → after (turns ++ more) ≡ joint_run (core_act rules plan) more (after turns)
  after_more turns more = turns_append (core_act rules plan) turns more _

  alone_at : (turns : List Joint) (n : ℕ) → WentAlone (core_act rules plan n) (core_at_first rules plan drivers n) (after turns n)
  alone_at turns n =
      (together_keeps (core_act rules plan) (core_at_first rules plan drivers) (λ workers. Unit {0}) (λ workers turn h kept. tt) tt turns).0.alone n

  flights_at : (turns : List Joint) (n : ℕ) → FlightsAre rules plan n (after turns n).state
  flights_at turns n = run_keeps rules plan n (core_at_first rules plan drivers n) (after turns n).past (after turns n).state (λ slot. refl) (alone_at turns n)

  settled_at : (turns : List Joint) (n : ℕ) → AreSettled (after turns n).state
  settled_at turns n = run_settles (engine_of rules plan) n (core_at_first rules plan drivers n) (after turns n).past (after turns n).state (λ slot. refl) (alone_at turns n)

  -- where a worker stands: at a directive, with some wires of it handed over, and its driver not finished
  record IsAt (n : ℕ) (c : Core') (d k : ℕ) : Type 0 where
    place : c.engine.place ≡ d
    wire : c.engine.wire ≡ k
    finished : c.engine.is_finished ≡ not (nat_lt n (length plan.workers))

  -- after these turns each worker has done so many directives
  abbrev Done : List Joint → (ℕ → ℕ) → Type 0
  Done turns done = (n : ℕ) → IsAt n (after turns n).state (done n) 0

  is_at : (n m : ℕ) (c : Core') (p q : ℕ) → n ≡ m → IsAt n c p 0 → p ≡ q → IsAt m c q 0
  is_at n m c p q same h e = subst (λ k. IsAt k c q 0) same (subst (λ k. IsAt n c k 0) e h)

  -- ---- one worker alone

  alone_step : AreOrderly plan → (turns : List Joint) (done : ℕ → ℕ) (w : ℕ) → Done turns done →
      stands (directives_of plan) done w ≡ stand.Alone → Done (turns ++ Alone w ∷ []) (with_one w done)
  alone_step orderly turns done w at alone n =
      subst (λ f. IsAt n (f n).state (with_one w done n) 0) (sym (after_more turns (Alone w ∷ []) ∙ moved))
      (ended (nat_eq w n) refl)
    where
      c : Core'
      c = (after turns w).state

      some : (x : Directive) × (next_of (directives_of plan) done w ≡ Some x)
      some = alone_some (next_of (directives_of plan) done w) alone

      found : slice_get (directives_of plan w) c.engine.place ≡ Some some.0
      found = ap (λ d. slice_get (directives_of plan w) d) (at w).place ∙ some.1

      on : GoesOn rules plan w c
      on = alone_goes rules plan w c some.0 found (ap stand_at (sym some.1) ∙ alone) (flights_at turns w) (settled_at turns w)
          (found_in (Fits (flights_before (directives_of plan w) c.engine.place)) _ some.0 found ((orderly w).each c.engine.place))

      moved : joint (core_act rules plan) (Alone w) (after turns) ≡ net.put (after turns) w (doing_on (after turns w) (Moved on.said) on.after)
      moved = ap (λ act. moves w act (after turns)) on.acts

      ended : (b : Bool) → nat_eq w n ≡ b →
          IsAt n (cond b (doing_on (after turns w) (Moved on.said) on.after) (after turns n)).state (with_one w done n) 0
      ended true e =
          let same : w ≡ n = eqb-true w n e in
          is_at w n on.after (suc (done w)) (with_one w done n) same
          (record { place = on.place ∙ ap suc (at w).place; wire = on.wire; finished = on.finished ∙ (at w).finished })
          (let one : suc (done w) ≡ done w + 1 = omega arith in
          one ∙ ap (λ k. done k + 1) same ∙ sym (ap (λ b. cond b (done n + 1) (done n)) (same_test n w ∙ e)))
      ended false e = subst (λ d. IsAt n (after turns n).state d 0) (sym (ap (λ b. cond b (done n + 1) (done n)) (same_test n w ∙ e))) (at n)

  -- ---- a value handed over

  -- a worker that sends and one that receives, at the same width
  record Meet (done : ℕ → ℕ) (a b width : ℕ) : Type 0 where
    send : Job
    sends : slice_get (directives_of plan a) (done a) ≡ Some (entry.Do send)
    is_send : send.op ≡ op.Send
    to : send.imm ≡ b
    wide : send.width ≡ width
    recv : Job
    receives : slice_get (directives_of plan b) (done b) ≡ Some (entry.Do recv)
    is_recv : recv.op ≡ op.Recv
    from : recv.imm ≡ a
    as_wide : recv.width ≡ width
    apart : nat_eq b a ≡ false

  -- some wires of it are handed over
  record Between (turns : List Joint) (done : ℕ → ℕ) (a b wire : ℕ) : Type 0 where
    first : IsAt a (after turns a).state (done a) wire
    second : IsAt b (after turns b).state (done b) wire
    others : (n : ℕ) → nat_eq a n ≡ false → nat_eq b n ≡ false → IsAt n (after turns n).state (done n) 0

  -- what one wire more leaves
  record Handed (turns : List Joint) (a b width : ℕ) : Type 0 where
    source : Core'
    target : Core'
    source_passes : Passes rules plan width (after turns a).state source
    target_passes : Passes rules plan width (after turns b).state target
    source_is : (after (turns ++ Hands a b ∷ []) a).state ≡ source
    target_is : (after (turns ++ Hands a b ∷ []) b).state ≡ target
    others_are : (n : ℕ) → nat_eq a n ≡ false → nat_eq b n ≡ false → (after (turns ++ Hands a b ∷ []) n).state ≡ (after turns n).state

  handed : (turns : List Joint) (done : ℕ → ℕ) (a b width wire : ℕ) → Meet done a b width → Between turns done a b wire → Handed turns a b width
  handed turns done a b width wire m between = record {
    source = s.after;
    target = t.to s.bytes;
    source_passes = s.passes;
    target_passes = t.passes s.bytes;
    source_is = ap (λ f. (f a).state) whole
        ∙ ap (λ x. (cond x took (net.put ws a sent a)).state) m.apart
        ∙ ap (λ x. (cond x sent (ws a)).state) (eq-eqb a a refl);
    target_is = ap (λ f. (f b).state) whole ∙ ap (λ x. (cond x took (net.put ws a sent b)).state) (eq-eqb b b refl);
    others_are = λ n na nb. ap (λ f. (f n).state) whole
        ∙ ap (λ x. (cond x took (net.put ws a sent n)).state) nb ∙ ap (λ x. (cond x sent (ws n)).state) na;
  }
    where
      ws : ℕ → Worker Core' (Call rules.State W) (List ℕ)
      ws = after turns

      s : SendsOn rules plan a b width (ws a).state
      s = sends_on rules plan a b width (ws a).state m.send
          (ap (λ d. slice_get (directives_of plan a) d) between.first.place ∙ m.sends) m.is_send m.to m.wide

      t : TakesOn rules plan b a width (ws b).state
      t = takes_on rules plan b a width (ws b).state m.recv
          (ap (λ d. slice_get (directives_of plan b) d) between.second.place ∙ m.receives) m.is_recv m.from m.as_wide

      sent : Worker Core' (Call rules.State W) (List ℕ)
      sent = doing_on (ws a) (Sent b s.bytes) s.after

      took : Worker Core' (Call rules.State W) (List ℕ)
      took = doing_on (ws b) (Took a s.bytes) (t.to s.bytes)

      whole : after (turns ++ Hands a b ∷ []) ≡ net.put (net.put ws a sent) b took
      whole = after_more turns (Hands a b ∷ [])
          ∙ ap (λ act. hands a b act (core_act rules plan b (ws b).state) ws) s.acts
          ∙ ap (λ act. hands a b (Sends b s.bytes s.after) act ws) t.acts
          ∙ ap (λ x. cond (x && nat_eq a a) (net.put (net.put ws a sent) b took) ws) (eq-eqb b b refl)
          ∙ ap (λ x. cond x (net.put (net.put ws a sent) b took) ws) (eq-eqb a a refl)

  passed_some : (width : ℕ) (n place wire : ℕ) (before now : Core') → IsAt n before place wire → Passes rules plan width before now →
      suc wire < width → IsAt n now place (suc wire)
  passed_some width n place wire before now at p more = record {
    place = p.place ∙ ap (λ x. (cond x (advanced before.engine) (record before.engine { wire = suc before.engine.wire })).place) off ∙ at.place;
    wire = p.wire ∙ ap (λ x. (cond x (advanced before.engine) (record before.engine { wire = suc before.engine.wire })).wire) off ∙ ap suc at.wire;
    finished = p.finished ∙ at.finished;
  }
    where
      off : nat_eq (suc before.engine.wire) width ≡ false
      off = let here = at.wire in let less : suc before.engine.wire < width = omega (arith, here) in grind (arith, nat_tests)

  passed_last : (width : ℕ) (n place wire : ℕ) (before now : Core') → IsAt n before place wire → Passes rules plan width before now →
      suc wire ≡ width → IsAt n now (suc place) 0
  passed_last width n place wire before now at p last = record {
    place = p.place ∙ ap (λ x. (cond x (advanced before.engine) (record before.engine { wire = suc before.engine.wire })).place) on ∙ ap suc at.place;
    wire = p.wire ∙ ap (λ x. (cond x (advanced before.engine) (record before.engine { wire = suc before.engine.wire })).wire) on;
    finished = p.finished ∙ at.finished;
  }
    where
      on : nat_eq (suc before.engine.wire) width ≡ true
      on = eq-eqb (suc before.engine.wire) width (ap suc at.wire ∙ last)

  hand_more : (turns : List Joint) (done : ℕ → ℕ) (a b width wire : ℕ) → Meet done a b width → Between turns done a b wire → suc wire < width →
      Between (turns ++ Hands a b ∷ []) done a b (suc wire)
  hand_more turns done a b width wire m between more =
      let h = handed turns done a b width wire m between in record {
        first = subst (λ c. IsAt a c (done a) (suc wire)) (sym h.source_is)
            (passed_some width a (done a) wire (after turns a).state h.source between.first h.source_passes more);
        second = subst (λ c. IsAt b c (done b) (suc wire)) (sym h.target_is)
            (passed_some width b (done b) wire (after turns b).state h.target between.second h.target_passes more);
        others = λ n na nb. subst (λ c. IsAt n c (done n) 0) (sym (h.others_are n na nb)) (between.others n na nb);
      }

  hand_last : (turns : List Joint) (done : ℕ → ℕ) (a b width wire : ℕ) → Meet done a b width → Between turns done a b wire → suc wire ≡ width →
      Done (turns ++ Hands a b ∷ []) (after_turn (turn.Hands a b) done)
  hand_last turns done a b width wire m between last n = go (nat_eq a n) (nat_eq b n) refl refl
    where
      h : Handed turns a b width
      h = handed turns done a b width wire m between

      now : List Joint
      now = turns ++ Hands a b ∷ []

      -- how far a worker is then
      far : (x y : Bool) → nat_eq a n ≡ x → nat_eq b n ≡ y →
          after_turn (turn.Hands a b) done n ≡ cond y (cond x (done n + 1) (done n) + 1) (cond x (done n + 1) (done n))
      far x y e f =
          ap (λ z. cond z (with_one a done n + 1) (with_one a done n)) (same_test n b ∙ f)
          ∙ ap (λ z. cond y (cond z (done n + 1) (done n) + 1) (cond z (done n + 1) (done n))) (same_test n a ∙ e)

      go : (x y : Bool) → nat_eq a n ≡ x → nat_eq b n ≡ y → IsAt n (after now n).state (after_turn (turn.Hands a b) done n) 0
      go true true e f =
          let same : b ≡ a = eqb-true b n f ∙ sym (eqb-true a n e) in
          let one : true ≡ false = sym (eq-eqb b a same) ∙ m.apart in absurd cc
      go true false e f =
          let same : a ≡ n = eqb-true a n e in
          subst (λ k. IsAt n (after now n).state k 0) (sym (far true false e f))
          (subst (λ k. IsAt k (after now k).state (done k + 1) 0) same
          (subst (λ c. IsAt a c (done a + 1) 0) (sym h.source_is)
          (subst (λ k. IsAt a h.source k 0) (let one : suc (done a) ≡ done a + 1 = omega arith in one)
          (passed_last width a (done a) wire (after turns a).state h.source between.first h.source_passes last))))
      go false true e f =
          let same : b ≡ n = eqb-true b n f in
          subst (λ k. IsAt n (after now n).state k 0) (sym (far false true e f))
          (subst (λ k. IsAt k (after now k).state (done k + 1) 0) same
          (subst (λ c. IsAt b c (done b + 1) 0) (sym h.target_is)
          (subst (λ k. IsAt b h.target k 0) (let one : suc (done b) ≡ done b + 1 = omega arith in one)
          (passed_last width b (done b) wire (after turns b).state h.target between.second h.target_passes last))))
      go false false e f =
          subst (λ k. IsAt n (after now n).state k 0) (sym (far false false e f))
          (subst (λ c. IsAt n c (done n) 0) (sym (h.others_are n e f)) (between.others n e f))

  hand_all : (left : ℕ) (turns : List Joint) (done : ℕ → ℕ) (a b width wire : ℕ) → Meet done a b width → Between turns done a b wire →
      wire + suc left ≡ width → Done (turns ++ replicate (suc left) (Hands a b)) (after_turn (turn.Hands a b) done)
  hand_all zero turns done a b width wire m between long =
      hand_last turns done a b width wire m between (omega arith)
  hand_all (suc left) turns done a b width wire m between long =
      subst (λ xs. Done xs (after_turn (turn.Hands a b) done)) (append_assoc turns (Hands a b ∷ []) (replicate (suc left) (Hands a b)))
      (hand_all left (turns ++ Hands a b ∷ []) done a b width (suc wire) m (hand_more turns done a b width wire m between (omega arith)) (omega arith))

  -- ---- the whole order

  meets : IsMemProgram plan → (done : ℕ → ℕ) (a b : ℕ) → IsTurn (stands (directives_of plan) done) (turn.Hands a b) →
      differing_at (directives_of plan) (turn.Hands a b) done ≡ None →
      Meet done a b (width_at (next_of (directives_of plan) done a))
  meets fine done a b here same =
      let s = send_job (next_of (directives_of plan) done a) b here.0 in
      let r = recv_job (next_of (directives_of plan) done b) a here.1 in
      let equal = same_width (width_at (next_of (directives_of plan) done a)) (width_at (next_of (directives_of plan) done b)) _ same in record {
        send = s.job;
        sends = s.here;
        is_send = s.does;
        to = s.with;
        wide = sym (ap width_at s.here);
        recv = r.job;
        receives = r.here;
        is_recv = r.does;
        from = r.with;
        as_wide = sym (ap width_at r.here) ∙ sym equal;
        apart = two (nat_eq b a) refl;
      }
    where
      two : (x : Bool) → nat_eq b a ≡ x → nat_eq b a ≡ false
      two false e = e
      two true e =
          let clash : stand.Sends b ≡ stand.Receives a = sym here.0 ∙ ap (stands (directives_of plan) done) (sym (eqb-true b a e)) ∙ here.1 in absurd cc

  wide_enough : IsMemProgram plan → (done : ℕ → ℕ) (a b : ℕ) → IsTurn (stands (directives_of plan) done) (turn.Hands a b) →
      (less : ℕ) × (width_at (next_of (directives_of plan) done a) ≡ suc less)
  wide_enough fine done a b here =
      let s = send_job (next_of (directives_of plan) done a) b here.0 in
      let part = found_in (IsPart (length plan.workers) a) _ _ (in_list plan.workers a (done a) (entry.Do s.job) s.here) (fine.parts a) in
      let one = some_width (length plan.workers) a s.job s.does
      (found_in (IsDirective (length plan.workers) a) _ _ s.here (part.each (done a))) in
      go s.job.width one (ap width_at s.here)
    where
      go : (width : ℕ) → 1 ≤ width → width_at (next_of (directives_of plan) done a) ≡ width →
          (less : ℕ) × (width_at (next_of (directives_of plan) done a) ≡ suc less)
      go zero one e = absurd (omega arith)
      go (suc width) one e = (width, e)

  turn_step : AreOrderly plan → IsMemProgram plan → (turns : List Joint) (done : ℕ → ℕ) (t : Turn) → Done turns done →
      IsTurn (stands (directives_of plan) done) t → differing_at (directives_of plan) t done ≡ None →
      Done (turns ++ wire_turns (directives_of plan) done t) (after_turn t done)
  turn_step orderly fine turns done (turn.Alone w) at here same = alone_step orderly turns done w at here
  turn_step orderly fine turns done (turn.Hands a b) at here same =
      let wide = wide_enough fine done a b here in
      subst (λ n. Done (turns ++ replicate n (Hands a b)) (after_turn (turn.Hands a b) done)) (sym wide.1)
      (hand_all wide.0 turns done a b (width_at (next_of (directives_of plan) done a)) 0 (meets fine done a b here same)
      (record { first = at a; second = at b; others = λ n na nb. at n })
      (let e : 0 + suc wide.0 ≡ suc wide.0 = omega arith in e ∙ sym wide.1))

  order_step : AreOrderly plan → IsMemProgram plan → (most : ℕ) (turns : List Joint) (done : ℕ → ℕ) → Done turns done →
      differing (directives_of plan) (joint_order (directives_of plan) (length plan.workers) most done) done ≡ None →
      Done (turns ++ all_wire_turns (directives_of plan) done (joint_order (directives_of plan) (length plan.workers) most done))
      (after_turns (joint_order (directives_of plan) (length plan.workers) most done) done)
  order_step orderly fine zero turns done at same = subst (λ xs. Done xs done) (sym (append-nil turns)) at
  order_step orderly fine (suc most) turns done at same =
      go (first_turn (stands (directives_of plan) done) 0 (length plan.workers)) refl same (λ ts d. order_step orderly fine most ts d)
    where
      rest : Turn → List Turn
      rest next = joint_order (directives_of plan) (length plan.workers) most (after_turn next done)

      go : (o : Option Turn) → first_turn (stands (directives_of plan) done) 0 (length plan.workers) ≡ o →
          differing (directives_of plan) (then_turns o rest) done ≡ None →
          ((ts : List Joint) (d : ℕ → ℕ) → Done ts d →
          differing (directives_of plan) (joint_order (directives_of plan) (length plan.workers) most d) d ≡ None →
          Done (ts ++ all_wire_turns (directives_of plan) d (joint_order (directives_of plan) (length plan.workers) most d))
          (after_turns (joint_order (directives_of plan) (length plan.workers) most d) d)) →
          Done (turns ++ all_wire_turns (directives_of plan) done (then_turns o rest)) (after_turns (then_turns o rest) done)
      go None e f others = subst (λ xs. Done xs done) (sym (append-nil turns)) at
      go (Some t) e f others =
          let both = both_none (differing_at (directives_of plan) t done) (differing (directives_of plan) (rest t) (after_turn t done)) f in
          subst (λ xs. Done xs (after_turns (rest t) (after_turn t done)))
          (append_assoc turns (wire_turns (directives_of plan) done t) (all_wire_turns (directives_of plan) (after_turn t done) (rest t)))
          (others (turns ++ wire_turns (directives_of plan) done t) (after_turn t done)
          (turn_step orderly fine turns done t at (first_so (stands (directives_of plan) done) 0 (length plan.workers) t e) both.0) both.1)

  -- ---- the end

  -- each worker is past its last directive, and those below a number have finished their drivers
  record Closed (turns : List Joint) (from : ℕ) : Type 0 where
    place : (n : ℕ) → slice_get (directives_of plan n) (after turns n).state.engine.place ≡ None
    finished : (n : ℕ) → (n < from) ⊎ (length plan.workers ≤ n) → (after turns n).state.engine.is_finished ≡ true

  pub ended_act : (n : ℕ) (c : Core') (b : Bool) → slice_get (directives_of plan n) c.engine.place ≡ None → c.engine.is_finished ≡ b →
      core_act rules plan n c ≡ act_of {L = Call rules.State W} {W = List ℕ}
      (cond b Stops (Moves (call_of rules c.engine.driver Finish ∷ []) (finishes rules c.engine))) c
  ended_act n c b place done =
      ap (λ o. or_stops {L = Call rules.State W} {W = List ℕ} (act_in served_at_once (doing_at rules plan.limits.page o c.engine) c)) place
      ∙ ap (λ x. act_of {L = Call rules.State W} {W = List ℕ}
      (cond x Stops (Moves (call_of rules c.engine.driver Finish ∷ []) (finishes rules c.engine))) c) done

  finish_step : (turns : List Joint) (from : ℕ) → Closed turns from → Closed (turns ++ Alone from ∷ []) (from + 1)
  finish_step turns from h = go (after turns from).state.engine.is_finished refl
    where
      ws : ℕ → Worker Core' (Call rules.State W) (List ℕ)
      ws = after turns

      c : Core'
      c = (ws from).state

      below : (n : ℕ) → nat_eq from n ≡ false → (n < from + 1) ⊎ (length plan.workers ≤ n) → (n < from) ⊎ (length plan.workers ≤ n)
      below n off (inl less) = inl (grind (arith, nat_tests))
      below n off (inr past) = inr past

      go : (b : Bool) → c.engine.is_finished ≡ b → Closed (turns ++ Alone from ∷ []) (from + 1)
      go true e = record {
        place = λ n. ap (λ f. slice_get (directives_of plan n) (f n).state.engine.place) same ∙ h.place n;
        finished = λ n which. ap (λ f. (f n).state.engine.is_finished) same ∙ done n (nat_eq from n) refl which;
      }
        where
          same : after (turns ++ Alone from ∷ []) ≡ ws
          same = after_more turns (Alone from ∷ []) ∙ ap (λ act. moves from act ws) (ended_act from c true (h.place from) e)

          done : (n : ℕ) (x : Bool) → nat_eq from n ≡ x → (n < from + 1) ⊎ (length plan.workers ≤ n) → (ws n).state.engine.is_finished ≡ true
          done n true here which = ap (λ k. (ws k).state.engine.is_finished) (sym (eqb-true from n here)) ∙ e
          done n false off which = h.finished n (below n off which)
      go false e = record {
        place = λ n. ap (λ f. slice_get (directives_of plan n) (f n).state.engine.place) moved ∙ placed n (nat_eq from n) refl;
        finished = λ n which. ap (λ f. (f n).state.engine.is_finished) moved ∙ done n (nat_eq from n) refl which;
      }
        where
          last : Worker Core' (Call rules.State W) (List ℕ)
          last = doing_on (ws from) (Moved (call_of rules c.engine.driver Finish ∷ [])) (record c { engine = finishes rules c.engine })

          moved : after (turns ++ Alone from ∷ []) ≡ net.put ws from last
          moved = after_more turns (Alone from ∷ []) ∙ ap (λ act. moves from act ws) (ended_act from c false (h.place from) e)

          placed : (n : ℕ) (x : Bool) → nat_eq from n ≡ x → slice_get (directives_of plan n) (cond x last (ws n)).state.engine.place ≡ None
          placed n true here = ap (λ k. slice_get (directives_of plan k) c.engine.place) (sym (eqb-true from n here)) ∙ h.place from
          placed n false off = h.place n

          done : (n : ℕ) (x : Bool) → nat_eq from n ≡ x → (n < from + 1) ⊎ (length plan.workers ≤ n) → (cond x last (ws n)).state.engine.is_finished ≡ true
          done n true here which = refl
          done n false off which = h.finished n (below n off which)

  finish_all : (count : ℕ) (turns : List Joint) (from : ℕ) → Closed turns from → Closed (turns ++ finishing from count) (from + count)
  finish_all zero turns from h =
      subst (λ xs. Closed xs (from + 0)) (sym (append-nil turns)) (subst (λ k. Closed turns k) (let e : from ≡ from + 0 = omega arith in e) h)
  finish_all (suc count) turns from h =
      subst (λ xs. Closed xs (from + suc count)) (append_assoc turns (Alone from ∷ []) (finishing (from + 1) count))
      (subst (λ k. Closed ((turns ++ Alone from ∷ []) ++ finishing (from + 1) count) k) (let e : from + 1 + count ≡ from + suc count = omega arith in e)
      (finish_all count (turns ++ Alone from ∷ []) (from + 1) (finish_step turns from h)))

  first_at : Done [] none_done
  first_at n = record { place = refl; wire = refl; finished = refl }

  pub verified_ends : IsMemProgram plan → fault_of plan ≡ None → (n : ℕ) → EndsInJoint rules plan drivers (verified_turns plan.workers) n
  verified_ends fine none n =
      ended_act n (after all n).state true (closed.place n)
      (closed.finished n (elim (cases_lt n (length plan.workers)) [ inl less ↦ inl (omega (arith, less)) | inr past ↦ inr past ]))
    where
      all : List Joint
      all = verified_turns plan.workers

      none' : joint_fault plan.workers ≡ None
      none' = subst (λ xs. joint_fault xs ≡ None) (directives_are plan 0 plan.workers)
          (none_second (faults.lowest faults.own_fault (parts_of plan)) _ none)

      run : RunTogether plan.workers
      run = RunTogether-from_none plan.workers none'

      differs : differing_of plan.workers ≡ None
      differs = no_widths plan.workers none'

      done : Done (all_wire_turns (directives_of plan) none_done (order_of plan.workers)) (done_of plan.workers)
      done = order_step (verified_is_orderly plan none) fine (count_all plan.workers) [] none_done first_at differs

      at_end : Closed (all_wire_turns (directives_of plan) none_done (order_of plan.workers)) 0
      at_end = record {
        place = λ m. ap (λ d. slice_get (directives_of plan m) d) (done m).place ∙ past_all m;
        finished = λ m which. (done m).finished ∙ ap not (outside m which);
      }
        where
          past_all : (m : ℕ) → slice_get (directives_of plan m) (done_of plan.workers m) ≡ None
          past_all m = elim (cases_lt m (length plan.workers)) [
            | inl less ↦ past_end (directives_of plan m) (done_of plan.workers m) (run.ends m less)
            | inr past ↦ ap (λ xs. slice_get xs (done_of plan.workers m)) (past_workers plan.workers m past) ∙ past_end [] (done_of plan.workers m) (omega arith)
          ]

          outside : (m : ℕ) → (m < 0) ⊎ (length plan.workers ≤ m) → nat_lt m (length plan.workers) ≡ false
          outside m (inl less) = absurd (omega arith)
          outside m (inr past) = grind (arith, nat_tests)

      closed : Closed all (0 + length plan.workers)
      closed = finish_all (length plan.workers) _ 0 at_end
