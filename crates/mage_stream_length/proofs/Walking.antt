-- The values of a worker are as wide as its instructions say, and so its stream is no longer than they say.
use Rattle.std.proofs.Common.{◌≡◌, ◌≤◌, ◌<◌, ◌+◌, ℕ, zero, suc, Bool, true, false, cond, eqb, Option, Some, None, IfSome, List, [], ◌∷◌, ◌++◌, length, drop, get_or, slice_get, refl, sym, ap, subst, ◌∙◌, ⊎_elim, append_assoc, length-append, inl, inr, arith}
use Rattle.std.specs.Prelude.{IsSomeAnd, ◌||◌}
use Rattle.std.specs.List.{sum_by}
use Rattle.std.proofs.lemmas.Bool.{cases_eq, cond-true, cond-false, eq-eqb, ne_eqb, eqb-true}
use Rattle.std.proofs.lemmas.List.Sums.{sum_by-cons}
use Rattle.mage_instr.specs.declared.instr.Instr.{Instr}
use Rattle.mage_instr.specs.declared.instr.Program.{Program}
use Rattle.mage_instr.specs.declared.op.Op.{Op}
use Rattle.mage_instr.specs.declared.op.Op.TheVariants as op
use Rattle.mage_instr.specs.Opcodes.{arity_of, has_result, width_of_arg, width_of_result}
use Rattle.mage_instr.specs.Sound.{IsSound, IsSoundAt, IsArgument, Defines, arg_of}
use Rattle.mage_label.specs.declared.labels.Label.{Label}
use Rattle.mage_linked.specs.declared.emitted.Emitted.{Emitted}
use Rattle.mage_linked.specs.Emission.{own_instrs, emission_of, program_of}
use Rattle.mage_linked.specs.Linked.{AreLinked, IsTransfer, nothing, alone, transfer}
use Rattle.mage_linked.specs.Transfers.{is_send, is_recv}
use Rattle.mage_linked.specs.Workers.{with_at}
use Rattle.mage_linked.proofs.EmissionLemmas.{AreBelow, own_instrs-first, own_instrs-other, emission_of-program_of}
use Rattle.mage_driver.specs.Rules.{Begins, Grows, AreLawful}
use Rattle.mage_driver.specs.Calls.{Call}
use Rattle.mage_relations.specs.Unplaced.{Unplaced, starting_in, wires_of_arg, with_sent, with_wires, made_by, after_emitted, calls_of}
use Rattle.mage_streams.specs.Garbling.{Garbler, garbling, said_at, said_for, zero_labels}
use Rattle.mage_streams.specs.Numbers.{number_after}
use Rattle.mage_streams.specs.Streams.{garbled_stream, new_garbler}
use Rattle.mage_carried.specs.Laws.{CanRun}
use Rattle.mage_carried.proofs.Lengths.{circuit_long}
use Rattle.mage_stream_length.specs.Length.{bytes_of, length_of, StreamsAreNoLonger}
use Rattle.mage_stream_length.proofs.Saying.{AreArgs, said_few}

-- ---- the rules of a garbler that says what it says to nobody are lawful

begins_itself : {X : Type 0} (xs : List X) → Begins xs xs
begins_itself xs = ([], sym (ap (λ ys. ys) (nil xs))) where
  nil : {X : Type 0} (xs : List X) → xs ++ [] ≡ xs
  nil [] = refl
  nil (x ∷ xs) = ap (λ ys. x ∷ ys) (nil xs)

grows : (from to : Garbler) → Grows garbling from to
grows from to = record { outputs = begins_itself {X = ℕ} []; streams = λ k. begins_itself {X = ℕ} [] }

zeros_long : (seed : List ℕ) (worker first count : ℕ) → length (zero_labels seed worker first count) ≡ count
zeros_long seed worker first zero = refl
zeros_long seed worker first (suc count) = ap suc (zeros_long seed worker (number_after first 1) count)

lawful : AreLawful garbling
lawful = record {
  some_bytes = omega arith;
  few_bytes = omega arith;
  packed = λ wire known. known;
  unpacked = λ wire known. refl;
  zeros = refl;
  inputs = λ s whose count. zeros_long s.seed s.worker s.wires count;
  and_grows = λ s a b. grows s ((garbling.and s a b).0);
  input_grows = λ s whose count. grows s ((garbling.input s whose count).0);
  output_grows = λ s wires. grows s (garbling.output s wires);
  finish_grows = λ s. grows s (garbling.finish s);
  stopped_grows = λ from to after f stops. absurd stops;
  causes = λ from to after f stops. absurd stops;
}

-- ---- values of one worker

-- a value is as wide as its instruction says
abbrev IsWide : Instr → List Label → Type 0
IsWide i wires = has_result i.op ≡ true → length wires ≡ width_of_result i.op i.width

-- so are the values of some instructions
abbrev AreWide : List Instr → List (List Label) → Type 0
AreWide [] [] = Unit {0}
AreWide [] (wires ∷ values) = ⊥
AreWide (i ∷ done) [] = ⊥
AreWide (i ∷ done) (wires ∷ values) = IsWide i wires × AreWide done values

wide_more : (done : List Instr) (values : List (List Label)) (i : Instr) (wires : List Label) → AreWide done values → IsWide i wires
    → AreWide (done ++ i ∷ []) (values ++ wires ∷ [])
wide_more [] [] i wires wide one = (one, tt)
wide_more [] (v ∷ values) i wires wide one = absurd wide
wide_more (d ∷ done) [] i wires wide one = absurd wide
wide_more (d ∷ done) (v ∷ values) i wires wide one = (wide.0, wide_more done values i wires wide.1 one)

-- the value of an earlier instruction
wide_at : (done rest : List Instr) (values : List (List Label)) (k width : ℕ) → AreWide done values → k < length values
    → IsSomeAnd (slice_get (done ++ rest) k) (λ source. Defines source width) → length (get_or values k []) ≡ width
wide_at [] rest [] k width wide inside defines = absurd (omega (arith, inside))
wide_at [] rest (v ∷ values) k width wide inside defines = absurd wide
wide_at (d ∷ done) rest [] k width wide inside defines = absurd wide
wide_at (d ∷ done) rest (v ∷ values) zero width wide inside defines = wide.0 defines.0 ∙ defines.1
wide_at (d ∷ done) rest (v ∷ values) (suc k) width wide inside defines = wide_at done rest values k width wide.1 (omega (arith, inside)) defines

next_at : (done : List Instr) (values : List (List Label)) (i : Instr) (rest : List Instr) → AreWide done values → slice_get (done ++ i ∷ rest) (length values) ≡ Some i
next_at [] [] i rest wide = refl
next_at [] (v ∷ values) i rest wide = absurd wide
next_at (d ∷ done) [] i rest wide = absurd wide
next_at (d ∷ done) (v ∷ values) i rest wide = next_at done values i rest wide.1

found : (P : Instr → Type 0) (o : Option Instr) (i : Instr) → o ≡ Some i → IfSome o P → P i
found P o i e h = let h' : IfSome (Some i) P = subst (λ (o : Option Instr). IfSome o P) e h in h'

-- where a worker stands: these of its instructions are still to come
record Stands (instrs rest : List Instr) (values : List (List Label)) : Type 0 where
  done : List Instr
  split : instrs ≡ done ++ rest
  wide : AreWide done values

-- its next instruction can run
sound_next : (instrs : List Instr) (i : Instr) (rest : List Instr) (values : List (List Label)) → IsSound instrs → Stands instrs (i ∷ rest) values
    → IsSoundAt instrs (length values) i
sound_next instrs i rest values sound stands =
    found (IsSoundAt instrs (length values)) (slice_get instrs (length values)) i
    (ap (λ (l : List Instr). slice_get l (length values)) stands.split ∙ next_at stands.done values i rest stands.wide) (sound.each (length values))

arg_long : (instrs : List Instr) (i : Instr) (rest : List Instr) (values : List (List Label)) → IsSound instrs → Stands instrs (i ∷ rest) values
    → (k : ℕ) → k < arity_of i.op → length (get_or values (arg_of i k) []) ≡ width_of_arg i.op i.width i.imm k
arg_long instrs i rest values sound stands k inside =
    let arg = (sound_next instrs i rest values sound stands).1 k inside in
    wide_at stands.done (i ∷ rest) values (arg_of i k) (width_of_arg i.op i.width i.imm k) stands.wide arg.0
    (subst (λ (l : List Instr). IsSomeAnd (slice_get l (arg_of i k)) (λ source. Defines source (width_of_arg i.op i.width i.imm k))) stands.split arg.1)

args_long : (instrs : List Instr) (i : Instr) (rest : List Instr) (values : List (List Label)) → IsSound instrs → Stands instrs (i ∷ rest) values
    → AreArgs i.op i.width i.imm (get_or values (arg_of i 0) []) (get_or values (arg_of i 1) []) (get_or values (arg_of i 2) [])
args_long instrs i rest values sound stands = record {
  first = arg_long instrs i rest values sound stands 0;
  second = arg_long instrs i rest values sound stands 1;
  third = arg_long instrs i rest values sound stands 2;
}

stands_next : (instrs : List Instr) (i : Instr) (rest : List Instr) (values : List (List Label)) (wires : List Label) → Stands instrs (i ∷ rest) values → IsWide i wires
    → Stands instrs rest (values ++ wires ∷ [])
stands_next instrs i rest values wires stands one = record {
  done = stands.done ++ i ∷ [];
  split = stands.split ∙ sym (append_assoc stands.done (i ∷ []) rest);
  wide = wide_more stands.done values i wires stands.wide one;
}

-- ---- all workers

module _ (count : ℕ) (instrs : ℕ → List Instr) (sound : (n : ℕ) → n < count → IsSound (instrs n)) where
  abbrev Each : List Emitted → Unplaced Garbler Label → Type 0
  Each es u = (n : ℕ) → n < count → Stands (instrs n) (own_instrs es n) (u.values n)

  -- where a worker's instruction comes next
  mine : (e : Emitted) (es : List Emitted) (u : Unplaced Garbler Label) → e.worker < count → Each (e ∷ es) u
      → Stands (instrs e.worker) (e.instr ∷ own_instrs es e.worker) (u.values e.worker)
  mine e es u within each =
      subst (λ (l : List Instr). Stands (instrs e.worker) l (u.values e.worker)) (own_instrs-first e es) (each e.worker within)

  -- one worker has a value more
  each_next : (e : Emitted) (es : List Emitted) (u : Unplaced Garbler Label) (states : ℕ → Garbler) (sent : ℕ → ℕ → List (List Label)) (wires : List Label) → e.worker < count
      → Each (e ∷ es) u → IsWide e.instr wires
      → Each es (with_wires (record { states = states; values = u.values; sent = sent }) e.worker wires)
  each_next e es u states sent wires within each one n inside = ⊎_elim same other (cases_eq n e.worker) where
    values : ℕ → List (List Label)
    values = with_at u.values e.worker (u.values e.worker ++ wires ∷ [])

    same : n ≡ e.worker → Stands (instrs n) (own_instrs es n) (values n)
    same is =
        subst (λ m. Stands (instrs m) (own_instrs es m) (values m)) (sym is)
        (subst (λ (l : List (List Label)). Stands (instrs e.worker) (own_instrs es e.worker) l)
        (sym (ap (λ b. cond b (u.values e.worker ++ wires ∷ []) (u.values e.worker)) (eq-eqb e.worker e.worker refl)))
        (stands_next (instrs e.worker) e.instr (own_instrs es e.worker) (u.values e.worker) wires (mine e es u within each) one))

    other : (n ≡ e.worker → ⊥) → Stands (instrs n) (own_instrs es n) (values n)
    other not =
        subst (λ (l : List (List Label)). Stands (instrs n) (own_instrs es n) l)
        (sym (ap (λ b. cond b (u.values e.worker ++ wires ∷ []) (u.values n)) (ne_eqb n e.worker not)))
        (subst (λ (l : List Instr). Stands (instrs n) l (u.values n)) (own_instrs-other e es n (λ is. not (sym is))) (each n inside))

  -- what is said at one instruction
  own_few : (e : Emitted) (es : List Emitted) (u : Unplaced Garbler Label) → e.worker < count → Each (e ∷ es) u
      → length (said_at (made_by garbling u e).calls) ≤ bytes_of e.instr
  own_few e es u within each =
      let here = mine e es u within each in
      said_few e.instr.op e.instr.width e.instr.imm (wires_of_arg u e.worker e.instr 0) (wires_of_arg u e.worker e.instr 1) (wires_of_arg u e.worker e.instr 2)
      (u.states e.worker)
      (sound_next (instrs e.worker) e.instr (own_instrs es e.worker) (u.values e.worker) (sound e.worker within) here).0
      (args_long (instrs e.worker) e.instr (own_instrs es e.worker) (u.values e.worker) (sound e.worker within) here)

  -- ---- what is said from here on

  abbrev Few : (w : ℕ) → Unplaced Garbler Label → List Emitted → Type 0
  Few w u es = length (said_at (calls_of garbling w u es)) ≤ length_of (own_instrs es w)

  said_both : (xs ys : List (Call Garbler Label)) → length (said_at (xs ++ ys)) ≡ length (said_at xs) + length (said_at ys)
  said_both [] ys = omega arith
  said_both (x ∷ xs) ys =
      let rest = said_both xs ys in
      omega (arith, rest, length-append (said_for x.state x.ask) (said_at (xs ++ ys)), length-append (said_for x.state x.ask) (said_at xs))

  few_next : (w : ℕ) (u : Unplaced Garbler Label) (e : Emitted) (es : List Emitted) → length (said_at (made_by garbling u e).calls) ≤ bytes_of e.instr
      → Few w (after_emitted garbling u e) es → Few w u (e ∷ es)
  few_next w u e es one rest = ⊎_elim same other (cases_eq w e.worker) where
    later : List (Call Garbler Label)
    later = calls_of garbling w (after_emitted garbling u e) es

    same : w ≡ e.worker → Few w u (e ∷ es)
    same is =
        let calls = ap (λ b. length (said_at (cond b (made_by garbling u e).calls [] ++ later))) (eq-eqb w e.worker is) in
        let both = said_both (made_by garbling u e).calls later in
        let instrs = ap (λ n. length_of (own_instrs (e ∷ es) n)) is ∙ ap length_of (own_instrs-first e es) ∙ sum_by-cons bytes_of e.instr (own_instrs es e.worker) in
        let owns = ap (λ n. length_of (own_instrs es n)) is in
        omega (arith, calls, both, one, rest, instrs, owns)

    other : (w ≡ e.worker → ⊥) → Few w u (e ∷ es)
    other not =
        let calls = ap (λ b. length (said_at (cond b (made_by garbling u e).calls [] ++ later))) (ne_eqb w e.worker not) in
        let instrs = ap length_of (own_instrs-other e es w (λ is. not (sym is))) in
        omega (arith, calls, rest, instrs)

  -- ---- one instruction that speaks of no other worker

  neither : (a b : Bool) → (a || b) ≡ false → (a ≡ false) × (b ≡ false)
  neither true b e = absurd cc
  neither false b e = (refl, e)

  third : (P : Unplaced Garbler Label → Type 0) (p q : Bool) (a b c : Unplaced Garbler Label) → p ≡ false → q ≡ false → P c → P (cond p a (cond q b c))
  third P true q a b c e f h = absurd cc
  third P false true a b c e f h = absurd cc
  third P false false a b c e f h = h

  -- nothing lies between workers
  abbrev AllTaken : Unplaced Garbler Label → Type 0
  AllTaken u = (from to : ℕ) → u.sent from to ≡ []

  made_wide : (e : Emitted) (es : List Emitted) (u : Unplaced Garbler Label) → e.worker < count → is_recv e.instr.op ≡ false → Each (e ∷ es) u
      → IsWide e.instr (made_by garbling u e).wires
  made_wide e es u within recv each has =
      let here = mine e es u within each in
      let ok = (sound_next (instrs e.worker) e.instr (own_instrs es e.worker) (u.values e.worker) (sound e.worker within) here).0 in
      let args = args_long (instrs e.worker) e.instr (own_instrs es e.worker) (u.values e.worker) (sound e.worker within) here in
      circuit_long garbling lawful e.instr.op e.instr.width e.instr.imm (wires_of_arg u e.worker e.instr 0) (wires_of_arg u e.worker e.instr 1) (wires_of_arg u e.worker e.instr 2)
      (u.states e.worker) ok.0 has recv args.first args.second args.third

  alone_each : (e : Emitted) (es : List Emitted) (u : Unplaced Garbler Label) → is_send e.instr.op ≡ false → is_recv e.instr.op ≡ false → e.worker < count
      → Each (e ∷ es) u → Each es (after_emitted garbling u e)
  alone_each e es u send recv within each =
      third (Each es) (is_send e.instr.op) (is_recv e.instr.op) _ _ _ send recv
      (each_next e es u (with_at u.states e.worker (made_by garbling u e).state) u.sent (made_by garbling u e).wires within each (made_wide e es u within recv each))

  alone_taken : (e : Emitted) (u : Unplaced Garbler Label) → is_send e.instr.op ≡ false → is_recv e.instr.op ≡ false → AllTaken u → AllTaken (after_emitted garbling u e)
  alone_taken e u send recv taken = third AllTaken (is_send e.instr.op) (is_recv e.instr.op) _ _ _ send recv taken

  -- ---- a Send and its Recv

  module _ (send recv : Emitted) (es : List Emitted) (u : Unplaced Garbler Label) (is : IsTransfer count send recv) (each : Each (send ∷ recv ∷ es) u) (taken : AllTaken u) where
    abbrev s : ℕ
    s = send.worker

    abbrev r : ℕ
    r = recv.worker

    abbrev wires : List Label
    wires = get_or (u.values send.worker) (arg_of send.instr 0) []

    abbrev queue : List (List Label)
    queue = u.sent send.worker recv.worker ++ wires ∷ []

    abbrev sent : Unplaced Garbler Label
    sent = with_wires (with_sent u send.worker recv.worker queue) send.worker []

    sent_is : after_emitted garbling u send ≡ sent
    sent_is =
        ap (λ b. cond b (with_wires (with_sent u send.worker send.instr.imm (u.sent send.worker send.instr.imm ++ wires ∷ [])) send.worker [])
        (cond (is_recv send.instr.op)
        (with_wires (with_sent u send.instr.imm send.worker (drop 1 (u.sent send.instr.imm send.worker))) send.worker (get_or (u.sent send.instr.imm send.worker) 0 []))
        (with_wires (record u { states = with_at u.states send.worker (made_by garbling u send).state }) send.worker (made_by garbling u send).wires)))
        (ap is_send is.sends)
        ∙ ap (λ k. with_wires (with_sent u send.worker k (u.sent send.worker k ++ wires ∷ [])) send.worker []) is.to

    abbrev got : Unplaced Garbler Label
    got = with_wires (with_sent sent send.worker recv.worker (drop 1 (sent.sent send.worker recv.worker))) recv.worker (get_or (sent.sent send.worker recv.worker) 0 [])

    got_is : after_emitted garbling sent recv ≡ got
    got_is =
        ap (λ b. cond b (with_wires (with_sent sent recv.worker recv.instr.imm (sent.sent recv.worker recv.instr.imm ++ wires_of_arg sent recv.worker recv.instr 0 ∷ [])) recv.worker [])
        (cond (is_recv recv.instr.op)
        (with_wires (with_sent sent recv.instr.imm recv.worker (drop 1 (sent.sent recv.instr.imm recv.worker))) recv.worker (get_or (sent.sent recv.instr.imm recv.worker) 0 []))
        (with_wires (record sent { states = with_at sent.states recv.worker (made_by garbling sent recv).state }) recv.worker (made_by garbling sent recv).wires)))
        (ap is_send is.receives)
        ∙ ap (λ b. cond b
        (with_wires (with_sent sent recv.instr.imm recv.worker (drop 1 (sent.sent recv.instr.imm recv.worker))) recv.worker (get_or (sent.sent recv.instr.imm recv.worker) 0 []))
        (with_wires (record sent { states = with_at sent.states recv.worker (made_by garbling sent recv).state }) recv.worker (made_by garbling sent recv).wires))
        (ap is_recv is.receives)
        ∙ ap (λ k. with_wires (with_sent sent k recv.worker (drop 1 (sent.sent k recv.worker))) recv.worker (get_or (sent.sent k recv.worker) 0 [])) is.from

    sent_each : Each (recv ∷ es) sent
    sent_each = each_next send (recv ∷ es) u u.states (with_at u.sent send.worker (with_at (u.sent send.worker) recv.worker queue)) [] is.sender each
        (λ has. let none : has_result op.Send ≡ true = subst (λ o. has_result o ≡ true) is.sends has in absurd cc)

    on_link : sent.sent send.worker recv.worker ≡ wires ∷ []
    on_link =
        ap (λ b. (cond b (with_at (u.sent send.worker) recv.worker queue) (u.sent send.worker)) recv.worker) (eq-eqb send.worker send.worker refl)
        ∙ ap (λ b. cond b queue (u.sent send.worker recv.worker)) (eq-eqb recv.worker recv.worker refl)
        ∙ ap (λ (l : List (List Label)). l ++ wires ∷ []) (taken send.worker recv.worker)

    wires_long : length wires ≡ send.instr.width
    wires_long =
        let here = mine send (recv ∷ es) u is.sender each in
        let arity : 0 < arity_of send.instr.op = subst (λ o. 0 < arity_of o) (sym is.sends) (omega arith) in
        arg_long (instrs send.worker) send.instr (own_instrs (recv ∷ es) send.worker) (u.values send.worker) (sound send.worker is.sender) here 0 arity
        ∙ ap (λ o. width_of_arg o send.instr.width send.instr.imm 0) is.sends

    got_each : Each es got
    got_each = each_next recv es sent sent.states (with_at sent.sent send.worker (with_at (sent.sent send.worker) recv.worker (drop 1 (sent.sent send.worker recv.worker))))
        (get_or (sent.sent send.worker recv.worker) 0 []) is.receiver sent_each
        (λ has. ap (λ (l : List (List Label)). length (get_or l 0 [])) on_link ∙ wires_long ∙ is.same_width ∙ sym (ap (λ o. width_of_result o recv.instr.width) is.receives))

    got_taken : AllTaken got
    got_taken from to = go (eqb from send.worker) (eqb to recv.worker) refl refl where
      left : List (List Label)
      left = drop 1 (sent.sent send.worker recv.worker)

      go : (b c : Bool) → eqb from send.worker ≡ b → eqb to recv.worker ≡ c → (cond b (with_at (sent.sent send.worker) recv.worker left) (sent.sent from)) to ≡ []
      go true true e f = ap (λ c. cond c left (sent.sent send.worker to)) f ∙ ap (λ (l : List (List Label)). drop 1 l) on_link
      go true false e f =
          ap (λ c. cond c left (sent.sent send.worker to)) f
          ∙ ap (λ b. (cond b (with_at (u.sent send.worker) recv.worker queue) (u.sent send.worker)) to) (eq-eqb send.worker send.worker refl)
          ∙ ap (λ c. cond c queue (u.sent send.worker to)) f ∙ taken send.worker to
      go false c e f = ap (λ b. (cond b (with_at (u.sent send.worker) recv.worker queue) (u.sent from)) to) e ∙ taken from to

    after_send_each : Each (recv ∷ es) (after_emitted garbling u send)
    after_send_each = subst (Each (recv ∷ es)) (sym sent_is) sent_each

    after_both : after_emitted garbling (after_emitted garbling u send) recv ≡ got
    after_both = ap (λ v. after_emitted garbling v recv) sent_is ∙ got_is

    after_both_each : Each es (after_emitted garbling (after_emitted garbling u send) recv)
    after_both_each = subst (Each es) (sym after_both) got_each

    after_both_taken : AllTaken (after_emitted garbling (after_emitted garbling u send) recv)
    after_both_taken = subst AllTaken (sym after_both) got_taken

  -- ---- all of them

  few : (w : ℕ) (es : List Emitted) (u : Unplaced Garbler Label) → AreLinked count es → Each es u → AllTaken u → Few w u es
  few w [] u linked each taken = omega arith
  few w (e ∷ es) u (alone none within others) each taken =
      let links = neither (is_send e.instr.op) (is_recv e.instr.op) none in
      few_next w u e es (own_few e es u within each)
      (few w es (after_emitted garbling u e) others (alone_each e es u links.0 links.1 within each) (alone_taken e u links.0 links.1 taken))
  few w (send ∷ recv ∷ es) u (transfer is others) each taken =
      few_next w u send (recv ∷ es) (own_few send (recv ∷ es) u is.sender each)
      (few_next w (after_emitted garbling u send) recv es (own_few recv es (after_emitted garbling u send) is.receiver (after_send_each send recv es u is each taken))
      (few w es (after_emitted garbling (after_emitted garbling u send) recv) others (after_both_each send recv es u is each taken) (after_both_taken send recv es u is each taken)))

below_count : (count : ℕ) (es : List Emitted) → AreLinked count es → AreBelow count es
below_count count [] linked = tt
below_count count (e ∷ es) (alone none within others) = (within, below_count count es others)
below_count count (send ∷ recv ∷ es) (transfer is others) = (is.sender, (is.receiver, below_count count es others))

pub streams_are_no_longer : StreamsAreNoLonger
streams_are_no_longer count emitted runs seed garbler worker within =
    let start = starting_in (λ w. new_garbler seed w (garbler w)) in
    let whole = emission_of-program_of count emitted (below_count count emitted runs.linked) in
    subst (λ (es : List Emitted). length (said_at (calls_of garbling worker start es)) ≤ length_of (own_instrs emitted worker)) (sym whole)
    (few count (own_instrs emitted) runs.sound worker emitted start runs.linked
    (λ n inside. record { done = []; split = refl; wide = tt }) (λ from to. refl))
