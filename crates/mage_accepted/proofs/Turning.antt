-- What the turns of the verifier's order find, and that it goes on until every worker has ended.
use Rattle.std.proofs.Common.{◌≡◌, ◌≢◌, ◌≤◌, ◌<◌, ◌+◌, ◌-◌, zero, suc, ℕ, Bool, true, false, cond, List, [], ◌∷◌, Option, None, Some, length, drop, refl, sym, ◌∙◌, ap, ap₂, arith, ⊎_elim, subst, true≢false, nat_eq, option_map}
use Rattle.std.specs.Prelude.{slice_get}
use Rattle.std.specs.Option.{option_or}
use Rattle.std.proofs.lemmas.Bool.{cases_eq, eq-eqb, eqb-true}
use Rattle.std.proofs.lemmas.Option.{slice_get_past}
use Rattle.mage_instr.specs.declared.instr.Instr.{Instr}
use Rattle.mage_instr.specs.declared.op.Op.{Op}
use Rattle.mage_instr.specs.declared.op.Op.TheVariants as op
use Rattle.mage_instr.specs.declared.replaced.Job.{Job}
use Rattle.mage_instr.specs.declared.directive.Directive.{Directive}
use Rattle.mage_instr.specs.declared.directive.Directive.TheVariants as entry
use Rattle.mage_linked.specs.declared.emitted.Emitted.{Emitted}
use Rattle.mage_linked.specs.Emission.{own_instrs}
use Rattle.mage_linked.specs.Linked.{is_transfer, AreLinked, nothing, alone, transfer}
use Rattle.mage_linked.proofs.EmissionLemmas.{own_instrs-other}
use Rattle.mage_verify.specs.declared.turn.Stand.{Stand}
use Rattle.mage_verify.specs.declared.turn.Stand.TheVariants as stand
use Rattle.mage_verify.specs.declared.turn.Turn.{Turn}
use Rattle.mage_verify.specs.declared.turn.Turn.TheVariants as turn
use Rattle.mage_verify.specs.declared.turn.Place.{Place}
use Rattle.mage_verify.specs.Joint.{stand_of, stand_at, width_at, next_of, stands, takes_from, gives_to, turn_at, first_turn, with_one, after_turn, after_turns, then_turns, joint_order, lower, differing_at, differing, waiting_at, waiting, lists_at, count_all, none_done, done_of, waiting_of}
use Rattle.mage_verify.specs.Faults.{joint_fault}
use Rattle.mage_verify.specs.declared.fault.VerifyFault.TheVariants as wrong
use Rattle.mage_verify.proofs.Tests.{none_first, none_second}
use Rattle.mage_verify.proofs.Together.{left_of, with_one_other}
use Rattle.mage_accepted.proofs.Own.{IsJobOf}
use Rattle.mage_accepted.proofs.Jobs.{AreJobs, drop_found}
use Rattle.mage_accepted.proofs.Removing.{first_same, own_first, one_done, pair_done}

-- ---- what a worker stands at

stand_alone : (o : Op) (imm : ℕ) → stand_of o imm ≡ stand.Alone → is_transfer o ≡ false
stand_alone op.Send imm h = absurd cc
stand_alone op.Recv imm h = absurd cc
stand_alone _ imm h = refl

alone_stands : (o : Op) (imm : ℕ) → is_transfer o ≡ false → stand_of o imm ≡ stand.Alone
alone_stands op.Send imm h = absurd (true≢false h)
alone_stands op.Recv imm h = absurd (true≢false h)
alone_stands _ imm h = refl

stand_sends : (o : Op) (imm target : ℕ) → stand_of o imm ≡ stand.Sends target → (o ≡ op.Send) × (imm ≡ target)
stand_sends op.Send imm target h = (refl, cc)
stand_sends op.Recv imm target h = absurd cc
stand_sends _ imm target h = absurd cc

stand_receives : (o : Op) (imm source : ℕ) → stand_of o imm ≡ stand.Receives source → (o ≡ op.Recv) × (imm ≡ source)
stand_receives op.Recv imm source h = (refl, cc)
stand_receives op.Send imm source h = absurd cc
stand_receives _ imm source h = absurd cc

-- the first of some directives, if there is one
abbrev first_of : List Directive → Option Directive
first_of [] = None
first_of (x ∷ part) = Some x

first_of_drop : (xs : List Directive) (n : ℕ) → slice_get xs n ≡ first_of (drop n xs)
first_of_drop [] zero = refl
first_of_drop [] (suc n) = refl
first_of_drop (x ∷ xs) zero = refl
first_of_drop (x ∷ xs) (suc n) = first_of_drop xs n

-- a worker that can't go on alone, and whose next instruction is this one, stands at it
at_instr : (part : List Directive) (i : Instr) (rest instrs : List Instr) → instrs ≡ i ∷ rest → AreJobs part instrs
    → (stand_at (first_of part) ≡ stand.Alone → ⊥)
    → stand_at (first_of part) ≡ stand_of i.op i.imm
at_instr [] i rest instrs e h can't = absurd (let none : [] ≡ i ∷ rest = sym h ∙ e in cc)
at_instr (entry.Do job ∷ part) i rest instrs e h can't =
    let same = first_same h.0 i h.1 rest (sym h.2 ∙ e) in
    ap₂ (λ o m. stand_of o m) h.3.op h.3.imm ∙ ap (λ (x : Instr). stand_of x.op x.imm) same
at_instr (entry.Fresh frame page ∷ part) i rest instrs e h can't = absurd (can't refl)
at_instr (entry.IssueIn slot page ∷ part) i rest instrs e h can't = absurd (can't refl)
at_instr (entry.FinishIn slot frame ∷ part) i rest instrs e h can't = absurd (can't refl)
at_instr (entry.IssueOut slot frame page ∷ part) i rest instrs e h can't = absurd (can't refl)
at_instr (entry.FinishOut slot ∷ part) i rest instrs e h can't = absurd (can't refl)

-- one without a next instruction has ended
at_end : (part : List Directive) (instrs : List Instr) → instrs ≡ [] → AreJobs part instrs
    → (stand_at (first_of part) ≡ stand.Alone → ⊥) → stand_at (first_of part) ≡ stand.Ended
at_end [] instrs e h can't = refl
at_end (entry.Do job ∷ part) instrs e h can't = absurd (let none : [] ≡ h.0 ∷ h.1 = sym e ∙ h.2 in cc)
at_end (entry.Fresh frame page ∷ part) instrs e h can't = absurd (can't refl)
at_end (entry.IssueIn slot page ∷ part) instrs e h can't = absurd (can't refl)
at_end (entry.FinishIn slot frame ∷ part) instrs e h can't = absurd (can't refl)
at_end (entry.IssueOut slot frame page ∷ part) instrs e h can't = absurd (can't refl)
at_end (entry.FinishOut slot ∷ part) instrs e h can't = absurd (can't refl)

-- a worker that stands at a transfer, and the instruction that it is
record AtJob (part : List Directive) (instrs : List Instr) (o : Op) (imm : ℕ) : Type 0 where
  job : Job
  others : List Directive
  front : part ≡ entry.Do job ∷ others
  i : Instr
  rest : List Instr
  next : instrs ≡ i ∷ rest
  is : IsJobOf job i
  jobs : AreJobs others rest
  does : i.op ≡ o
  with : i.imm ≡ imm

at_send : (part : List Directive) (instrs : List Instr) (target : ℕ) → AreJobs part instrs
    → stand_at (first_of part) ≡ stand.Sends target → AtJob part instrs op.Send target
at_send [] instrs target h e = absurd cc
at_send (entry.Do job ∷ part) instrs target h e =
    let so = stand_sends job.op job.imm target e in
    record { job = job; others = part; front = refl; i = h.0; rest = h.1; next = h.2; is = h.3; jobs = h.4; does = sym h.3.op ∙ so.0; with = sym h.3.imm ∙ so.1 }
at_send (entry.Fresh frame page ∷ part) instrs target h e = absurd cc
at_send (entry.IssueIn slot page ∷ part) instrs target h e = absurd cc
at_send (entry.FinishIn slot frame ∷ part) instrs target h e = absurd cc
at_send (entry.IssueOut slot frame page ∷ part) instrs target h e = absurd cc
at_send (entry.FinishOut slot ∷ part) instrs target h e = absurd cc

at_recv : (part : List Directive) (instrs : List Instr) (source : ℕ) → AreJobs part instrs
    → stand_at (first_of part) ≡ stand.Receives source → AtJob part instrs op.Recv source
at_recv [] instrs source h e = absurd cc
at_recv (entry.Do job ∷ part) instrs source h e =
    let so = stand_receives job.op job.imm source e in
    record { job = job; others = part; front = refl; i = h.0; rest = h.1; next = h.2; is = h.3; jobs = h.4; does = sym h.3.op ∙ so.0; with = sym h.3.imm ∙ so.1 }
at_recv (entry.Fresh frame page ∷ part) instrs source h e = absurd cc
at_recv (entry.IssueIn slot page ∷ part) instrs source h e = absurd cc
at_recv (entry.FinishIn slot frame ∷ part) instrs source h e = absurd cc
at_recv (entry.IssueOut slot frame page ∷ part) instrs source h e = absurd cc
at_recv (entry.FinishOut slot ∷ part) instrs source h e = absurd cc

-- ---- what a turn finds its workers at

abbrev IsTurn : (ℕ → Stand) → Turn → Type 0
IsTurn others (turn.Alone worker) = others worker ≡ stand.Alone
IsTurn others (turn.Hands source target) = (others source ≡ stand.Sends target) × (others target ≡ stand.Receives source)

same_turn : (s t : Turn) → Some s ≡ Some t → s ≡ t
same_turn s t h = cc

no_turn : (t : Turn) → ◌≡◌ {A = Option Turn} None (Some t) → ⊥
no_turn t h = cc

taken_so : (others : ℕ → Stand) (worker target : ℕ) (t : Turn) (s : Stand) → others worker ≡ stand.Sends target
    → others target ≡ s
    → takes_from worker s (turn.Hands worker target) ≡ Some t → IsTurn others t
taken_so others worker target t (stand.Receives source) sends here found = go (nat_eq source worker) refl found where
  go : (b : Bool) → nat_eq source worker ≡ b → cond b (Some (turn.Hands worker target)) None ≡ Some t → IsTurn others t
  go true e f = subst (IsTurn others) (same_turn (turn.Hands worker target) t f) (sends, here ∙ ap stand.Receives (eqb-true source worker e))
  go false e f = absurd (no_turn t f)
taken_so others worker target t _ sends here found = absurd (no_turn t found)

given_so : (others : ℕ → Stand) (worker source : ℕ) (t : Turn) (s : Stand) → others worker ≡ stand.Receives source
    → others source ≡ s
    → gives_to worker s (turn.Hands source worker) ≡ Some t → IsTurn others t
given_so others worker source t (stand.Sends target) receives here found = go (nat_eq target worker) refl found where
  go : (b : Bool) → nat_eq target worker ≡ b → cond b (Some (turn.Hands source worker)) None ≡ Some t → IsTurn others t
  go true e f = subst (IsTurn others) (same_turn (turn.Hands source worker) t f) (here ∙ ap stand.Sends (eqb-true target worker e), receives)
  go false e f = absurd (no_turn t f)
given_so others worker source t _ receives here found = absurd (no_turn t found)

turn_so : (others : ℕ → Stand) (worker : ℕ) (t : Turn) (s : Stand) → others worker ≡ s → turn_at worker s others ≡ Some t
    → IsTurn others t
turn_so others worker t stand.Ended here found = absurd (no_turn t found)
turn_so others worker t stand.Alone here found = subst (IsTurn others) (same_turn (turn.Alone worker) t found) here
turn_so others worker t (stand.Sends target) here found = taken_so others worker target t (others target) here refl found
turn_so others worker t (stand.Receives source) here found = given_so others worker source t (others source) here refl found

first_so : (others : ℕ → Stand) (from count : ℕ) (t : Turn) → first_turn others from count ≡ Some t → IsTurn others t
first_so others from zero t found = absurd (no_turn t found)
first_so others from (suc count) t found = go (turn_at from (others from) others) refl found (first_so others (from + 1) count t) where
  go : (o : Option Turn) → turn_at from (others from) others ≡ o → option_or o (first_turn others (from + 1) count) ≡ Some t
      → (first_turn others (from + 1) count ≡ Some t → IsTurn others t) → IsTurn others t
  go None e f rest = rest f
  go (Some x) e f rest = turn_so others from t (others from) refl (e ∙ f)

-- where there is no turn, no worker has one
no_turns : (others : ℕ → Stand) (from count : ℕ) → first_turn others from count ≡ None → (k : ℕ) → k < count
    → turn_at (from + k) (others (from + k)) others ≡ None
no_turns others from zero h k lt = absurd (omega (arith, lt))
no_turns others from (suc count) h zero lt =
    let same : from + 0 ≡ from = omega arith in
    ap (λ w. turn_at w (others w) others) same ∙ none_first (turn_at from (others from) others) (first_turn others (from + 1) count) h
no_turns others from (suc count) h (suc k) lt =
    let same : from + suc k ≡ from + 1 + k = omega arith in
    ap (λ w. turn_at w (others w) others) same
    ∙ no_turns others (from + 1) count (none_second (turn_at from (others from) others) (first_turn others (from + 1) count) h) k (omega (arith, lt))

-- ---- how much is left

-- a number for each of some workers, added up
abbrev pub sum : (n : ℕ) → (ℕ → ℕ) → ℕ
sum zero f = 0
sum (suc n) f = f 0 + sum n (λ k. f (suc k))

pub sum_le : (n : ℕ) (f g : ℕ → ℕ) → ((k : ℕ) → f k ≤ g k) → sum n f ≤ sum n g
sum_le zero f g h = omega arith
sum_le (suc n) f g h = let rest = sum_le n (λ k. f (suc k)) (λ k. g (suc k)) (λ k. h (suc k)) in let first = h 0 in omega (arith, rest, first)

pub sum_less : (n : ℕ) (f g : ℕ → ℕ) → ((k : ℕ) → f k ≤ g k) → (w : ℕ) → w < n → f w < g w → sum n f < sum n g
sum_less zero f g h w lt less = absurd (omega (arith, lt))
sum_less (suc n) f g h zero lt less = let rest = sum_le n (λ k. f (suc k)) (λ k. g (suc k)) (λ k. h (suc k)) in omega (arith, rest, less)
sum_less (suc n) f g h (suc w) lt less =
    let rest = sum_less n (λ k. f (suc k)) (λ k. g (suc k)) (λ k. h (suc k)) w (omega (arith, lt)) less in
    let first = h 0 in omega (arith, rest, first)

sum_at : (n : ℕ) (f : ℕ → ℕ) (w : ℕ) → w < n → f w ≤ sum n f
sum_at zero f w lt = absurd (omega (arith, lt))
sum_at (suc n) f zero lt = omega arith
sum_at (suc n) f (suc w) lt = let rest = sum_at n (λ k. f (suc k)) w (omega (arith, lt)) in omega (arith, rest)

abbrev left_in : (ℕ → List Directive) → (ℕ → ℕ) → ℕ → ℕ
left_in all done w = length (all w) - done w

sum_all : (workers : List (List Directive)) → sum (length workers) (λ w. length (lists_at workers w) - 0) ≤ count_all workers
sum_all [] = omega arith
sum_all (part ∷ workers) = let rest = sum_all workers in let all : length part - 0 ≡ length part = omega arith in omega (arith, rest, all)

with_one_same : (w : ℕ) (done : ℕ → ℕ) → with_one w done w ≡ done w + 1
with_one_same w done = rw (eq-eqb w w refl) refl

with_one_more : (w : ℕ) (done : ℕ → ℕ) (m : ℕ) → done m ≤ with_one w done m
with_one_more w done m = go (nat_eq m w) where
  go : (b : Bool) → done m ≤ cond b (done m + 1) (done m)
  go true = omega arith
  go false = omega arith

-- ---- the run

-- what is left of each worker does what is left of linked instructions
record AreLeft (workers : List (List Directive)) (done : ℕ → ℕ) (es : List Emitted) : Type 0 where
  linked : AreLinked (length workers) es
  jobs : (w : ℕ) → AreJobs (drop (done w) (lists_at workers w)) (own_instrs es w)

module _ (workers : List (List Directive)) where
  abbrev left : (ℕ → ℕ) → ℕ → List Directive
  left done w = drop (done w) (lists_at workers w)

  -- where a worker stands, by what is left of it
  stands_so : (done : ℕ → ℕ) (w : ℕ) → stands (lists_at workers) done w ≡ stand_at (first_of (left done w))
  stands_so done w = ap stand_at (first_of_drop (lists_at workers w) (done w))

  -- what is left behind the first directive
  one_less : (done : ℕ → ℕ) (w : ℕ) (x : Directive) (part : List Directive) → left done w ≡ x ∷ part
      → drop (done w + 1) (lists_at workers w) ≡ part
  one_less done w x part h =
      let found : slice_get (lists_at workers w) (done w) ≡ Some x = first_of_drop (lists_at workers w) (done w) ∙ ap first_of h in
      let two : x ∷ drop (done w + 1) (lists_at workers w) ≡ x ∷ part = sym (drop_found (lists_at workers w) (done w) x found) ∙ h in
      ap (drop 1) two

  -- a turn leads on: what is left is linked still, less is left, and no width differs
  record GoesOn (t : Turn) (done : ℕ → ℕ) : Type 0 where
    es : List Emitted
    are : AreLeft workers (after_turn t done) es
    less : sum (length workers) (left_in (lists_at workers) (after_turn t done)) < sum (length workers) (left_in (lists_at workers) done)
    same : differing_at (lists_at workers) t done ≡ None

  -- a worker has done a directive by itself
  record DoneAlone (done : ℕ → ℕ) (es : List Emitted) (w : ℕ) : Type 0 where
    after : List Emitted
    linked : AreLinked (length workers) after
    own : AreJobs (drop (done w + 1) (lists_at workers w)) (own_instrs after w)
    others : (m : ℕ) → m ≢ w → own_instrs after m ≡ own_instrs es m

  -- a directive that is no job leaves the instructions as they are
  no_job : (done : ℕ → ℕ) (es : List Emitted) (w : ℕ) (x : Directive) (part : List Directive) → AreLinked (length workers) es
      → left done w ≡ x ∷ part → AreJobs part (own_instrs es w) → DoneAlone done es w
  no_job done es w x part linked is jobs = record {
    after = es;
    linked = linked;
    own = subst (λ xs. AreJobs xs (own_instrs es w)) (sym (one_less done w x part is)) jobs;
    others = λ m ne. refl;
  }

  done_alone : (done : ℕ → ℕ) (es : List Emitted) (w : ℕ) (part : List Directive) → AreLinked (length workers) es
      → left done w ≡ part → AreJobs part (own_instrs es w)
      → stand_at (first_of part) ≡ stand.Alone → DoneAlone done es w
  done_alone done es w [] linked is jobs h = absurd cc
  done_alone done es w (entry.Do job ∷ part) linked is jobs h =
      let d = one_done (length workers) es linked w jobs.0 jobs.1 jobs.2 (ap is_transfer (sym jobs.3.op) ∙ stand_alone job.op job.imm h) in
      record {
        after = d.left;
        linked = d.linked;
        own = subst (λ xs. AreJobs xs (own_instrs d.left w)) (sym (one_less done w (entry.Do job) part is)) (subst (AreJobs part) (sym d.own) jobs.4);
        others = d.others;
      }
  done_alone done es w (entry.Fresh frame page ∷ part) linked is jobs h =
      no_job done es w (entry.Fresh frame page) part linked is jobs
  done_alone done es w (entry.IssueIn slot page ∷ part) linked is jobs h =
      no_job done es w (entry.IssueIn slot page) part linked is jobs
  done_alone done es w (entry.FinishIn slot frame ∷ part) linked is jobs h =
      no_job done es w (entry.FinishIn slot frame) part linked is jobs
  done_alone done es w (entry.IssueOut slot frame page ∷ part) linked is jobs h =
      no_job done es w (entry.IssueOut slot frame page) part linked is jobs
  done_alone done es w (entry.FinishOut slot ∷ part) linked is jobs h =
      no_job done es w (entry.FinishOut slot) part linked is jobs

  fewer : (done after : ℕ → ℕ) (w : ℕ) → ((m : ℕ) → done m ≤ after m) → done w < after w
      → stands (lists_at workers) done w ≢ stand.Ended
      → sum (length workers) (left_in (lists_at workers) after) < sum (length workers) (left_in (lists_at workers) done)
  fewer done after w more here goes =
      let can = left_of workers done w goes in
      sum_less (length workers) (left_in (lists_at workers) after) (left_in (lists_at workers) done) (λ m. let le = more m in omega (arith, le)) w can.there
      (let short = can.left in omega (arith, here, short))

  goes_alone : (done : ℕ → ℕ) (es : List Emitted) (w : ℕ) → AreLeft workers done es
      → stands (lists_at workers) done w ≡ stand.Alone → GoesOn (turn.Alone w) done
  goes_alone done es w h at =
      let d = done_alone done es w (left done w) h.linked refl (h.jobs w) (sym (stands_so done w) ∙ at) in
      record {
        es = d.after;
        are = record { linked = d.linked; jobs = λ m. ⊎_elim (same d m) (other d m) (cases_eq m w) };
        less = fewer done (with_one w done) w (with_one_more w done) (let e = with_one_same w done in omega (arith, e)) (λ e. alone_not_ended (sym at ∙ e));
        same = refl;
      }
    where
      alone_not_ended : stand.Alone ≡ stand.Ended → ⊥
      alone_not_ended e = cc

      same : (d : DoneAlone done es w) (m : ℕ) → m ≡ w → AreJobs (left (with_one w done) m) (own_instrs d.after m)
      same d m e = subst (λ k. AreJobs (left (with_one w done) k) (own_instrs d.after k)) (sym e)
          (subst (λ n. AreJobs (drop n (lists_at workers w)) (own_instrs d.after w)) (sym (with_one_same w done)) d.own)

      other : (d : DoneAlone done es w) (m : ℕ) → (m ≡ w → ⊥) → AreJobs (left (with_one w done) m) (own_instrs d.after m)
      other d m ne = subst (λ n. AreJobs (drop n (lists_at workers m)) (own_instrs d.after m)) (sym (with_one_other w done m (λ e. ne (sym e))))
          (subst (AreJobs (left done m)) (sym (d.others m ne)) (h.jobs m))

  goes_hands : (done : ℕ → ℕ) (es : List Emitted) (source target : ℕ) → AreLeft workers done es
      → stands (lists_at workers) done source ≡ stand.Sends target
      → stands (lists_at workers) done target ≡ stand.Receives source → GoesOn (turn.Hands source target) done
  goes_hands done es source target h sends receives =
      let a = at_send (left done source) (own_instrs es source) target (h.jobs source) (sym (stands_so done source) ∙ sends) in
      let b = at_recv (left done target) (own_instrs es target) source (h.jobs target) (sym (stands_so done target) ∙ receives) in
      let d = pair_done (length workers) es h.linked source target a.rest b.rest a.i b.i
      (record { from = a.next; to = b.next; sends = a.does; receives = b.does; to_target = a.with; from_source = b.with }) in
      let after = with_one target (with_one source done) in
      let at_source : after source ≡ done source + 1 = with_one_other target (with_one source done) source (λ e. apart (sym e)) ∙ with_one_same source done in
      let at_target : after target ≡ done target + 1 = with_one_same target (with_one source done) ∙ ap (λ n. n + 1) (with_one_other source done target apart) in
      record {
        es = d.left;
        are = record {
          linked = d.linked;
          jobs = λ m. ⊎_elim {C = AreJobs (left after m) (own_instrs d.left m)}
              (λ e. subst (λ k. AreJobs (left after k) (own_instrs d.left k)) (sym e)
              (moved source d.left a.job a.others a.rest a.front a.jobs d.from (after source) at_source))
              (λ ns. ⊎_elim {C = AreJobs (left after m) (own_instrs d.left m)}
              (λ e. subst (λ k. AreJobs (left after k) (own_instrs d.left k)) (sym e)
              (moved target d.left b.job b.others b.rest b.front b.jobs d.to (after target) at_target))
              (λ nt. stays d.left m (d.others m ns nt) ns nt)
              (cases_eq m target))
              (cases_eq m source);
        };
        less = fewer done after source
            (λ m. let one = with_one_more source done m in let two = with_one_more target (with_one source done) m in omega (arith, one, two))
            (omega (arith, at_source)) (λ e. sends_not_ended (sym sends ∙ e));
        same = same_width (width_at (next_of (lists_at workers) done source)) (width_at (next_of (lists_at workers) done target)) (record { worker = target; directive = done target })
            (wide source a.job a.others a.front ∙ a.is.width ∙ d.width ∙ sym b.is.width ∙ sym (wide target b.job b.others b.front));
      }
    where
      sends_not_ended : stand.Sends target ≡ stand.Ended → ⊥
      sends_not_ended e = cc

      apart : source ≢ target
      apart e = let both : stand.Sends target ≡ stand.Receives source = sym sends ∙ ap (stands (lists_at workers) done) e ∙ receives in cc

      moved : (w : ℕ) (after : List Emitted) (job : Job) (part : List Directive) (rest : List Instr)
          → left done w ≡ entry.Do job ∷ part → AreJobs part rest → own_instrs after w ≡ rest
          → (n : ℕ) → n ≡ done w + 1 → AreJobs (drop n (lists_at workers w)) (own_instrs after w)
      moved w after job part rest front jobs own n e =
          subst (λ k. AreJobs (drop k (lists_at workers w)) (own_instrs after w)) (sym e)
          (subst (λ xs. AreJobs xs (own_instrs after w)) (sym (one_less done w (entry.Do job) part front)) (subst (AreJobs part) (sym own) jobs))

      stays : (after : List Emitted) (m : ℕ) → own_instrs after m ≡ own_instrs es m → m ≢ source → m ≢ target
          → AreJobs (left (with_one target (with_one source done)) m) (own_instrs after m)
      stays after m own ns nt =
          let same : with_one target (with_one source done) m ≡ done m =
          with_one_other target (with_one source done) m (λ e. nt (sym e)) ∙ with_one_other source done m (λ e. ns (sym e)) in
          subst (λ n. AreJobs (drop n (lists_at workers m)) (own_instrs after m)) (sym same)
          (subst (AreJobs (left done m)) (sym own) (h.jobs m))

      wide : (w : ℕ) (job : Job) (part : List Directive) → left done w ≡ entry.Do job ∷ part
          → width_at (next_of (lists_at workers) done w) ≡ job.width
      wide w job part front = ap width_at (first_of_drop (lists_at workers w) (done w) ∙ ap first_of front)

      same_width : (m n : ℕ) (p : Place) → m ≡ n → cond (nat_eq m n) None (Some p) ≡ None
      same_width m n p e = rw (eq-eqb m n e) refl

  goes_on : (done : ℕ → ℕ) (es : List Emitted) (t : Turn) → AreLeft workers done es → IsTurn (stands (lists_at workers) done) t
      → GoesOn t done
  goes_on done es (turn.Alone worker) h at = goes_alone done es worker h at
  goes_on done es (turn.Hands source target) h at = goes_hands done es source target h at.0 at.1

  -- where no worker has a turn, each has ended
  module _ (done : ℕ → ℕ) (none : first_turn (stands (lists_at workers) done) 0 (length workers) ≡ None) where
    no_turn_at : (w : ℕ) → w < length workers
        → turn_at w (stands (lists_at workers) done w) (stands (lists_at workers) done) ≡ None
    no_turn_at w lt =
        let from : 0 + w ≡ w = omega arith in
        subst (λ k. turn_at k (stands (lists_at workers) done k) (stands (lists_at workers) done) ≡ None) from (no_turns (stands (lists_at workers) done) 0 (length workers) none w lt)

    not_alone : (w : ℕ) → w < length workers → stand_at (first_of (left done w)) ≡ stand.Alone → ⊥
    not_alone w lt e =
        let at : stands (lists_at workers) done w ≡ stand.Alone = stands_so done w ∙ e in
        no_turn (turn.Alone w) (sym (no_turn_at w lt) ∙ ap (λ s. turn_at w s (stands (lists_at workers) done)) at)

    all_ended : (es : List Emitted) → AreLinked (length workers) es → ((w : ℕ) → AreJobs (left done w) (own_instrs es w))
        → (w : ℕ) → w < length workers → stands (lists_at workers) done w ≡ stand.Ended
    all_ended [] nothing jobs w lt = stands_so done w ∙ at_end (left done w) [] refl (jobs w) (not_alone w lt)
    all_ended (e ∷ es) (alone is below linked) jobs w lt =
        let at = at_instr (left done e.worker) e.instr (own_instrs es e.worker) (own_instrs (e ∷ es) e.worker) (own_first e es e.worker refl) (jobs e.worker) (not_alone e.worker below) in
        absurd (not_alone e.worker below (at ∙ alone_stands e.instr.op e.instr.imm is))
    all_ended (send ∷ recv ∷ es) (transfer is linked) jobs w lt =
        let a = at_instr (left done send.worker) send.instr (own_instrs (recv ∷ es) send.worker) (own_instrs (send ∷ recv ∷ es) send.worker)
        (own_first send (recv ∷ es) send.worker refl) (jobs send.worker) (not_alone send.worker is.sender) in
        let b = at_instr (left done recv.worker) recv.instr (own_instrs es recv.worker) (own_instrs (send ∷ recv ∷ es) recv.worker)
        (own_instrs-other send (recv ∷ es) recv.worker is.apart ∙ own_first recv es recv.worker refl) (jobs recv.worker) (not_alone recv.worker is.receiver) in
        let sends : stands (lists_at workers) done send.worker ≡ stand.Sends recv.worker =
        stands_so done send.worker ∙ a ∙ ap (λ o. stand_of o send.instr.imm) is.sends ∙ ap stand.Sends is.to in
        let receives : stands (lists_at workers) done recv.worker ≡ stand.Receives send.worker =
        stands_so done recv.worker ∙ b ∙ ap (λ o. stand_of o recv.instr.imm) is.receives ∙ ap stand.Receives is.from in
        absurd (no_turn (turn.Hands send.worker recv.worker)
        (sym (no_turn_at send.worker is.sender) ∙ ap (λ s. turn_at send.worker s (stands (lists_at workers) done)) sends
        ∙ ap (λ s. takes_from send.worker s (turn.Hands send.worker recv.worker)) receives ∙ taken send.worker (turn.Hands send.worker recv.worker)))
      where
        taken : (w : ℕ) (t : Turn) → takes_from w (stand.Receives w) t ≡ Some t
        taken w t = rw (eq-eqb w w refl) refl

  -- the run ends, and no width differs
  record Ends (turns : ℕ) (done : ℕ → ℕ) : Type 0 where
    same : differing (lists_at workers) (joint_order (lists_at workers) (length workers) turns done) done ≡ None
    ended : (w : ℕ) → w < length workers
        → stands (lists_at workers) (after_turns (joint_order (lists_at workers) (length workers) turns done) done) w ≡ stand.Ended

  -- a turn, if there is one, and what comes behind it
  abbrev order_at : (turns : ℕ) (done : ℕ → ℕ) → Option Turn → List Turn
  order_at turns done o = then_turns o (λ next. joint_order (lists_at workers) (length workers) turns (after_turn next done))

  ends : (turns : ℕ) (done : ℕ → ℕ) (es : List Emitted) → AreLeft workers done es
      → sum (length workers) (left_in (lists_at workers) done) ≤ turns → Ends turns done
  ends zero done es h le = record {
    same = refl;
    ended = λ w lt.
        let few = sum_at (length workers) (left_in (lists_at workers) done) w lt in
        let all : sum (length workers) (left_in (lists_at workers) done) ≤ 0 = le in
        let own : length (lists_at workers w) - done w ≤ 0 = omega (arith, few, all) in
        ap stand_at (slice_get_past (lists_at workers w) (done w) (omega (arith, own)));
  }
  ends (suc turns) done es h le = go (first_turn (stands (lists_at workers) done) 0 (length workers)) refl (λ t e. goes_on done es t h (first_so (stands (lists_at workers) done) 0 (length workers) t e))
      (λ t g. ends turns (after_turn t done) g.es g.are (let less = g.less in omega (arith, less, le)))
    where
      go : (o : Option Turn) → first_turn (stands (lists_at workers) done) 0 (length workers) ≡ o
          → ((t : Turn) → first_turn (stands (lists_at workers) done) 0 (length workers) ≡ Some t → GoesOn t done)
          → ((t : Turn) → GoesOn t done → Ends turns (after_turn t done)) → Ends (suc turns) done
      go None e step rest = record {
        same = ap (λ o. differing (lists_at workers) (order_at turns done o) done) e;
        ended = λ w lt. ap (λ o. stands (lists_at workers) (after_turns (order_at turns done o) done) w) e ∙ all_ended done e es h.linked h.jobs w lt;
      }
      go (Some t) e step rest =
          let g = step t e in
          let r = rest t g in
          record {
            same = ap (λ o. differing (lists_at workers) (order_at turns done o) done) e
                ∙ ap₂ lower g.same r.same;
            ended = λ w lt. ap (λ o. stands (lists_at workers) (after_turns (order_at turns done o) done) w) e ∙ r.ended w lt;
          }

none_waits : (all : ℕ → List Directive) (done : ℕ → ℕ) (from count : ℕ)
    → ((k : ℕ) → k < count → stands all done (from + k) ≡ stand.Ended) → waiting all done from count ≡ None
none_waits all done from zero h = refl
none_waits all done from (suc count) h =
    let same : from + 0 ≡ from = omega arith in
    let first : stands all done from ≡ stand.Ended = ap (stands all done) (sym same) ∙ h 0 (omega arith) in
    ap (λ s. option_or (waiting_at s (record { worker = from; directive = done from })) (waiting all done (from + 1) count)) first
    ∙ none_waits all done (from + 1) count (λ k lt. let next : from + 1 + k ≡ from + suc k = omega arith in ap (stands all done) next ∙ h (suc k) (omega (arith, lt)))

-- workers that do linked instructions have no fault together
pub no_joint_fault : (workers : List (List Directive)) (es : List Emitted) → AreLinked (length workers) es
    → ((w : ℕ) → AreJobs (lists_at workers w) (own_instrs es w))
    → joint_fault workers ≡ None
no_joint_fault workers es linked jobs =
    let e = ends workers (count_all workers) none_done es (record { linked = linked; jobs = jobs }) (sum_all workers) in
    let waits : waiting_of workers ≡ None = none_waits (lists_at workers) (done_of workers) 0 (length workers) (λ k lt. let from : 0 + k ≡ k = omega arith in ap (stands (lists_at workers) (done_of workers)) from ∙ e.ended k lt) in
    ap₂ (λ (w d : Option Place). option_or (option_map (λ p. wrong.Links p.worker p.directive) w) (option_map (λ p. wrong.Width p.worker p.directive) d)) waits e.same
