-- The walk beside the verifier's state: where the walk goes on, the verifier finds no fault.
use Rattle.std.proofs.Common.{◌≡◌, ◌<◌, ◌+◌, ◌&&◌, ◌||◌, zero, suc, ℕ, Bool, true, false, not, cond, List, [], ◌∷◌, Option, None, Some, Result, Ok, length, get_or, set, replicate, refl, sym, ◌∙◌, ap, ⊎_elim, subst, unwrap_or, true≢false}
use Rattle.std.specs.Prelude.{slice_get, slice_index_or, is_some, nat_eq, nat_lt, nat_le, if◌then◌else◌}
use Rattle.std.specs.List.{list_any, list_all}
use Rattle.std.specs.Option.{option_or}
use Rattle.std.proofs.lemmas.Bool.{cases_eq, and_parts, and_from, eq-eqb, ne_eqb, eqb-true, lt-ltb, false≢true}
use Rattle.std.proofs.lemmas.List.{length-set, length-replicate, get_or-set_same, get_or-set_other}
use Rattle.std.proofs.lemmas.Option.{slice_get_within, get_or_from_slice_get}
use Rattle.mage_instr.specs.declared.instr.Instr.{Instr}
use Rattle.mage_instr.specs.declared.op.Op.{Op}
use Rattle.mage_instr.specs.declared.op.Op.TheVariants as op
use Rattle.mage_instr.specs.declared.replaced.Job.{Job}
use Rattle.mage_instr.specs.declared.replaced.Limits.{Limits}
use Rattle.mage_instr.specs.declared.directive.Directive.{Directive}
use Rattle.mage_instr.specs.declared.directive.Directive.TheVariants as entry
use Rattle.mage_instr.specs.Opcodes.{arity_of, has_result, width_of_result, width_of_arg}
use Rattle.mage_instr.specs.Sound.{arg_of}
use Rattle.mage_carry.specs.State as walk
use Rattle.mage_carry.specs.Steps.{provided, no_spot, page_read, read_by, after_write, is_within, stands_at, finds, finds_all, is_job_of, placed, result_at, result_put, counted, do_job, step_of}
use Rattle.mage_carry.specs.Opcode.{number_of, same_op}
use Rattle.mage_carry.specs.Carrying.{start, walked, unless_broken, is_over, broken_at, break_of}
use Rattle.mage_carry.proofs.Chains.{same_Some, then_some, provided_some, map_some}
use Rattle.mage_verify.specs.declared.slot.Slot.{Slot}
use Rattle.mage_verify.specs.declared.slot.Slot.TheVariants as does
use Rattle.mage_verify.specs.declared.fault.VerifyFault.{VerifyFault}
use Rattle.mage_verify.specs.State.{State, opening, is_in_flight, is_reading, is_writing, names, writes, some_below, is_busy, is_moving, with_slot, after}
use Rattle.mage_verify.specs.Range.{fits, values_fit, is_in_range, has_page}
use Rattle.mage_verify.specs.Faults.{slot_is_right, page_is_right, fault_at, fault_from}
use Rattle.mage_verify.proofs.Tests.{not_true}
use Rattle.mage_accepted.specs.Accepting.{CarryingPartsHaveNoFault}

-- what a slot of the walk does, for the verifier
abbrev pub doing : walk.Slot → Slot
doing walk.Idle = does.Idle
doing (walk.Reads page) = does.Reading page
doing (walk.Writes page content) = does.Writing page

abbrev slot_in : List walk.Slot → ℕ → walk.Slot
slot_in slots s = get_or slots s walk.Idle

-- the walk and the verifier say the same of slots and pages
pub record AreTied (limits : Limits) (w : walk.State) (v : State) : Type 0 where
  pub frames : length w.frames ≡ limits.frames
  pub slots : length w.slots ≡ limits.buffer
  pub each : (s : ℕ) → doing (slot_in w.slots s) ≡ v.slot s
  pub stored : (page : ℕ) → is_some (w.pages page) ≡ v.stored page

-- ---- slots

pub same_test : (a b : ℕ) → nat_eq a b ≡ nat_eq b a
same_test a b = go (nat_eq a b) (nat_eq b a) refl refl where
  go : (x y : Bool) → nat_eq a b ≡ x → nat_eq b a ≡ y → nat_eq a b ≡ nat_eq b a
  go true y e f = e ∙ sym (eq-eqb b a (sym (eqb-true a b e)))
  go false true e f = eq-eqb a b (sym (eqb-true b a f)) ∙ sym f
  go false false e f = e ∙ sym f

-- one slot does something else
each_set : (slots : List walk.Slot) (slot_of : ℕ → Slot) (slot : ℕ) (x : walk.Slot) → slot < length slots
    → ((s : ℕ) → doing (slot_in slots s) ≡ slot_of s)
    → (s : ℕ) → doing (slot_in (set slots slot x) s) ≡ with_slot slot (doing x) slot_of s
each_set slots slot_of slot x within each s = ⊎_elim here there (cases_eq s slot) where
  here : s ≡ slot → doing (slot_in (set slots slot x) s) ≡ with_slot slot (doing x) slot_of s
  here e = ap (λ n. doing (slot_in (set slots slot x) n)) e ∙ ap doing (get_or-set_same slots slot x walk.Idle within) ∙ sym (now e) where
    now : s ≡ slot → with_slot slot (doing x) slot_of s ≡ doing x
    now e = rw (eq-eqb s slot e) refl

  there : (s ≡ slot → ⊥) → doing (slot_in (set slots slot x) s) ≡ with_slot slot (doing x) slot_of s
  there ne = ap doing (get_or-set_other slots slot s x walk.Idle ne) ∙ each s ∙ sym (now ne) where
    now : (s ≡ slot → ⊥) → with_slot slot (doing x) slot_of s ≡ slot_of s
    now ne = rw (ne_eqb s slot ne) refl

or_false : (a b : Bool) → (a || b) ≡ false → (a ≡ false) × (b ≡ false)
or_false true b h = absurd (true≢false h)
or_false false b h = (refl, h)

names-doing : (page : ℕ) (x : walk.Slot) → names page (doing x) ≡ walk.names page x
names-doing page walk.Idle = refl
names-doing page (walk.Reads other) = refl
names-doing page (walk.Writes other content) = refl

none_named : (slots : List walk.Slot) (page s : ℕ) → list_any (walk.names page) slots ≡ false
    → walk.names page (slot_in slots s) ≡ false
none_named [] page zero h = refl
none_named [] page (suc s) h = refl
none_named (x ∷ slots) page zero h = (or_false (walk.names page x) (list_any (walk.names page) slots) h).0
none_named (x ∷ slots) page (suc s) h = none_named slots page s (or_false (walk.names page x) (list_any (walk.names page) slots) h).1

none_flies : (slots : List walk.Slot) (s : ℕ) → list_all walk.is_idle slots ≡ true
    → is_in_flight (doing (slot_in slots s)) ≡ false
none_flies [] zero h = refl
none_flies [] (suc s) h = refl
none_flies (walk.Idle ∷ slots) zero h = refl
none_flies (walk.Reads page ∷ slots) s h = absurd (false≢true h)
none_flies (walk.Writes page content ∷ slots) s h = absurd (false≢true h)
none_flies (walk.Idle ∷ slots) (suc s) h = none_flies slots s h

-- no number passes a test that none passes
none_below : (n : ℕ) (test : ℕ → Bool) → ((k : ℕ) → test k ≡ false) → some_below n test ≡ false
none_below zero test h = refl
none_below (suc n) test h = rw (h 0) (none_below n (λ k. test (suc k)) (λ k. h (suc k)))

-- a slot that may begin a transfer is there and idle, its page is one of the store's, and no slot names it
record MayBegin (store slot page : ℕ) (slots : List walk.Slot) : Type 0 where
  within : slot < length slots
  idle : slot_in slots slot ≡ walk.Idle
  below : nat_lt page store ≡ true
  still : (s : ℕ) → walk.names page (slot_in slots s) ≡ false

idle_slot : (o : Option walk.Slot) → walk.has walk.is_idle o ≡ true → o ≡ Some walk.Idle
idle_slot None h = absurd (false≢true h)
idle_slot (Some walk.Idle) h = refl
idle_slot (Some (walk.Reads page)) h = absurd (false≢true h)
idle_slot (Some (walk.Writes page content)) h = absurd (false≢true h)

may_begin : (store slot page : ℕ) (slots : List walk.Slot) → walk.may_issue store slot page slots ≡ true
    → MayBegin store slot page slots
may_begin store slot page slots h =
    let both = and_parts (walk.has walk.is_idle (slice_get slots slot)) (walk.may_name store page slots) h in
    let free = and_parts (nat_lt page store) (not (list_any (walk.names page) slots)) both.1 in
    let idle = idle_slot (slice_get slots slot) both.0 in
    record {
      within = slice_get_within slots slot walk.Idle idle;
      idle = get_or_from_slice_get slots slot walk.Idle walk.Idle idle;
      below = free.0;
      still = λ s. none_named slots page s (not_true (list_any (walk.names page) slots) free.1);
    }

reads_slot : (o : Option walk.Slot) (page : ℕ) → (elim o [ None ↦ None | Some x ↦ read_by x ]) ≡ Some page
    → o ≡ Some (walk.Reads page)
reads_slot None page h = absurd cc
reads_slot (Some walk.Idle) page h = absurd cc
reads_slot (Some (walk.Reads other)) page h = ap (λ p. Some (walk.Reads p)) (same_Some other page h)
reads_slot (Some (walk.Writes other content)) page h = absurd cc

-- ---- instructions

-- the opcode with a number
op_at : ℕ → Op
op_at n =
    if nat_eq n 0 then op.Input else if nat_eq n 1 then op.Const else if nat_eq n 2 then op.Output
    else if nat_eq n 3 then op.Add else if nat_eq n 4 then op.Sub else if nat_eq n 5 then op.Mul
    else if nat_eq n 6 then op.And else if nat_eq n 7 then op.Or else if nat_eq n 8 then op.Xor
    else if nat_eq n 9 then op.Not else if nat_eq n 10 then op.Eq else if nat_eq n 11 then op.Lt
    else if nat_eq n 12 then op.Mux else if nat_eq n 13 then op.Shl else if nat_eq n 14 then op.Shr
    else if nat_eq n 15 then op.Resize else if nat_eq n 16 then op.Send else if nat_eq n 17 then op.Recv
    else if nat_eq n 18 then op.Div else if nat_eq n 19 then op.Rem else if nat_eq n 20 then op.Count
    else if nat_eq n 21 then op.Min else op.Max

op_at-number : (o : Op) → op_at (number_of o) ≡ o
unfolding op_at
op_at-number op.Input = refl
op_at-number _ = refl

-- a job is the instruction
pub record IsJobOf (job : Job) (i : Instr) : Type 0 where
  pub op : job.op ≡ i.op
  pub width : job.width ≡ i.width
  pub imm : job.imm ≡ i.imm

is_job : (job : Job) (i : Instr) → is_job_of i job ≡ true → IsJobOf job i
is_job job i h =
    let two = and_parts (same_op job.op i.op && nat_eq job.width i.width) (nat_eq job.imm i.imm) h in
    let one = and_parts (same_op job.op i.op) (nat_eq job.width i.width) two.0 in
    record {
      op = sym (op_at-number job.op) ∙ ap op_at (eqb-true (number_of job.op) (number_of i.op) one.0) ∙ op_at-number i.op;
      width = eqb-true job.width i.width one.1;
      imm = eqb-true job.imm i.imm two.1;
    }

frame_there : (frames : List walk.Content) (frame : ℕ) (test : walk.Content → Bool)
    → walk.has test (slice_get frames frame) ≡ true → nat_lt frame (length frames) ≡ true
frame_there frames frame test h = go (slice_get frames frame) refl h where
  go : (o : Option walk.Content) → slice_get frames frame ≡ o → walk.has test o ≡ true → nat_lt frame (length frames) ≡ true
  go None e f = absurd (false≢true f)
  go (Some content) e f = lt-ltb frame (length frames) (slice_get_within frames frame content e)

-- what an instruction that was done found: it is the next one, and its values fit
pub record Found (limits : Limits) (instrs : List Instr) (w next : walk.State) (job : Job) : Type 0 where
  pub instr : Instr
  pub here : slice_get instrs w.next ≡ Some instr
  pub is : IsJobOf job instr
  pub fit : values_fit limits job ≡ true
  pub frames : length next.frames ≡ length w.frames
  pub slots : next.slots ≡ w.slots
  pub pages : next.pages ≡ w.pages
  pub after : next.next ≡ w.next + 1

module _ (limits : Limits) (instrs : List Instr) (w : walk.State) (job : Job) (i : Instr) (long : length w.frames ≡ limits.frames) where
  arg_found : (k : ℕ) → finds limits.page w.frames i job k ≡ true
      → (nat_le (arity_of i.op) k || fits limits (width_of_arg i.op i.width i.imm k) (slice_index_or job.args k no_spot)) ≡ true
  arg_found k h = go (nat_le (arity_of i.op) k) h where
    go : (b : Bool)
        → (b || (is_within limits.page (width_of_arg i.op i.width i.imm k) (slice_index_or job.args k no_spot) && stands_at w.frames (arg_of i k) (slice_index_or job.args k no_spot))) ≡ true
        → (b || fits limits (width_of_arg i.op i.width i.imm k) (slice_index_or job.args k no_spot)) ≡ true
    go true f = refl
    go false f =
        let spot = slice_index_or job.args k no_spot in
        let both = and_parts (is_within limits.page (width_of_arg i.op i.width i.imm k) spot) (stands_at w.frames (arg_of i k) spot) f in
        let there = frame_there w.frames spot.frame (λ content. walk.has (nat_eq (arg_of i k)) (content spot.offset)) both.1 in
        and_from (nat_lt spot.frame limits.frames) (is_within limits.page (width_of_arg i.op i.width i.imm k) spot) (ap (nat_lt spot.frame) (sym long) ∙ there) both.0

  -- a result that was put fits, and changes one frame alone
  record Put (put : walk.State) : Type 0 where
    fit : cond (has_result i.op) (fits limits (width_of_result i.op i.width) job.out) true ≡ true
    frames : length put.frames ≡ length w.frames
    slots : put.slots ≡ w.slots
    pages : put.pages ≡ w.pages
    next : put.next ≡ w.next

  put_found : (put : walk.State) → result_put instrs limits.page i job w ≡ Some put → Put put
  put_found put h = go (has_result i.op) refl h where
    go : (b : Bool) → has_result i.op ≡ b
        → cond b (result_at instrs limits.page (width_of_result i.op i.width) job.out w) (Some w) ≡ Some put → Put put
    go false e f =
        let same = same_Some w put f in
        subst Put same (record { fit = rw e refl; frames = refl; slots = refl; pages = refl; next = refl })
    go true e f =
        let there = then_some (slice_get w.frames job.out.frame) _ put f in
        let both = provided_some (is_within limits.page (width_of_result i.op i.width) job.out) _ put there.2 in
        let within = lt-ltb job.out.frame (length w.frames) (slice_get_within w.frames job.out.frame there.0 there.1) in
        subst Put both.1 (record {
          fit = rw e (and_from (nat_lt job.out.frame limits.frames) (is_within limits.page (width_of_result i.op i.width) job.out) (ap (nat_lt job.out.frame) (sym long) ∙ within) both.0);
          frames = length-set w.frames job.out.frame (placed instrs job.out.offset (width_of_result i.op i.width) w.next there.0);
          slots = refl;
          pages = refl;
          next = refl;
        })

  all_fit : IsJobOf job i → finds_all limits.page w.frames i job ≡ true
      → cond (has_result i.op) (fits limits (width_of_result i.op i.width) job.out) true ≡ true
      → values_fit limits job ≡ true
  all_fit is all result =
      let two = and_parts (finds limits.page w.frames i job 0 && finds limits.page w.frames i job 1) (finds limits.page w.frames i job 2) all in
      let one = and_parts (finds limits.page w.frames i job 0) (finds limits.page w.frames i job 1) two.0 in
      rw (is.op, is.width, is.imm) (and_from _ _ (and_from _ _ (and_from _ _ result (arg_found 0 one.0)) (arg_found 1 one.1)) (arg_found 2 two.1))

pub job_found : (limits : Limits) (instrs : List Instr) (w next : walk.State) (job : Job) → length w.frames ≡ limits.frames
    → do_job instrs limits.page job w ≡ Some next → Found limits instrs w next job
job_found limits instrs w next job long h =
    let found = then_some (slice_get instrs w.next) _ next h in
    let i = found.0 in
    let ready = then_some (provided (is_job_of i job && finds_all limits.page w.frames i job) w) _ next found.2 in
    let checked = provided_some (is_job_of i job && finds_all limits.page w.frames i job) w ready.0 ready.1 in
    let both = and_parts (is_job_of i job) (finds_all limits.page w.frames i job) checked.0 in
    let done = map_some counted (result_put instrs limits.page i job ready.0) next ready.2 in
    let put = put_found limits instrs w job i long done.0 (ap (result_put instrs limits.page i job) checked.1 ∙ done.1) in
    let is = is_job job i both.0 in
    record {
      instr = i;
      here = found.1;
      is = is;
      fit = all_fit limits instrs w job i long is both.1 put.fit;
      frames = ap (λ (s : walk.State). length s.frames) (sym done.2) ∙ put.frames;
      slots = ap (λ (s : walk.State). s.slots) (sym done.2) ∙ put.slots;
      pages = ap (λ (s : walk.State). s.pages) (sym done.2) ∙ put.pages;
      after = ap (λ (s : walk.State). s.next) (sym done.2) ∙ ap (λ n. n + 1) put.next;
    }

-- ---- directives

-- the next instruction is done, or none is
abbrev pub Does : Limits → List Instr → (w next : walk.State) → Directive → Type 0
Does limits instrs w next (entry.Do job) = Found limits instrs w next job
Does limits instrs w next _ = next.next ≡ w.next

-- a directive passes each test, the two stay tied, and an instruction is done by a job alone
pub record Passes (limits : Limits) (instrs : List Instr) (store : ℕ) (w : walk.State) (v : State) (x : Directive) (next : walk.State) : Type 0 where
  pub range : is_in_range limits x ≡ true
  pub there : has_page store x ≡ true
  pub slot : slot_is_right v x ≡ true
  pub page : page_is_right limits.buffer v x ≡ true
  pub tied : AreTied limits next (after v x)
  pub done : Does limits instrs w next x

module _ (limits : Limits) (instrs : List Instr) (store : ℕ) (w : walk.State) (v : State) (t : AreTied limits w v) where
  idle_now : (slot : ℕ) → slot_in w.slots slot ≡ walk.Idle → not (is_in_flight (v.slot slot)) ≡ true
  idle_now slot idle = ap (λ s. not (is_in_flight s)) (sym (t.each slot) ∙ ap doing idle)

  in_buffer : (slot : ℕ) → slot < length w.slots → nat_lt slot limits.buffer ≡ true
  in_buffer slot within = ap (nat_lt slot) (sym t.slots) ∙ lt-ltb slot (length w.slots) within

  still_now : (page : ℕ) → ((s : ℕ) → walk.names page (slot_in w.slots s) ≡ false) → is_moving limits.buffer v page ≡ false
  still_now page still = none_below limits.buffer (λ s. names page (v.slot s))
      (λ s. ap (names page) (sym (t.each s)) ∙ names-doing page (slot_in w.slots s) ∙ still s)

  pub passes : (x : Directive) (next : walk.State) → step_of instrs limits.page store w x ≡ Some next
      → Passes limits instrs store w v x next
  passes (entry.Fresh frame page) next h =
      let both = provided_some (nat_lt frame (length w.frames)) (walk.with_frame frame walk.nothing w) next h in
      record {
        range = ap (nat_lt frame) (sym t.frames) ∙ both.0;
        there = refl;
        slot = refl;
        page = refl;
        tied = subst (λ s. AreTied limits s v) both.1 (record { frames = length-set w.frames frame walk.nothing ∙ t.frames; slots = t.slots; each = t.each; stored = t.stored });
        done = ap (λ (s : walk.State). s.next) (sym both.1);
      }
  passes (entry.IssueIn slot page) next h =
      let both = provided_some (walk.may_issue store slot page w.slots && is_some (w.pages page)) (walk.with_slot slot (walk.Reads page) w) next h in
      let parts = and_parts (walk.may_issue store slot page w.slots) (is_some (w.pages page)) both.0 in
      let may = may_begin store slot page w.slots parts.0 in
      record {
        range = in_buffer slot may.within;
        there = may.below;
        slot = idle_now slot may.idle;
        page = rw (still_now page may.still) (sym (t.stored page) ∙ parts.1);
        tied = subst (λ s. AreTied limits s (after v (entry.IssueIn slot page))) both.1 (record {
          frames = t.frames;
          slots = length-set w.slots slot (walk.Reads page) ∙ t.slots;
          each = each_set w.slots v.slot slot (walk.Reads page) may.within t.each;
          stored = t.stored;
        });
        done = ap (λ (s : walk.State). s.next) (sym both.1);
      }
  passes (entry.FinishIn slot frame) next h =
      let found = then_some (page_read slot w.slots) _ next h in
      let page = found.0 in
      let both = provided_some (nat_lt frame (length w.frames)) _ next found.2 in
      let reads = reads_slot (slice_get w.slots slot) page found.1 in
      let within = slice_get_within w.slots slot (walk.Reads page) reads in
      record {
        range = and_from (nat_lt slot limits.buffer) (nat_lt frame limits.frames) (in_buffer slot within) (ap (nat_lt frame) (sym t.frames) ∙ both.0);
        there = refl;
        slot = ap is_reading (sym (t.each slot) ∙ ap doing (get_or_from_slice_get w.slots slot (walk.Reads page) walk.Idle reads));
        page = refl;
        tied = subst (λ s. AreTied limits s (after v (entry.FinishIn slot frame))) both.1 (record {
          frames = length-set w.frames frame (unwrap_or (w.pages page) walk.nothing) ∙ t.frames;
          slots = length-set w.slots slot walk.Idle ∙ t.slots;
          each = each_set w.slots v.slot slot walk.Idle within t.each;
          stored = t.stored;
        });
        done = ap (λ (s : walk.State). s.next) (sym both.1);
      }
  passes (entry.IssueOut slot frame page) next h =
      let found = then_some (slice_get w.frames frame) _ next h in
      let both = provided_some (walk.may_issue store slot page w.slots) (walk.with_slot slot (walk.Writes page found.0) w) next found.2 in
      let may = may_begin store slot page w.slots both.0 in
      let there = lt-ltb frame (length w.frames) (slice_get_within w.frames frame found.0 found.1) in
      record {
        range = and_from (nat_lt slot limits.buffer) (nat_lt frame limits.frames) (in_buffer slot may.within) (ap (nat_lt frame) (sym t.frames) ∙ there);
        there = may.below;
        slot = idle_now slot may.idle;
        page = ap not (still_now page may.still);
        tied = subst (λ s. AreTied limits s (after v (entry.IssueOut slot frame page))) both.1 (record {
          frames = t.frames;
          slots = length-set w.slots slot (walk.Writes page found.0) ∙ t.slots;
          each = each_set w.slots v.slot slot (walk.Writes page found.0) may.within t.each;
          stored = t.stored;
        });
        done = ap (λ (s : walk.State). s.next) (sym both.1);
      }
  passes (entry.FinishOut slot) next h =
      let found = then_some (slice_get w.slots slot) _ next h in
      finishes found.0 found.1 found.2
    where
      finishes : (x : walk.Slot) → slice_get w.slots slot ≡ Some x → after_write slot x w ≡ Some next
          → Passes limits instrs store w v (entry.FinishOut slot) next
      finishes walk.Idle e f = absurd cc
      finishes (walk.Reads page) e f = absurd cc
      finishes (walk.Writes page content) e f =
          let within = slice_get_within w.slots slot (walk.Writes page content) e in
          let writing : does.Writing page ≡ v.slot slot = sym (ap doing (get_or_from_slice_get w.slots slot (walk.Writes page content) walk.Idle e)) ∙ t.each slot in
          record {
            range = in_buffer slot within;
            there = refl;
            slot = ap is_writing (sym writing);
            page = refl;
            tied = subst (λ s. AreTied limits s (after v (entry.FinishOut slot))) (same_Some _ next f) (record {
              frames = t.frames;
              slots = length-set w.slots slot walk.Idle ∙ t.slots;
              each = each_set w.slots v.slot slot walk.Idle within t.each;
              stored = λ q. stored_then page content q ∙ ap (λ s. writes q s || v.stored q) writing;
            });
            done = ap (λ (s : walk.State). s.next) (sym (same_Some _ next f));
          }
        where
          stored_then : (page : ℕ) (content : walk.Content) (q : ℕ)
              → is_some (walk.got page content w.pages q) ≡ (nat_eq q page || v.stored q)
          stored_then page content q = ⊎_elim
              (λ e. rw (eq-eqb page q e, eq-eqb q page (sym e)) refl)
              (λ ne. rw (ne_eqb page q ne, ne_eqb q page (λ e. ne (sym e))) (t.stored q))
              (cases_eq page q)
  passes (entry.Do job) next h =
      let found = job_found limits instrs w next job t.frames h in
      record {
        range = found.fit;
        there = refl;
        slot = refl;
        page = refl;
        tied = record {
          frames = found.frames ∙ t.frames;
          slots = ap length found.slots ∙ t.slots;
          each = λ s. ap (λ xs. doing (slot_in xs s)) found.slots ∙ t.each s;
          stored = λ page. ap (λ f. is_some (f page)) found.pages ∙ t.stored page;
        };
        done = found;
      }

-- ---- all directives

no_fault_at : (limits : Limits) (instrs : List Instr) (pages worker d : ℕ) (w : walk.State) (v : State) (x : Directive) (next : walk.State)
    → Passes limits instrs pages w v x next
    → fault_at limits pages worker d v x ≡ None
no_fault_at limits instrs pages worker d w v x next p = rw (p.range, p.there, p.slot, p.page) refl

-- the first step of a walk that breaks no rule
pub goes_first : (instrs : List Instr) (count d : ℕ) (o : Option walk.State) (rest : walk.State → Result walk.State ℕ)
    → broken_at instrs count (unless_broken d o rest) ≡ None
    → (next : walk.State) × (o ≡ Some next) × (broken_at instrs count (rest next) ≡ None)
goes_first instrs count d None rest h = absurd (true≢false (ap is_some h))
goes_first instrs count d (Some next) rest h = (next, refl, h)

pub over_at_end : (instrs : List Instr) (count : ℕ) (w : walk.State) → broken_at instrs count (Ok w) ≡ None
    → is_over instrs w ≡ true
over_at_end instrs count w h = go (is_over instrs w) h where
  go : (b : Bool) → cond b None (Some count) ≡ None → b ≡ true
  go true e = refl
  go false e = absurd (true≢false (ap is_some e))

module _ (limits : Limits) (instrs : List Instr) (store worker count : ℕ) where
  none_from : (part : List Directive) (d n : ℕ) (w : walk.State) (v : State) → AreTied limits w v
      → broken_at instrs count (walked instrs limits.page store d w part) ≡ None
      → fault_from limits store worker n v part ≡ None
  none_from [] d n w v t h =
      let idle = (and_parts (nat_eq w.next (length instrs)) (list_all walk.is_idle w.slots) (over_at_end instrs count w h)).1 in
      let free : is_busy limits.buffer v ≡ false = none_below limits.buffer (λ s. is_in_flight (v.slot s)) (λ s. ap is_in_flight (sym (t.each s)) ∙ none_flies w.slots s idle) in
      rw free refl
  none_from (x ∷ part) d n w v t h =
      let first = goes_first instrs count d (step_of instrs limits.page store w x) (λ next. walked instrs limits.page store (d + 1) next part) h in
      let p = passes limits instrs store w v t x first.0 first.1 in
      ap (λ (o : Option VerifyFault). option_or o (fault_from limits store worker (n + 1) (after v x) part)) (no_fault_at limits instrs store worker n w v x first.0 p)
      ∙ none_from part (d + 1) (n + 1) first.0 (after v x) p.tied first.2

all_idle : (slots s : ℕ) → slot_in (replicate slots walk.Idle) s ≡ walk.Idle
all_idle zero zero = refl
all_idle zero (suc s) = refl
all_idle (suc slots) zero = refl
all_idle (suc slots) (suc s) = all_idle slots s

pub begins_tied : (limits : Limits) → AreTied limits (start limits.frames limits.buffer) opening
begins_tied limits = record {
  frames = length-replicate limits.frames walk.nothing;
  slots = length-replicate limits.buffer walk.Idle;
  each = λ s. ap doing (all_idle limits.buffer s);
  stored = λ page. refl;
}

pub carrying_parts_have_no_fault : CarryingPartsHaveNoFault
unfolding break_of
carrying_parts_have_no_fault limits stores worker instrs part h =
    none_from limits instrs (slice_index_or stores worker 0) worker (length part) part 0 0 (start limits.frames limits.buffer) opening (begins_tied limits) h
