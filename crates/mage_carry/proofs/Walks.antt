-- Walks that break no rule: what they come to on the way, and how many instructions they do.
use Rattle.std.proofs.Common.{◌≡◌, ◌+◌, ◌<◌, ◌≤◌, ◌&&◌, ◌||◌, zero, suc, ℕ, Bool, true, false, cond, List, [], ◌∷◌, length, take, Option, Some, None, Result, Ok, Err, IsSomeAnd, refl, sym, ◌∙◌, ap, eqb, lit≤, ⊎_elim, arith}
use Rattle.std.specs.Prelude.{nat_eq, nat_le, slice_get, slice_index_or, if◌then◌else◌}
use Rattle.std.specs.List.{list_all}
use Rattle.std.proofs.lemmas.Bool.{and_parts, cases_eq, eqb-true, lt-leb, false≢true, true≢false}
use Rattle.mage_instr.specs.declared.op.Op.{Op}
use Rattle.mage_instr.specs.declared.op.Op.TheVariants as op
use Rattle.mage_instr.specs.declared.instr.Instr.{Instr}
use Rattle.mage_instr.specs.declared.instr.Program.{Program}
use Rattle.mage_instr.specs.declared.replaced.Job.{Job}
use Rattle.mage_instr.specs.declared.replaced.Limits.{Limits}
use Rattle.mage_instr.specs.declared.directive.Directive.{Directive}
use Rattle.mage_instr.specs.declared.directive.Directive.TheVariants as entry
use Rattle.mage_instr.specs.declared.directive.MemProgram.{MemProgram}
use Rattle.mage_instr.specs.Opcodes.{arity_of, has_result, width_of_result, width_of_arg}
use Rattle.mage_instr.specs.Sound.{arg_of}
use Rattle.mage_carry.specs.declared.carry.Carry.{Carry}
use Rattle.mage_carry.specs.declared.carry.Carry.TheVariants as carry
use Rattle.mage_carry.specs.Opcode.{number_of, same_op}
use Rattle.mage_carry.specs.State.{Content, Slot, Idle, Reads, Writes, State, has, is_idle}
use Rattle.mage_carry.specs.Steps.{no_spot, provided, page_read, after_write, is_job_of, is_within, stands_at, finds, finds_all, result_at, result_put, counted, do_job, step_of}
use Rattle.mage_carry.specs.Carrying.{start, walked, unless_broken, is_over, broken_at, break_of, unless_break, store_of, carried_from, carries_of}
use Rattle.mage_carry.specs.Jobs.{jobs_of, IsAt, Does, EachJobDoesNext, AllAreDone}
use Rattle.mage_carry.proofs.Chains.{none_not_some, some_not_none, same_Some, then_some, provided_some, map_some}

-- the opcode with a number
op_at : ℕ → Op
op_at n = if eqb n 0 then op.Input else if eqb n 1 then op.Const else if eqb n 2 then op.Output else if eqb n 3 then op.Add else if eqb n 4 then op.Sub else if eqb n 5 then op.Mul else if eqb n 6 then op.And else if eqb n 7 then op.Or else if eqb n 8 then op.Xor else if eqb n 9 then op.Not else if eqb n 10 then op.Eq else if eqb n 11 then op.Lt else if eqb n 12 then op.Mux else if eqb n 13 then op.Shl else if eqb n 14 then op.Shr else if eqb n 15 then op.Resize else if eqb n 16 then op.Send else if eqb n 17 then op.Recv else if eqb n 18 then op.Div else if eqb n 19 then op.Rem else if eqb n 20 then op.Count else if eqb n 21 then op.Min else op.Max

op_at-number : (o : Op) → op_at (number_of o) ≡ o
unfolding op_at
op_at-number op.Input = refl
op_at-number _ = refl

same_op-true : (a b : Op) → same_op a b ≡ true → a ≡ b
same_op-true a b h = sym (op_at-number a) ∙ ap op_at (eqb-true (number_of a) (number_of b) h) ∙ op_at-number b

pub arity-le : (o : Op) → arity_of o ≤ 3
arity-le op.Input = lit≤ tt
arity-le _ = lit≤ tt

-- How many instructions are done.

result_put-next : (instrs : List Instr) (wires : ℕ) (i : Instr) (job : Job) (s t : State) (b : Bool) → cond b (result_at instrs wires (width_of_result i.op i.width) job.out s) (Some s) ≡ Some t → t.next ≡ s.next
result_put-next instrs wires i job s t true h =
    let content = then_some (slice_get s.frames job.out.frame) _ t h in
    sym (ap (λ (u : State). u.next) (provided_some _ _ t content.2).1)
result_put-next instrs wires i job s t false h = sym (ap (λ (u : State). u.next) (same_Some s t h))

-- what is known of an instruction that was done
record Done (instrs : List Instr) (wires : ℕ) (job : Job) (s t : State) : Type 0 where
  i : Instr
  is : slice_get instrs s.next ≡ Some i
  checked : (is_job_of i job && finds_all wires s.frames i job) ≡ true
  next : t.next ≡ s.next + 1

Done-from_step : (instrs : List Instr) (wires : ℕ) (job : Job) (s t : State) → do_job instrs wires job s ≡ Some t → Done instrs wires job s t
Done-from_step instrs wires job s t h =
    let found = then_some (slice_get instrs s.next) _ t h in
    let i = found.0 in
    let ready = then_some (provided (is_job_of i job && finds_all wires s.frames i job) s) _ t found.2 in
    let checked = provided_some _ s ready.0 ready.1 in
    let after = map_some counted (result_put instrs wires i job ready.0) t ready.2 in
    record {
      i = i;
      is = found.1;
      checked = checked.0;
      next =
          sym (ap (λ (u : State). u.next) after.2)
          ∙ ap (λ n. n + 1) (result_put-next instrs wires i job ready.0 after.0 (has_result i.op) after.1 ∙ sym (ap (λ (u : State). u.next) checked.1));
    }

provided-next : (b : Bool) (n : ℕ) (s t : State) → provided b s ≡ Some t → s.next ≡ n → t.next ≡ n + 0
provided-next b n s t h same = let e : s.next ≡ t.next = ap (λ (u : State). u.next) (provided_some b s t h).1 in omega (arith, e, same)

after_write-next : (slot : ℕ) (doing : Slot) (s t : State) → after_write slot doing s ≡ Some t → t.next ≡ s.next + 0
after_write-next slot Idle s t h = absurd (none_not_some t h)
after_write-next slot (Reads page) s t h = absurd (none_not_some t h)
after_write-next slot (Writes page content) s t h = let e : s.next ≡ t.next = ap (λ (u : State). u.next) (same_Some _ t h) in omega (arith, e)

-- one directive
next_after : (instrs : List Instr) (wires store : ℕ) (s t : State) (x : Directive) → step_of instrs wires store s x ≡ Some t → t.next ≡ s.next + jobs_of (x ∷ [])
next_after instrs wires store s t (entry.Fresh frame page) h = provided-next _ s.next _ t h refl
next_after instrs wires store s t (entry.IssueIn slot page) h = provided-next _ s.next _ t h refl
next_after instrs wires store s t (entry.FinishIn slot frame) h =
    let page = then_some (page_read slot s.slots) _ t h in
    provided-next _ s.next _ t page.2 refl
next_after instrs wires store s t (entry.IssueOut slot frame page) h =
    let content = then_some (slice_get s.frames frame) _ t h in
    provided-next _ s.next _ t content.2 refl
next_after instrs wires store s t (entry.FinishOut slot) h =
    let doing = then_some (slice_get s.slots slot) _ t h in
    after_write-next slot doing.0 s t doing.2
next_after instrs wires store s t (entry.Do job) h = (Done-from_step instrs wires job s t h).next

jobs_of-cons : (x : Directive) (part : List Directive) → jobs_of (x ∷ part) ≡ jobs_of (x ∷ []) + jobs_of part
jobs_of-cons (entry.Do job) part = omega arith
jobs_of-cons (entry.Fresh frame page) part = omega arith
jobs_of-cons (entry.IssueIn slot page) part = omega arith
jobs_of-cons (entry.FinishIn slot frame) part = omega arith
jobs_of-cons (entry.IssueOut slot frame page) part = omega arith
jobs_of-cons (entry.FinishOut slot) part = omega arith

err_not_ok : (d : ℕ) (t : State) → ◌≡◌ {A = Result State ℕ} (Err d) (Ok t) → ⊥
err_not_ok d t h = cc

-- a walk that goes on after a directive
unbroken : (d : ℕ) (o : Option State) (rest : State → Result State ℕ) (t : State) → unless_broken d o rest ≡ Ok t → (s : State) × (o ≡ Some s) × (rest s ≡ Ok t)
unbroken d (Some s) rest t h = (s, refl, h)
unbroken d None rest t h = absurd (err_not_ok d t h)

same_Ok : (s t : State) → ◌≡◌ {A = Result State ℕ} (Ok s) (Ok t) → s ≡ t
same_Ok s t h = cc

next_walked : (instrs : List Instr) (wires store d : ℕ) (s t : State) (part : List Directive) → walked instrs wires store d s part ≡ Ok t → t.next ≡ s.next + jobs_of part
next_walked instrs wires store d s t [] h = let e : s.next ≡ t.next = ap (λ (u : State). u.next) (same_Ok s t h) in omega (arith, e)
next_walked instrs wires store d s t (x ∷ part) h =
    let one = unbroken d (step_of instrs wires store s x) (λ after. walked instrs wires store (d + 1) after part) t h in
    let first = next_after instrs wires store s one.0 x one.1 in
    let others = next_walked instrs wires store (d + 1) one.0 t part one.2 in
    omega (arith, first, others, jobs_of-cons x part)

-- What a walk comes to before a directive, and after it.
record Reaches (instrs : List Instr) (wires store n : ℕ) (s : State) (before : List Directive) (x : Directive) : Type 0 where
  at : State
  after : State
  walked_to : walked instrs wires store n s before ≡ Ok at
  step : step_of instrs wires store at x ≡ Some after

reaches : (instrs : List Instr) (wires store n : ℕ) (s t : State) (part : List Directive) (d : ℕ) (x : Directive) → walked instrs wires store n s part ≡ Ok t → slice_get part d ≡ Some x → Reaches instrs wires store n s (take d part) x
reaches instrs wires store n s t [] d x h is = absurd (none_not_some x is)
reaches instrs wires store n s t (y ∷ part) zero x h is =
    let one = unbroken n (step_of instrs wires store s y) (λ after. walked instrs wires store (n + 1) after part) t h in
    let same = same_Some y x is in
    record { at = s; after = one.0; walked_to = refl; step = ap (step_of instrs wires store s) (sym same) ∙ one.1 }
reaches instrs wires store n s t (y ∷ part) (suc d) x h is =
    let one = unbroken n (step_of instrs wires store s y) (λ after. walked instrs wires store (n + 1) after part) t h in
    let rest = reaches instrs wires store (n + 1) one.0 t part d x one.2 is in
    record {
      at = rest.at;
      after = rest.after;
      walked_to = ap (λ (o : Option State). unless_broken n o (λ after. walked instrs wires store (n + 1) after (take d part))) one.1 ∙ rest.walked_to;
      step = rest.step;
    }

-- What an instruction that was done found.

holds : (variable : ℕ) (o : Option ℕ) → has (nat_eq variable) o ≡ true → o ≡ Some variable
holds variable None h = absurd (false≢true h)
holds variable (Some other) h = ap Some (sym (eqb-true variable other h))

is_at : (variable offset : ℕ) (o : Option Content) → has (λ content. has (nat_eq variable) (content offset)) o ≡ true → IsSomeAnd o (λ content. content offset ≡ Some variable)
is_at variable offset None h = absurd (false≢true h)
is_at variable offset (Some content) h = holds variable (content offset) h

or_else : (a b : Bool) → (a || b) ≡ true → a ≡ false → b ≡ true
or_else true b h none = absurd (true≢false none)
or_else false b h none = h

found_arg : (wires : ℕ) (frames : List Content) (i : Instr) (job : Job) (k : ℕ) → k < arity_of i.op → finds wires frames i job k ≡ true → IsAt frames (arg_of i k) (slice_index_or job.args k no_spot)
found_arg wires frames i job k below h =
    let spot = slice_index_or job.args k no_spot in
    let both = or_else (nat_le (arity_of i.op) k) (is_within wires (width_of_arg i.op i.width i.imm k) spot && stands_at frames (arg_of i k) spot) h (lt-leb (arity_of i.op) k below) in
    is_at (arg_of i k) spot.offset (slice_get frames spot.frame) (and_parts (is_within wires (width_of_arg i.op i.width i.imm k) spot) (stands_at frames (arg_of i k) spot) both).1

found_args : (wires : ℕ) (frames : List Content) (i : Instr) (job : Job) → finds_all wires frames i job ≡ true → (k : ℕ) → k < arity_of i.op → IsAt frames (arg_of i k) (slice_index_or job.args k no_spot)
found_args wires frames i job h k below = at k below (λ e. rw e parts.0) (λ e. rw e parts.1) (λ e. rw e all.1) where
  all : ((finds wires frames i job 0 && finds wires frames i job 1) ≡ true) × (finds wires frames i job 2 ≡ true)
  all = and_parts (finds wires frames i job 0 && finds wires frames i job 1) (finds wires frames i job 2) h

  parts : (finds wires frames i job 0 ≡ true) × (finds wires frames i job 1 ≡ true)
  parts = and_parts (finds wires frames i job 0) (finds wires frames i job 1) (and_parts (finds wires frames i job 0 && finds wires frames i job 1) (finds wires frames i job 2) h).0

  at : (k : ℕ) → k < arity_of i.op → (k ≡ 0 → finds wires frames i job k ≡ true) → (k ≡ 1 → finds wires frames i job k ≡ true) → (k ≡ 2 → finds wires frames i job k ≡ true) → IsAt frames (arg_of i k) (slice_index_or job.args k no_spot)
  at k below zeroth first second =
      let few = arity-le i.op in
      ⊎_elim (λ e. found_arg wires frames i job k below (zeroth e)) (λ n0.
      ⊎_elim (λ e. found_arg wires frames i job k below (first e)) (λ n1.
      found_arg wires frames i job k below (second (omega arith))) (cases_eq k 1)) (cases_eq k 0)

Does-from_checked : (wires : ℕ) (frames : List Content) (i : Instr) (job : Job) → (is_job_of i job && finds_all wires frames i job) ≡ true → Does frames job i
Does-from_checked wires frames i job h =
    let parts = and_parts (is_job_of i job) (finds_all wires frames i job) h in
    let heads = and_parts (same_op job.op i.op && nat_eq job.width i.width) (nat_eq job.imm i.imm) parts.0 in
    let head = and_parts (same_op job.op i.op) (nat_eq job.width i.width) heads.0 in
    record {
      op = same_op-true job.op i.op head.0;
      width = eqb-true job.width i.width head.1;
      imm = eqb-true job.imm i.imm heads.1;
      args = found_args wires frames i job parts.1;
    }

-- From the answer to the walk of a worker.

no_not_yes : (worker d : ℕ) → carry.No worker d ≡ carry.Yes → ⊥
no_not_yes worker d h = cc

unless_break-yes : (worker : ℕ) (o : Option ℕ) (others : Carry) → unless_break worker o others ≡ carry.Yes → (o ≡ None) × (others ≡ carry.Yes)
unless_break-yes worker None others h = (refl, h)
unless_break-yes worker (Some d) others h = absurd (no_not_yes worker d h)

carried_at : (limits : Limits) (stores : List ℕ) (worker : ℕ) (programs : List (List Instr)) (parts : List (List Directive)) (k : ℕ) (instrs : List Instr) (part : List Directive) → carried_from limits stores worker programs parts ≡ carry.Yes → slice_get programs k ≡ Some instrs → slice_get parts k ≡ Some part → break_of limits (store_of stores (worker + k)) instrs part ≡ None
carried_at limits stores worker [] parts k instrs part h is at = absurd (none_not_some instrs is)
carried_at limits stores worker (p ∷ programs) [] k instrs part h is at = absurd (none_not_some part at)
carried_at limits stores worker (p ∷ programs) (q ∷ parts) zero instrs part h is at =
    let one = unless_break-yes worker (break_of limits (store_of stores worker) p q) (carried_from limits stores (worker + 1) programs parts) h in
    let e = same_Some p instrs is in
    let f = same_Some q part at in
    let here : worker + 0 ≡ worker = omega arith in
    ap (λ n. break_of limits (store_of stores n) instrs part) here
    ∙ ap (λ (r : List Directive). break_of limits (store_of stores worker) instrs r) (sym f)
    ∙ ap (λ (r : List Instr). break_of limits (store_of stores worker) r q) (sym e)
    ∙ one.0
carried_at limits stores worker (p ∷ programs) (q ∷ parts) (suc k) instrs part h is at =
    let one = unless_break-yes worker (break_of limits (store_of stores worker) p q) (carried_from limits stores (worker + 1) programs parts) h in
    let there : worker + suc k ≡ worker + 1 + k = omega arith in
    ap (λ n. break_of limits (store_of stores n) instrs part) there ∙ carried_at limits stores (worker + 1) programs parts k instrs part one.1 is at

chosen : (b : Bool) (c : Carry) → cond b c (carry.No 0 0) ≡ carry.Yes → c ≡ carry.Yes
chosen true c h = h
chosen false c h = absurd (no_not_yes 0 0 h)

-- a walk to its end, where nothing is left over
record Ends (instrs : List Instr) (r : Result State ℕ) : Type 0 where
  end : State
  is : r ≡ Ok end
  over : is_over instrs end ≡ true

over_if : (instrs : List Instr) (count : ℕ) (s : State) (b : Bool) → is_over instrs s ≡ b → cond b None (Some count) ≡ None → is_over instrs s ≡ true
over_if instrs count s true e h = e
over_if instrs count s false e h = absurd (some_not_none count h)

Ends-from_none : (instrs : List Instr) (count : ℕ) (r : Result State ℕ) → broken_at instrs count r ≡ None → Ends instrs r
Ends-from_none instrs count (Ok s) h = record { end = s; is = refl; over = over_if instrs count s (is_over instrs s) refl h }
Ends-from_none instrs count (Err d) h = absurd (some_not_none d h)

Ends-from_yes : (program : Program) (plan : MemProgram) (worker : ℕ) (instrs : List Instr) (part : List Directive) → carries_of program plan ≡ carry.Yes → slice_get program.workers worker ≡ Some instrs → slice_get plan.workers worker ≡ Some part → Ends instrs (walked instrs plan.limits.page (store_of plan.stores worker) 0 (start plan.limits.frames plan.limits.buffer) part)
unfolding carries_of break_of
Ends-from_yes program plan worker instrs part carried is at =
    let all = chosen (nat_eq (length program.workers) (length plan.workers)) (carried_from plan.limits plan.stores 0 program.workers plan.workers) carried in
    let here : worker ≡ 0 + worker = omega arith in
    Ends-from_none instrs (length part) _
    (ap (λ n. break_of plan.limits (store_of plan.stores n) instrs part) here ∙ carried_at plan.limits plan.stores 0 program.workers plan.workers worker instrs part all is at)

pub each_job_does_next : EachJobDoesNext
each_job_does_next program plan worker d instrs part job carried is at x =
    let ends = Ends-from_yes program plan worker instrs part carried is at in
    let way = reaches instrs plan.limits.page (store_of plan.stores worker) 0 (start plan.limits.frames plan.limits.buffer) ends.end part d (entry.Do job) ends.is x in
    let done = Done-from_step instrs plan.limits.page job way.at way.after way.step in
    let count : way.at.next ≡ 0 + jobs_of (take d part) = next_walked instrs plan.limits.page (store_of plan.stores worker) 0 (start plan.limits.frames plan.limits.buffer) way.at (take d part) way.walked_to in
    let next : way.at.next ≡ jobs_of (take d part) = omega (arith, count) in
    let found : slice_get instrs (jobs_of (take d part)) ≡ Some done.i = ap (slice_get instrs) (sym next) ∙ done.is in
    record {
      state = way.at;
      reached = way.walked_to;
      does = rw found (Does-from_checked plan.limits.page way.at.frames done.i job done.checked);
    }

pub all_are_done : AllAreDone
all_are_done program plan worker instrs part carried is at =
    let ends = Ends-from_yes program plan worker instrs part carried is at in
    let over = and_parts (nat_eq ends.end.next (length instrs)) (list_all is_idle ends.end.slots) ends.over in
    let all : ends.end.next ≡ 0 + jobs_of part = next_walked instrs plan.limits.page (store_of plan.stores worker) 0 (start plan.limits.frames plan.limits.buffer) ends.end part ends.is in
    omega (arith, all, eqb-true ends.end.next (length instrs) over.0)
