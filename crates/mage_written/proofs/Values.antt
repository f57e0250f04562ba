-- What the verifier accepts is a value of the code's types.
use Rattle.std.proofs.Common.{◌≡◌, ◌<◌, ◌≤◌, ◌+◌, ◌^◌, ◌&&◌, ◌||◌, ℕ, zero, suc, Bool, true, false, cond, List, [], ◌∷◌, length, map, None, IfSome, refl, sym, subst, arith, lit<}
use Rattle.std.specs.Prelude.{slice_get, slice_index, slice_index_or, nat_lt, nat_le}
use Rattle.std.specs.List.{AllByRecursion}
use Rattle.std.proofs.Math.Pow.{pow_mono}
use Rattle.std.proofs.lemmas.Bool.{and_parts, leb-true, ltb-true, false≢true}
use Rattle.mage_instr.specs.declared.op.Op.{Op}
use Rattle.mage_instr.specs.declared.op.Op.TheVariants as op
use Rattle.mage_instr.specs.declared.replaced.Job.{Job}
use Rattle.mage_instr.specs.declared.replaced.Spot.{Spot}
use Rattle.mage_instr.specs.declared.replaced.Limits.{Limits}
use Rattle.mage_instr.specs.declared.directive.Directive.{Directive}
use Rattle.mage_instr.specs.declared.directive.Directive.TheVariants as entry
use Rattle.mage_instr.specs.Limits.{AreInRange, IsPageSize}
use Rattle.mage_instr.specs.Opcodes.{arity_of, has_result, width_of_result, width_of_arg, WidthOk}
use Rattle.mage_directives.specs.Directives.{no_spot, arg_at, IsJob, IsDirective, IsPart}
use Rattle.mage_verify.specs.Faults.{fault_at, fault_from, own_fault, lowest, joint_fault}
use Rattle.mage_verify.specs.Parts.{part_of, parts_from, parts_of}
use Rattle.mage_verify.specs.Range.{fits, result_fits, arg_fits, values_fit, is_in_range}
use Rattle.mage_verify.specs.State.{State, opening, after}
use Rattle.mage_verify.proofs.Tests.{Passes-from_none, none_first, none_second}
use Rattle.mage_file.specs.Laws.{IsSpotValue, IsJobValue, IsDirectiveValue}
use Rattle.mage_written.specs.Written.{HasArguments, AcceptedAreValues}

-- ---- spots

nowhere : IsSpotValue no_spot
nowhere = record { frame = lit< tt; offset = lit< tt }

-- a page has at most 2 ^ 16 wires
small_page : (page : ℕ) → IsPageSize page → page ≤ 2 ^ 16
small_page page is = let small = pow_mono {i = is.0} {j = 16} is.2 in let same = is.3 in omega (arith, same, small)

fitting : (limits : Limits) (width : ℕ) (spot : Spot) → AreInRange limits → 1 ≤ width → fits limits width spot ≡ true → IsSpotValue spot
fitting limits width spot range some h =
    let both = and_parts (nat_lt spot.frame limits.frames) (nat_le (spot.offset + width) limits.page) h in
    let frame = ltb-true spot.frame limits.frames both.0 in
    let offset = leb-true (spot.offset + width) limits.page both.1 in
    let frames = range.frames in
    let page = small_page limits.page range.page in
    record { frame = omega (arith, frame, frames); offset = omega (arith, offset, page, some) }

result_wide : (o : Op) (width : ℕ) → 1 ≤ width → 1 ≤ width_of_result o width
result_wide op.Eq width some = omega arith
result_wide op.Lt width some = omega arith
result_wide _ width some = some

arg_wide : (o : Op) (width imm k : ℕ) → WidthOk o width imm → 1 ≤ width_of_arg o width imm k
arg_wide op.Mux width imm zero ok = omega arith
arg_wide op.Mux width imm (suc k) ok = ok.0
arg_wide op.Resize width imm k ok = ok.2.0
arg_wide _ width imm k ok = ok.0

-- ---- an instruction

four : (a b c d : Bool) → (a && b && c && d) ≡ true → (a ≡ true) × (b ≡ true) × (c ≡ true) × (d ≡ true)
four true true true true h = (refl, refl, refl, refl)
four true true true false h = absurd (false≢true h)
four true true false d h = absurd (false≢true h)
four true false c d h = absurd (false≢true h)
four false b c d h = absurd (false≢true h)

three_values : (args : List Spot) → length args ≡ 3 → ((k : ℕ) → k < 3 → IsSpotValue (slice_index_or args k no_spot)) → AllByRecursion IsSpotValue args
three_values [] e h = tt
three_values (a ∷ []) e h = absurd (omega (arith, e))
three_values (a ∷ b ∷ []) e h = absurd (omega (arith, e))
three_values (a ∷ b ∷ c ∷ []) e h = (h 0 (lit< tt), (h 1 (lit< tt), (h 2 (lit< tt), tt)))
three_values (a ∷ b ∷ c ∷ d ∷ others) e h = absurd (omega (arith, e))

module _ (limits : Limits) (range : AreInRange limits) (workers own : ℕ) where
  out_value : (job : Job) → IsJob workers own job → result_fits limits job ≡ true → IsSpotValue job.out
  out_value job is h = go (has_result job.op) refl h where
    go : (b : Bool) → has_result job.op ≡ b → cond b (fits limits (width_of_result job.op job.width) job.out) true ≡ true → IsSpotValue job.out
    go true e f = fitting limits (width_of_result job.op job.width) job.out range (result_wide job.op job.width is.width.0) f
    go false e f = subst IsSpotValue (sym (is.no_result e)) nowhere

  arg_value : (job : Job) (k : ℕ) → k < 3 → IsJob workers own job → arg_fits limits job k ≡ true → IsSpotValue (arg_at k job)
  arg_value job k lt is h = go (nat_le (arity_of job.op) k) refl h where
    go : (b : Bool) → nat_le (arity_of job.op) k ≡ b → (b || fits limits (width_of_arg job.op job.width job.imm k) (arg_at k job)) ≡ true → IsSpotValue (arg_at k job)
    go true e f = subst IsSpotValue (sym (is.no_args k (leb-true (arity_of job.op) k e) lt)) nowhere
    go false e f = fitting limits (width_of_arg job.op job.width job.imm k) (arg_at k job) range (arg_wide job.op job.width job.imm k is.width) f

  job_value : (job : Job) → IsJob workers own job → values_fit limits job ≡ true → length job.args ≡ 3 → IsJobValue job
  job_value job is h three = record { out = out_value job is all.0; count = three; args = three_values job.args three each } where
    all : (result_fits limits job ≡ true) × (arg_fits limits job 0 ≡ true) × (arg_fits limits job 1 ≡ true) × (arg_fits limits job 2 ≡ true)
    all = four (result_fits limits job) (arg_fits limits job 0) (arg_fits limits job 1) (arg_fits limits job 2) h

    each : (k : ℕ) → k < 3 → IsSpotValue (arg_at k job)
    each zero lt = arg_value job 0 lt is all.1
    each (suc zero) lt = arg_value job 1 lt is all.2
    each (suc (suc zero)) lt = arg_value job 2 lt is all.3
    each (suc (suc (suc k))) lt = absurd (omega (arith, lt))

  -- ---- a directive

  frame_small : (frame : ℕ) → nat_lt frame limits.frames ≡ true → frame < 2 ^ 16
  frame_small frame h = let lt = ltb-true frame limits.frames h in let most = range.frames in omega (arith, lt, most)

  slot_small : (slot : ℕ) → nat_lt slot limits.buffer ≡ true → slot < 2 ^ 16
  slot_small slot h = let lt = ltb-true slot limits.buffer h in let most = range.buffer in omega (arith, lt, most)

  value_of : (one : Directive) → is_in_range limits one ≡ true → IsDirective workers own one → HasArguments one → IsDirectiveValue one
  value_of (entry.Fresh frame page) h is three = frame_small frame h
  value_of (entry.IssueIn slot page) h is three = slot_small slot h
  value_of (entry.FinishIn slot frame) h is three =
      let both = and_parts (nat_lt slot limits.buffer) (nat_lt frame limits.frames) h in (slot_small slot both.0, frame_small frame both.1)
  value_of (entry.IssueOut slot frame page) h is three =
      let both = and_parts (nat_lt slot limits.buffer) (nat_lt frame limits.frames) h in (slot_small slot both.0, frame_small frame both.1)
  value_of (entry.FinishOut slot) h is three = slot_small slot h
  value_of (entry.Do job) h is three = job_value job is h three

  -- those of a worker that have no fault
  part_values : (pages worker d : ℕ) (state : State) (part : List Directive) → fault_from limits pages worker d state part ≡ None
      → ((k : ℕ) → IfSome (slice_get part k) (IsDirective workers own)) → AllByRecursion HasArguments part → AllByRecursion IsDirectiveValue part
  part_values pages worker d state [] none each three = tt
  part_values pages worker d state (one ∷ part) none each three =
      let first = none_first (fault_at limits pages worker d state one) (fault_from limits pages worker (d + 1) (after state one) part) none in
      let rest = none_second (fault_at limits pages worker d state one) (fault_from limits pages worker (d + 1) (after state one) part) none in
      let passes = Passes-from_none limits pages worker d state one first in (
        value_of one passes.fine.range (each 0) three.0,
        part_values pages worker (d + 1) (after state one) part rest (λ k. each (suc k)) three.1,
      )

-- ---- all workers

all_values : (limits : Limits) → AreInRange limits → (stores : List ℕ) (total from : ℕ) (parts : List (List Directive))
    → ((w : ℕ) → IfSome (slice_get parts w) (IsPart total (from + w)))
    → lowest own_fault (parts_from limits stores from parts) ≡ None
    → AllByRecursion (AllByRecursion HasArguments) parts → AllByRecursion (AllByRecursion IsDirectiveValue) parts
all_values limits range stores total from [] fields none three = tt
all_values limits range stores total from (part ∷ parts) fields none three =
    let first = none_first (own_fault (part_of limits stores from part)) (lowest own_fault (parts_from limits stores (from + 1) parts)) none in
    let others = none_second (own_fault (part_of limits stores from part)) (lowest own_fault (parts_from limits stores (from + 1) parts)) none in (
      part_values limits range total (from + 0) (slice_index stores from) from 0 opening part first (fields 0).each three.0,
      all_values limits range stores total (from + 1) parts
          (λ v. let same : from + suc v ≡ from + 1 + v = omega arith in subst (λ k. IfSome (slice_get parts v) (IsPart total k)) same (fields (suc v))) others three.1,
    )

pub accepted_are_values : AcceptedAreValues
accepted_are_values plan is three =
    let own = none_first (lowest own_fault (parts_of plan)) (joint_fault (map (λ part. part.directives) (parts_of plan))) is.none in
    all_values plan.limits is.fields.limits plan.stores (length plan.workers) 0 plan.workers
    (λ v. let other : v ≡ 0 + v = omega arith in subst (λ k. IfSome (slice_get plan.workers v) (IsPart (length plan.workers) k)) other (is.fields.parts v)) own three
