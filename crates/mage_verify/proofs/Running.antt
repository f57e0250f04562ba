-- A part without a fault runs.
use Rattle.std.proofs.Common.{◌≡◌, ◌<◌, ◌≤◌, ◌+◌, ◌&&◌, ◌||◌, ℕ, zero, suc, List, [], ◌∷◌, Bool, true, false, not, cond, Some, None, is_some, IfSome, length, take, refl, sym, ◌∙◌, ap, arith, true≢false, nat_lt, nat_le}
use Rattle.std.specs.List.{slice_get, slice_index_or}
use Rattle.std.proofs.lemmas.Bool.{false≢true, and_parts, ltb-true, leb-true, eq-eqb}
use Rattle.std.proofs.lemmas.List.{take_all}
use Rattle.mage_instr.specs.declared.directive.Directive.{Directive}
use Rattle.mage_instr.specs.declared.directive.Directive.TheVariants as entry
use Rattle.mage_instr.specs.declared.op.Op.{Op}
use Rattle.mage_instr.specs.declared.op.Op.TheVariants as op
use Rattle.mage_instr.specs.declared.replaced.Job.{Job}
use Rattle.mage_instr.specs.declared.replaced.Limits.{Limits}
use Rattle.mage_instr.specs.declared.replaced.Spot.{Spot}
use Rattle.mage_directives.specs.Directives.{no_spot}
use Rattle.mage_instr.specs.Opcodes.{arity_of, has_result, width_of_result, width_of_arg}
use Rattle.mage_verify.specs.declared.fault.VerifyFault.TheVariants as wrong
use Rattle.mage_verify.specs.declared.slot.Slot.TheVariants as does
use Rattle.mage_verify.specs.Faults.{fault_at, fault_from, own_fault}
use Rattle.mage_verify.specs.Parts.{WorkerPart}
use Rattle.mage_verify.specs.Range.{has_page, fits, result_fits, arg_fits, values_fit}
use Rattle.mage_verify.specs.Runs.{Fits, ValuesFit, IsStill, Meets, Runs}
use Rattle.mage_verify.specs.State.{State, opening, after, after_all, is_in_flight, is_busy, is_moving, names}
use Rattle.mage_verify.specs.Tables.{IsFine}
use Rattle.mage_verify.proofs.Tests.{Passes-from_none, none_first, none_second, not_true, idle_when, reading_when, writing_when, none_below}

Fits-from_test : (limits : Limits) (width : ℕ) (spot : Spot) → fits limits width spot ≡ true → Fits limits width spot
Fits-from_test limits width spot h =
    let both = and_parts (nat_lt spot.frame limits.frames) (nat_le (spot.offset + width) limits.page) h in
    (ltb-true spot.frame limits.frames both.0, leb-true (spot.offset + width) limits.page both.1)

result_when : (limits : Limits) (job : Job) → result_fits limits job ≡ true → has_result job.op ≡ true → Fits limits (width_of_result job.op job.width) job.out
result_when limits job h has = go (has_result job.op) has h where
  go : (b : Bool) → b ≡ true → cond b (fits limits (width_of_result job.op job.width) job.out) true ≡ true → Fits limits (width_of_result job.op job.width) job.out
  go true e f = Fits-from_test limits (width_of_result job.op job.width) job.out f
  go false e f = absurd (false≢true e)

arg_when : (limits : Limits) (job : Job) (k : ℕ) → arg_fits limits job k ≡ true → k < arity_of job.op → Fits limits (width_of_arg job.op job.width job.imm k) (slice_index_or job.args k no_spot)
arg_when limits job k h l = go (nat_le (arity_of job.op) k) refl h where
  go : (b : Bool) → nat_le (arity_of job.op) k ≡ b → (b || fits limits (width_of_arg job.op job.width job.imm k) (slice_index_or job.args k no_spot)) ≡ true → Fits limits (width_of_arg job.op job.width job.imm k) (slice_index_or job.args k no_spot)
  go true e f = let le = leb-true (arity_of job.op) k e in absurd (omega (arith, le, l))
  go false e f = Fits-from_test limits (width_of_arg job.op job.width job.imm k) (slice_index_or job.args k no_spot) f

arity_le : (o : Op) → arity_of o ≤ 3
arity_le op.Mux = omega arith
arity_le _ = omega arith

ValuesFit-from_test : (limits : Limits) (job : Job) → values_fit limits job ≡ true → ValuesFit limits job
ValuesFit-from_test limits job h =
    let three = and_parts (result_fits limits job && arg_fits limits job 0 && arg_fits limits job 1) (arg_fits limits job 2) h in
    let two = and_parts (result_fits limits job && arg_fits limits job 0) (arg_fits limits job 1) three.0 in
    let one = and_parts (result_fits limits job) (arg_fits limits job 0) two.0 in
    record { result = result_when limits job one.0; args = each one.1 two.1 three.1 } where
      each : arg_fits limits job 0 ≡ true → arg_fits limits job 1 ≡ true → arg_fits limits job 2 ≡ true → (k : ℕ) → k < arity_of job.op → Fits limits (width_of_arg job.op job.width job.imm k) (slice_index_or job.args k no_spot)
      each a b c zero l = arg_when limits job 0 a l
      each a b c (suc zero) l = arg_when limits job 1 b l
      each a b c (suc (suc zero)) l = arg_when limits job 2 c l
      each a b c (suc (suc (suc k))) l = let three = arity_le job.op in absurd (omega (arith, three, l))

IsStill-from_test : (buffer : ℕ) (state : State) (page : ℕ) → is_moving buffer state page ≡ false → IsStill buffer state page
IsStill-from_test buffer state page h s l =
    let none = none_below buffer (λ s. names page (state.slot s)) h s l in
    (λ e. absurd (true≢false (sym (eq-eqb page page refl) ∙ sym (ap (names page) e) ∙ none)), λ e. absurd (true≢false (sym (eq-eqb page page refl) ∙ sym (ap (names page) e) ∙ none)))

Meets-from_fine : (limits : Limits) (pages : ℕ) (state : State) (directive : Directive) → IsFine limits state directive → has_page pages directive ≡ true → Meets limits pages state directive
Meets-from_fine limits pages state (entry.Fresh frame page) f there = ltb-true frame limits.frames f.range
Meets-from_fine limits pages state (entry.IssueIn slot page) f there =
    let both = and_parts (not (is_moving limits.buffer state page)) (state.stored page) f.page in (
      ltb-true slot limits.buffer f.range,
      ltb-true page pages there,
      idle_when (state.slot slot) (not_true (is_in_flight (state.slot slot)) f.slot),
      IsStill-from_test limits.buffer state page (not_true (is_moving limits.buffer state page) both.0),
      both.1,
    )
Meets-from_fine limits pages state (entry.FinishIn slot frame) f there =
    let both = and_parts (nat_lt slot limits.buffer) (nat_lt frame limits.frames) f.range in
    (ltb-true slot limits.buffer both.0, ltb-true frame limits.frames both.1, reading_when (state.slot slot) f.slot)
Meets-from_fine limits pages state (entry.IssueOut slot frame page) f there =
    let both = and_parts (nat_lt slot limits.buffer) (nat_lt frame limits.frames) f.range in (
      ltb-true slot limits.buffer both.0,
      ltb-true frame limits.frames both.1,
      ltb-true page pages there,
      idle_when (state.slot slot) (not_true (is_in_flight (state.slot slot)) f.slot),
      IsStill-from_test limits.buffer state page (not_true (is_moving limits.buffer state page) f.page),
    )
Meets-from_fine limits pages state (entry.FinishOut slot) f there = (ltb-true slot limits.buffer f.range, writing_when (state.slot slot) f.slot)
Meets-from_fine limits pages state (entry.Do job) f there = ValuesFit-from_test limits job f.range

Meets-from_none : (limits : Limits) (pages worker n : ℕ) (state : State) (directive : Directive) → fault_at limits pages worker n state directive ≡ None → Meets limits pages state directive
Meets-from_none limits pages worker n state directive h =
    let passes = Passes-from_none limits pages worker n state directive h in Meets-from_fine limits pages state directive passes.fine passes.store

each_meets : (limits : Limits) (pages worker n : ℕ) (state : State) (directives : List Directive) → fault_from limits pages worker n state directives ≡ None
    → (d : ℕ) → IfSome (slice_get directives d) (Meets limits pages (after_all state (take d directives)))
each_meets limits pages worker n state [] h zero = tt
each_meets limits pages worker n state [] h (suc d) = tt
each_meets limits pages worker n state (x ∷ xs) h zero = Meets-from_none limits pages worker n state x (none_first (fault_at limits pages worker n state x) (fault_from limits pages worker (n + 1) (after state x) xs) h)
each_meets limits pages worker n state (x ∷ xs) h (suc d) = each_meets limits pages worker (n + 1) (after state x) xs (none_second (fault_at limits pages worker n state x) (fault_from limits pages worker (n + 1) (after state x) xs) h) d

idle_past : (limits : Limits) (pages worker n : ℕ) (state : State) (directives : List Directive) → fault_from limits pages worker n state directives ≡ None
    → (s : ℕ) → s < limits.buffer → (after_all state directives).slot s ≡ does.Idle
idle_past limits pages worker n state [] h s l = idle_when (state.slot s) (none_below limits.buffer (λ s. is_in_flight (state.slot s)) (go (is_busy limits.buffer state) h) s l) where
  go : (b : Bool) → cond b (Some (wrong.SlotState worker n)) None ≡ None → b ≡ false
  go true e = absurd (true≢false (ap is_some e))
  go false e = refl
idle_past limits pages worker n state (x ∷ xs) h s l = idle_past limits pages worker (n + 1) (after state x) xs (none_second (fault_at limits pages worker n state x) (fault_from limits pages worker (n + 1) (after state x) xs) h) s l

-- each directive of a part without a fault meets what it asks for
pub Runs-from_none : (part : WorkerPart) → own_fault part ≡ None → Runs part
Runs-from_none part h = record {
  each = each_meets part.limits part.pages part.worker 0 opening part.directives h;
  idle = λ s l. ap (λ (directives : List Directive). (after_all opening directives).slot s) (take_all (length part.directives) part.directives (omega arith)) ∙ idle_past part.limits part.pages part.worker 0 opening part.directives h s l;
}
