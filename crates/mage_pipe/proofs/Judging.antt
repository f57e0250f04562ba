-- What a worker's passes say of the definition.
use Rattle.std.proofs.Common.{◌≡◌, ◌↔◌, ◌∙◌, ap, sym, subst, ℕ, List, Option, Some, None, Result, Ok, Err, IfOk, refl}
use Rattle.std.specs.Option.{option_or}
use Rattle.mage_instr.specs.declared.directive.Directive.{Directive}
use Rattle.mage_instr.specs.declared.instr.Instr.{Instr}
use Rattle.mage_instr.specs.declared.instr.Place.{Place}
use Rattle.mage_instr.specs.declared.instr.Step.{Step}
use Rattle.mage_instr.specs.declared.replaced.Limits.{Limits}
use Rattle.mage_instr.specs.declared.replaced.Replaced.{Replaced}
use Rattle.mage_instr.specs.declared.replaced.Tight.{Tight}
use Rattle.mage_belady.specs.declared.fault.ReplaceError.{ReplaceError}
use Rattle.mage_belady.specs.declared.fault.ReplaceError.TheVariants as errors
use Rattle.mage_belady.specs.Rule.{rule_of, tight_of}
use Rattle.mage_pipe.specs.Answer.{FailsTight, TightOrGives}
use Rattle.mage_sched.specs.declared.fault.ScheduleError.{ScheduleError}
use Rattle.mage_sched.specs.declared.fault.ScheduleError.TheVariants as schedule_errors
use Rattle.mage_sched.specs.Homes.{Homed}
use Rattle.mage_sched.specs.Schedule.{buffer_tight}
use Rattle.mage_pipe.specs.MemoryProgram.{homed_with, directives_for, fitting_directives_of}
use Rattle.mage_pipe.specs.Summary.{places_for, trace_for, list_for, cost_of, cost_for, unless_tight, fitting_stats_of}
use Rattle.mage_schedulable.specs.Planning.{directives_of}

-- an answer with a list, or with the step that is too tight
pub answers_list : {X Y : Type 0} (view : X → Y) (answer : Result X ReplaceError) (o : Option Tight) (list : Y) → IfOk answer (λ x. view x ≡ list) → ((t : Tight) → (answer ≡ Err (errors.Tight t)) ↔ (o ≡ Some t)) → TightOrGives view answer (unless_tight o list)
answers_list view (Ok x) None list is tight = ap Ok (sym is)
answers_list view (Ok x) (Some t) list is tight = absurd (let never = (tight t).1 refl in cc)
answers_list view (Err (errors.Tight t)) o list is tight = let some : o ≡ Some t = (tight t).0 refl in rw some refl
answers_list view (Err errors.Memory) o list is tight = tt

first_tight : {T U : Type 0} (o p : Option Tight) (x : T) (y : U) (t : Tight) → unless_tight o x ≡ Err t → unless_tight (option_or o p) y ≡ Err t
first_tight None p x y t h = absurd (cc)
first_tight (Some s) p x y t h = let same : s ≡ t = cc in ap Err same

not_tight : {T U : Type 0} (o p : Option Tight) (x z : T) (y : U) → unless_tight o x ≡ Ok z → (unless_tight (option_or o p) y ≡ unless_tight p y) × (x ≡ z)
not_tight None p x z y h = (refl, cc)
not_tight (Some s) p x z y h = absurd (cc)

-- a buffer that is too small is so for whatever is made with it, and so is one that suffices
tight_too : {T U : Type 0} (o : Option Tight) (x : T) (y : U) (fault : ReplaceError) → FailsTight fault (unless_tight o x) → FailsTight fault (unless_tight o y)
tight_too (Some s) x y (errors.Tight t) h = let same : s ≡ t = cc in ap Err same
tight_too None x y (errors.Tight t) h = absurd (cc)
tight_too o x y errors.Memory h = tt

fits_too : {T U : Type 0} (o : Option Tight) (x z : T) (y : U) → unless_tight o x ≡ Ok z → unless_tight o y ≡ Ok y
fits_too None x z y h = refl
fits_too (Some t) x z y h = absurd (cc)

module _ (limits : Limits) (instrs : List Instr) (places : List Place) (trace : List Step) (are_places : places ≡ places_for limits instrs) (are_steps : trace ≡ trace_for limits instrs) where
  pub worker_tight : (t : Tight) → unless_tight (tight_of limits.frames 0 trace) (rule_of limits.frames instrs places trace) ≡ Err t → fitting_stats_of limits instrs ≡ Err t
  unfolding fitting_stats_of
  worker_tight t h = first_tight (tight_of limits.frames 0 (trace_for limits instrs)) (buffer_tight limits.buffer (list_for limits instrs)) (list_for limits instrs) (cost_for limits instrs) t (rw (are_places, are_steps) at h)

  pub worker_listed : (list : List Replaced) → unless_tight (tight_of limits.frames 0 trace) (rule_of limits.frames instrs places trace) ≡ Ok list → fitting_stats_of limits instrs ≡ unless_tight (buffer_tight limits.buffer list) (cost_of instrs places trace list)
  unfolding fitting_stats_of
  worker_listed list h =
      let both = not_tight (tight_of limits.frames 0 (trace_for limits instrs)) (buffer_tight limits.buffer (list_for limits instrs)) (list_for limits instrs) list (cost_for limits instrs) (rw (are_places, are_steps) at h) in
      rw (are_places, are_steps, sym both.1) both.0

  -- a fault of the list is the worker's
  pub worker_fault : (fault : ReplaceError) → FailsTight fault (unless_tight (tight_of limits.frames 0 trace) (rule_of limits.frames instrs places trace)) → FailsTight fault (fitting_stats_of limits instrs)
  worker_fault (errors.Tight t) h = worker_tight t h
  worker_fault errors.Memory h = tt

  -- so it is with its directives
  pub worker_unplanned : (fault : ReplaceError) → FailsTight fault (unless_tight (tight_of limits.frames 0 trace) (rule_of limits.frames instrs places trace)) → FailsTight fault (fitting_directives_of limits instrs)
  unfolding fitting_directives_of
  worker_unplanned (errors.Tight t) h =
      first_tight (tight_of limits.frames 0 (trace_for limits instrs)) (buffer_tight limits.buffer (list_for limits instrs)) (list_for limits instrs) (directives_for limits instrs) t (rw (are_places, are_steps) at h)
  worker_unplanned errors.Memory h = tt

  pub worker_planned : (list : List Replaced) → unless_tight (tight_of limits.frames 0 trace) (rule_of limits.frames instrs places trace) ≡ Ok list
      → fitting_directives_of limits instrs ≡ unless_tight (buffer_tight limits.buffer list) (directives_of limits list)
  unfolding fitting_directives_of
  worker_planned list h =
      let both = not_tight (tight_of limits.frames 0 (trace_for limits instrs)) (buffer_tight limits.buffer (list_for limits instrs)) (list_for limits instrs) list (directives_for limits instrs) (rw (are_places, are_steps) at h) in
      rw (sym both.1) both.0

  -- Below, the list was made, and its schedule may not be.
  module _ (list : List Replaced) (listed : unless_tight (tight_of limits.frames 0 trace) (rule_of limits.frames instrs places trace) ≡ Ok list) where
    pub unscheduled : (fault : ReplaceError) → FailsTight fault (unless_tight (buffer_tight limits.buffer list) (directives_of limits list)) → FailsTight fault (fitting_directives_of limits instrs)
    unscheduled fault h = subst (FailsTight fault) (sym (worker_planned list listed)) h

    -- what has no schedule has no costs
    pub uncounted : (fault : ReplaceError) → FailsTight fault (unless_tight (buffer_tight limits.buffer list) (directives_of limits list)) → FailsTight fault (fitting_stats_of limits instrs)
    uncounted fault h =
        subst (FailsTight fault) (sym (worker_listed list listed)) (tight_too (buffer_tight limits.buffer list) (directives_of limits list) (cost_of instrs places trace list) fault h)

    -- and what has one has them
    pub counted : (homed : Homed) → unless_tight (buffer_tight limits.buffer list) (directives_of limits list) ≡ Ok homed → fitting_stats_of limits instrs ≡ Ok (cost_of instrs places trace list)
    counted homed h = worker_listed list listed ∙ fits_too (buffer_tight limits.buffer list) (directives_of limits list) homed (cost_of instrs places trace list) h

-- a schedule that was made is the one of the definition, and the buffer isn't too small
pub schedule_made : {X : Type 0} (r : Result X ScheduleError) (x : X) (o : Option Tight) (homed : Homed) (directives : List Directive) (store : ℕ) → r ≡ Ok x
    → ((t : Tight) → (r ≡ Err (schedule_errors.Tight t)) ↔ (o ≡ Some t)) → directives ≡ homed.directives → store ≡ homed.count → unless_tight o homed ≡ Ok (homed_with directives store)
schedule_made r x None homed directives store made tight d s = ap (λ (h : Homed). Ok h) (sym (ap (λ (xs : List Directive). homed_with xs store) d ∙ ap (homed_with homed.directives) s))
schedule_made {X = X} r x (Some t) homed directives store made tight d s =
    absurd (let never = (tight t).1 refl in not_both {X = X} x t (sym made ∙ never))
  where
    not_both : {X : Type 0} (x : X) (t : Tight) → ◌≡◌ {A = Result X ScheduleError} (Ok x) (Err (schedule_errors.Tight t)) → ⊥
    not_both x t e = cc
