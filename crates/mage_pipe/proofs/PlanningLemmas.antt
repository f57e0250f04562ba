-- What the definitions give is a plan.
use Rattle.std.proofs.Common.{◌≡◌, ◌+◌, ℕ, List, [], ◌∷◌, map, Option, None, Some, Result, Ok, Err, IfOk, refl, sym, ◌∙◌, ap, subst, arith}
use Rattle.std.specs.List.{All}
use Rattle.std.specs.Option.{option_or}
use Rattle.std.proofs.lemmas.List.Elements.{All-tail}
use Rattle.mage_chains.specs.Chains.{◌>>=◌}
use Rattle.mage_chains.proofs.Ends.{then_ok}
use Rattle.mage_instr.specs.declared.instr.Instr.{Instr}
use Rattle.mage_instr.specs.declared.instr.Program.{Program}
use Rattle.mage_instr.specs.declared.directive.MemProgram.{MemProgram}
use Rattle.mage_instr.specs.declared.replaced.Limits.{Limits}
use Rattle.mage_instr.specs.declared.replaced.Tight.{Tight}
use Rattle.mage_instr.specs.Sound.{IsSound}
use Rattle.mage_lex.specs.declared.fault.LangFault.{LangFault}
use Rattle.mage_place.specs.TooWide.{page_tight}
use Rattle.mage_belady.specs.Rule.{tight_of}
use Rattle.mage_residency.specs.Carried.{HaveArguments}
use Rattle.mage_sched.specs.Homes.{Homed}
use Rattle.mage_sched.specs.Schedule.{buffer_tight}
use Rattle.mage_schedulable.specs.Planning.{program_of}
use Rattle.mage_schedulable.specs.PlanOf.{IsPlanOf, CanBePlanned, AllCanBePlanned, passed}
use Rattle.mage_schedulable.proofs.PlansOf.{passes_plan}
use Rattle.mage_pipe.specs.declared.fault.PlanFault.{PlanFault}
use Rattle.mage_pipe.specs.declared.loaded.Loaded.{Loaded}
use Rattle.mage_pipe.specs.Answer.{Gives}
use Rattle.mage_pipe.specs.Loading.{loaded_of}
use Rattle.mage_pipe.specs.MemoryProgram.{directives_for, fitting_directives_of, worker_directives_of, parts_from, memory_program_of, IsPassed, IsPlanOfText}
use Rattle.mage_pipe.specs.Summary.{trace_for, list_for, unless_tight, if_it_fits, tight_at, or_language}

pub none_tight : {T : Type 0} (o p : Option Tight) (x y : T) → unless_tight (option_or o p) x ≡ Ok y → (o ≡ None) × (p ≡ None) × (x ≡ y)
none_tight (Some t) p x y h = absurd (cc)
none_tight None (Some t) x y h = absurd (cc)
none_tight None None x y h = (refl, refl, cc)

pub it_fits : {T : Type 0} (o : Option Tight) (fitting : Result T Tight) (x : T) → if_it_fits o fitting ≡ Ok x → (o ≡ None) × (fitting ≡ Ok x)
it_fits None fitting x h = (refl, h)
it_fits (Some t) fitting x h = absurd (cc)

pub is_given : {T : Type 0} (worker : ℕ) (r : Result T Tight) (x : T) → tight_at worker r ≡ Ok x → r ≡ Ok x
is_given {T = T} worker (Ok y) x h = let same : y ≡ x = cc in ap (λ (z : T). Ok z) same
is_given worker (Err t) x h = absurd (cc)

pub is_loaded : {T : Type 0} (r : Result T LangFault) (x : T) → or_language r ≡ Ok x → r ≡ Ok x
is_loaded {T = T} (Ok y) x h = let same : y ≡ x = cc in ap (λ (z : T). Ok z) same
is_loaded (Err fault) x h = absurd (cc)

-- what a worker's directives are, where no limit is too low
can_be : (limits : Limits) (instrs : List Instr) (part : Homed) → IsSound instrs → HaveArguments instrs → worker_directives_of limits instrs ≡ Ok part → CanBePlanned limits instrs × (part ≡ passed limits instrs)
unfolding worker_directives_of fitting_directives_of
can_be limits instrs part sound have h =
    let fits = it_fits (page_tight limits.page instrs) (fitting_directives_of limits instrs) part h in
    let none = none_tight (tight_of limits.frames 0 (trace_for limits instrs)) (buffer_tight limits.buffer (list_for limits instrs)) (directives_for limits instrs) part fits.1 in
    (record { sound = sound; have = have; page = fits.0; frames = none.0; buffer = none.1 }, sym none.2)

same_list : {X : Type 0} (x y : X) (xs ys : List X) → x ≡ y → xs ≡ ys → x ∷ xs ≡ y ∷ ys
same_list x y xs ys e f = cc

none_left : (parts : List Homed) → ◌≡◌ {A = Result (List Homed) PlanFault} (Ok []) (Ok parts) → parts ≡ []
none_left [] h = refl
none_left (part ∷ parts) h = absurd (cc)

ok_same : {X : Type 0} (x y : X) → ◌≡◌ {A = Result X PlanFault} (Ok x) (Ok y) → x ≡ y
ok_same x y h = cc

all_can_be : (limits : Limits) (worker : ℕ) (workers : List (List Instr)) (parts : List Homed) → All IsSound workers → All HaveArguments workers → parts_from limits worker workers ≡ Ok parts
    → AllCanBePlanned limits workers × (parts ≡ map (passed limits) workers)
unfolding parts_from
all_can_be limits worker [] parts sound have h = (tt, none_left parts h)
all_can_be limits worker (instrs ∷ workers) parts sound have h =
    let first = then_ok (tight_at worker (worker_directives_of limits instrs)) (λ part. parts_from limits (worker + 1) workers >>= (λ others. Ok (part ∷ others))) parts h in
    let rest = then_ok (parts_from limits (worker + 1) workers) (λ others. Ok (first.0 ∷ others)) parts first.2 in
    let one = can_be limits instrs first.0 (sound 0 instrs (omega arith)) (have 0 instrs (omega arith)) (is_given worker (worker_directives_of limits instrs) first.0 first.1) in
    let others = all_can_be limits (worker + 1) workers rest.0 (All-tail IsSound instrs workers sound) (All-tail HaveArguments instrs workers have) rest.1 in
    ((one.0, others.0), sym (ok_same (first.0 ∷ rest.0) parts rest.2) ∙ same_list first.0 (passed limits instrs) rest.0 (map (passed limits) workers) one.1 others.1)

is_passed : (limits : Limits) (program : Program) (plan : MemProgram) → All IsSound program.workers → All HaveArguments program.workers → memory_program_of limits program.workers ≡ Ok plan → IsPassed limits program plan
unfolding memory_program_of
is_passed limits program plan sound have h =
    let parts = then_ok (parts_from limits 0 program.workers) _ plan h in
    let all = all_can_be limits 0 program.workers parts.0 sound have parts.1 in
    (all.0, sym (ok_same (program_of limits parts.0) plan parts.2) ∙ ap (program_of limits) all.1)

is_plan : (limits : Limits) (program : Program) (plan : MemProgram) → IsPassed limits program plan → IsPlanOf limits program plan
is_plan limits program plan is = subst (λ (x : MemProgram). IsPlanOf limits program x) (sym is.1) (passes_plan limits program is.0)

-- an answer of which a part, seen by view, is the memory program
module _ {X : Type 0} (view : X → MemProgram) (limits : Limits) (program : Program) where
  pub passed_answer : (answer : Result X PlanFault) → All IsSound program.workers
      → Gives view answer (memory_program_of limits program.workers) → IfOk answer (λ x. All HaveArguments program.workers) → IfOk answer (λ x. IsPassed limits program (view x))
  passed_answer (Ok x) sound gives have = is_passed limits program (view x) sound have gives
  passed_answer (Err fault) sound gives have = tt

  pub plan_answer : (answer : Result X PlanFault) → All IsSound program.workers
      → Gives view answer (memory_program_of limits program.workers) → IfOk answer (λ x. All HaveArguments program.workers) → IfOk answer (λ x. IsPlanOf limits program (view x))
  plan_answer (Ok x) sound gives have = is_plan limits program (view x) (is_passed limits program (view x) sound have gives)
  plan_answer (Err fault) sound gives have = tt

pub text_answer : (limits : Limits) (text : List ℕ) (loaded : Loaded) (answer : Result MemProgram PlanFault) → or_language (loaded_of text) ≡ Ok loaded
    → IfOk answer (IsPlanOf limits loaded.program) → IfOk answer (IsPlanOfText limits text)
text_answer limits text loaded (Ok plan) is h = (loaded, is_loaded (loaded_of text) loaded is, h)
text_answer limits text loaded (Err fault) is h = tt
