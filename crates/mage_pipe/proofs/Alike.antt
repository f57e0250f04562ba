-- Why there is no plan is why there are no costs. Other crates cite this.
use Rattle.std.proofs.Common.{◌≡◌, ◌+◌, ap, refl, ℕ, List, [], ◌∷◌, Option, Some, None, Result, Ok, Err}
use Rattle.mage_chains.specs.Chains.{◌>>=◌}
use Rattle.mage_instr.specs.declared.instr.Instr.{Instr}
use Rattle.mage_instr.specs.declared.replaced.Limits.{Limits}
use Rattle.mage_instr.specs.declared.replaced.Tight.{Tight}
use Rattle.mage_place.specs.TooWide.{page_tight}
use Rattle.mage_sched.specs.Homes.{Homed}
use Rattle.mage_pipe.specs.declared.fault.PlanFault.{PlanFault}
use Rattle.mage_pipe.specs.declared.stats.WorkerStats.{WorkerStats}
use Rattle.mage_pipe.specs.Agreeing.{PlansFailAsCosts}
use Rattle.mage_pipe.specs.MemoryProgram.{directives_for, fitting_directives_of, worker_directives_of, parts_from, joined, memory_program_of}
use Rattle.mage_pipe.specs.Summary.{cost_for, tight_for, unless_tight, if_it_fits, fitting_stats_of, worker_stats_of, tight_at, stats_from, stats_of}

-- both are there, or neither, for the same fault
abbrev pub AreAlike : {X Y : Type 0} → Result X PlanFault → Result Y PlanFault → Type 0
AreAlike (Ok x) (Ok y) = Unit {0}
AreAlike (Err fault) (Err other) = fault ≡ other
AreAlike (Ok x) (Err other) = ⊥
AreAlike (Err fault) (Ok y) = ⊥

alike_chain : {X Y V W : Type 0} (r : Result X PlanFault) (s : Result Y PlanFault) (f : X → Result V PlanFault) (g : Y → Result W PlanFault)
    → AreAlike r s → ((x : X) (y : Y) → AreAlike (f x) (g y)) → AreAlike (r >>= f) (s >>= g)
alike_chain (Ok x) (Ok y) f g h next = next x y
alike_chain (Err fault) (Err other) f g h next = h
alike_chain (Ok x) (Err other) f g h next = absurd h
alike_chain (Err fault) (Ok y) f g h next = absurd h

-- the same limits decide
alike_tight : {X Y : Type 0} (worker : ℕ) (o p : Option Tight) (x : X) (y : Y) → AreAlike (tight_at worker (if_it_fits o (unless_tight p x))) (tight_at worker (if_it_fits o (unless_tight p y)))
alike_tight worker None None x y = tt
alike_tight worker None (Some t) x y = refl
alike_tight worker (Some t) p x y = refl

alike_worker : (limits : Limits) (worker : ℕ) (instrs : List Instr) → AreAlike (tight_at worker (worker_directives_of limits instrs)) (tight_at worker (worker_stats_of limits instrs))
unfolding worker_directives_of fitting_directives_of worker_stats_of fitting_stats_of
alike_worker limits worker instrs = alike_tight worker (page_tight limits.page instrs) (tight_for limits instrs) (directives_for limits instrs) (cost_for limits instrs)

alike_from : (limits : Limits) (worker : ℕ) (workers : List (List Instr)) → AreAlike (parts_from limits worker workers) (stats_from limits worker workers)
unfolding parts_from stats_from
alike_from limits worker [] = tt
alike_from limits worker (instrs ∷ workers) =
    alike_chain (tight_at worker (worker_directives_of limits instrs)) (tight_at worker (worker_stats_of limits instrs))
    (λ part. parts_from limits (worker + 1) workers >>= (λ others. Ok (part ∷ others)))
    (λ stats. stats_from limits (worker + 1) workers >>= (λ others. Ok (stats ∷ others)))
    (alike_worker limits worker instrs)
    (λ part stats. alike_chain (parts_from limits (worker + 1) workers) (stats_from limits (worker + 1) workers) (λ others. Ok (part ∷ others)) (λ others. Ok (stats ∷ others))
    (alike_from limits (worker + 1) workers) (λ others more. tt))

alike_joined : (limits : Limits) (parts : Result (List Homed) PlanFault) (stats : Result (List WorkerStats) PlanFault) → AreAlike parts stats → AreAlike (joined limits [] [] parts) stats
alike_joined limits (Ok parts) (Ok stats) h = tt
alike_joined limits (Err fault) (Err other) h = h
alike_joined limits (Ok parts) (Err other) h = absurd h
alike_joined limits (Err fault) (Ok stats) h = absurd h

-- there is a memory program just where there are costs, and else the fault is the same
pub plans_and_costs_are_alike : (limits : Limits) (workers : List (List Instr)) → AreAlike (memory_program_of limits workers) (stats_of limits workers)
unfolding memory_program_of stats_of
plans_and_costs_are_alike limits workers = alike_joined limits (parts_from limits 0 workers) (stats_from limits 0 workers) (alike_from limits 0 workers)

left_fault : {X Y : Type 0} (r : Result X PlanFault) (s : Result Y PlanFault) (fault : PlanFault) → AreAlike r s → r ≡ Err fault → s ≡ Err fault
left_fault (Err f) (Err g) fault h e = let same : g ≡ fault = cc in ap (λ (x : PlanFault). Err x) same
left_fault (Ok x) s fault h e = absurd (cc)
left_fault (Err f) (Ok y) fault h e = absurd h

right_fault : {X Y : Type 0} (r : Result X PlanFault) (s : Result Y PlanFault) (fault : PlanFault) → AreAlike r s → s ≡ Err fault → r ≡ Err fault
right_fault (Err f) (Err g) fault h e = let same : f ≡ fault = cc in ap (λ (x : PlanFault). Err x) same
right_fault r (Ok y) fault h e = absurd (cc)
right_fault (Ok x) (Err g) fault h e = absurd h

pub plans_fail_as_costs : PlansFailAsCosts
plans_fail_as_costs limits workers fault =
    let alike = plans_and_costs_are_alike limits workers in
    (left_fault (memory_program_of limits workers) (stats_of limits workers) fault alike, right_fault (memory_program_of limits workers) (stats_of limits workers) fault alike)
