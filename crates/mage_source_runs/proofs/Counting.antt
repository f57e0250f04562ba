-- The memory program of a source moves as many pages as its summary says.
use Rattle.std.proofs.Common.{◌≡◌, ◌∙◌, ◌+◌, ℕ, List, [], ◌∷◌, map, length, Option, None, Some, Result, Ok, Err, refl, sym, ap, ap₂, subst, arith}
use Rattle.std.specs.List.{All, flat_map}
use Rattle.std.specs.Option.{option_or}
use Rattle.std.proofs.lemmas.List.Elements.{All-tail}
use Rattle.mage_chains.specs.Chains.{◌>>=◌}
use Rattle.mage_chains.proofs.Ends.{then_ok, same_Ok}
use Rattle.mage_instr.specs.declared.instr.Instr.{Instr}
use Rattle.mage_instr.specs.declared.directive.MemProgram.{MemProgram}
use Rattle.mage_instr.specs.declared.replaced.Limits.{Limits}
use Rattle.mage_instr.specs.declared.replaced.Replaced.{Replaced}
use Rattle.mage_instr.specs.declared.replaced.Replaced.TheVariants as entry
use Rattle.mage_instr.specs.declared.replaced.Tight.{Tight}
use Rattle.mage_place.specs.TooWide.{page_tight}
use Rattle.mage_place.specs.Placing.{places_of, trace_of}
use Rattle.mage_place.specs.Steps.{AreSteps}
use Rattle.mage_place.proofs.PlacesComputed.{ArePlaces-computed}
use Rattle.mage_place.proofs.StepsComputed.{AreSteps-computed}
use Rattle.mage_belady.specs.Rule.{loads_of}
use Rattle.mage_sched.specs.Reads.{reads_from}
use Rattle.mage_sched.specs.Scheduled.{page_read, page_written, page_saved, IsPlanned}
use Rattle.mage_sched.proofs.Planned.{lists_are_planned}
use Rattle.mage_schedulable.specs.Planning.{program_of}
use Rattle.mage_schedulable.specs.PlanOf.{CanBePlanned, AllCanBePlanned, passed}
use Rattle.mage_schedulable.proofs.Entries.{rule_lists_are_replaced}
use Rattle.mage_unroll.proofs.SoundPrograms.{unrolled_is_sound}
use Rattle.mage_pipe.specs.declared.fault.PlanFault.{PlanFault}
use Rattle.mage_pipe.specs.declared.stats.WorkerStats.{WorkerStats}
use Rattle.mage_pipe.specs.Summary.{saves_of, trace_for, places_for, list_for, tight_for, cost_for, unless_tight, if_it_fits, tight_at, fitting_stats_of, worker_stats_of, stats_from, stats_of}
use Rattle.mage_written.proofs.Files.{loaded_have_arguments, is_passed}
use Rattle.mage_source_runs.specs.Moves.{Moves, moves_of, counted_in, PlansMoveAsCounted}
use Rattle.mage_source_runs.proofs.Running.{is_unrolled}

-- ---- what a summary counts

unless_is : {T : Type 0} (o : Option Tight) (x y : T) → unless_tight o x ≡ Ok y → x ≡ y
unless_is None x y h = same_Ok x y h
unless_is (Some t) x y h = absurd (cc)

it_is : {T : Type 0} (o : Option Tight) (fitting : Result T Tight) (x : T) → if_it_fits o fitting ≡ Ok x → fitting ≡ Ok x
it_is None fitting x h = h
it_is (Some t) fitting x h = absurd (cc)

is_given : {T : Type 0} (worker : ℕ) (r : Result T Tight) (x : T) → tight_at worker r ≡ Ok x → r ≡ Ok x
is_given {T = T} worker (Ok y) x h = let same : y ≡ x = cc in ap (λ (z : T). Ok z) same
is_given worker (Err t) x h = absurd (cc)

cost_is : (limits : Limits) (instrs : List Instr) (stats : WorkerStats) → worker_stats_of limits instrs ≡ Ok stats → cost_for limits instrs ≡ stats
unfolding worker_stats_of fitting_stats_of
cost_is limits instrs stats h =
    unless_is (tight_for limits instrs) (cost_for limits instrs) stats (it_is (page_tight limits.page instrs) (fitting_stats_of limits instrs) stats h)

costs_are : (limits : Limits) (worker : ℕ) (workers : List (List Instr)) (stats : List WorkerStats) → stats_from limits worker workers ≡ Ok stats
    → map (cost_for limits) workers ≡ stats
unfolding stats_from
costs_are limits worker [] stats h = same_Ok [] stats h
costs_are limits worker (instrs ∷ workers) stats h =
    let first = then_ok (tight_at worker (worker_stats_of limits instrs)) (λ s. stats_from limits (worker + 1) workers >>= (λ others. Ok (s ∷ others))) stats h in
    let rest = then_ok (stats_from limits (worker + 1) workers) (λ others. Ok (first.0 ∷ others)) stats first.2 in
    let one = cost_is limits instrs first.0 (is_given worker (worker_stats_of limits instrs) first.0 first.1) in
    ap₂ (λ (s : WorkerStats) (others : List WorkerStats). s ∷ others) one (costs_are limits (worker + 1) workers rest.0 rest.1) ∙ same_Ok (first.0 ∷ rest.0) stats rest.2

-- ---- what directives move

-- a list has as many reads as loads
reads_are_loads : (before list : List Replaced) → length (reads_from before list) ≡ loads_of list
reads_are_loads before [] = refl
reads_are_loads before (entry.Fresh frame page ∷ list) = reads_are_loads (entry.Fresh frame page ∷ before) list
reads_are_loads before (entry.Load frame page ∷ list) = let rest = reads_are_loads (entry.Load frame page ∷ before) list in omega (arith, rest)
reads_are_loads before (entry.Save frame page ∷ list) = reads_are_loads (entry.Save frame page ∷ before) list
reads_are_loads before (entry.Do job ∷ list) = reads_are_loads (entry.Do job ∷ before) list

-- and as many pages are saved as there are saves
pages_are_saves : (list : List Replaced) → length (flat_map page_saved list) ≡ saves_of list
pages_are_saves [] = refl
pages_are_saves (entry.Fresh frame page ∷ list) = pages_are_saves list
pages_are_saves (entry.Load frame page ∷ list) = pages_are_saves list
pages_are_saves (entry.Save frame page ∷ list) = let rest = pages_are_saves list in omega (arith, rest)
pages_are_saves (entry.Do job ∷ list) = pages_are_saves list

-- the moves of a worker
abbrev moves_in : Limits → List Instr → Moves
moves_in limits instrs = record {
  reads = length (flat_map page_read (passed limits instrs).directives);
  writes = length (flat_map page_written (passed limits instrs).directives);
}

abbrev counted : WorkerStats → Moves
counted stats = record { reads = stats.reads; writes = stats.writes }

moves_are : (limits : Limits) (instrs : List Instr) → CanBePlanned limits instrs → moves_in limits instrs ≡ counted (cost_for limits instrs)
moves_are limits instrs can =
    let places = places_of instrs limits.page in
    let trace = trace_of instrs places in
    let are = ArePlaces-computed instrs limits.page in
    let steps = AreSteps-computed instrs places can.sound are.count in
    let list = list_for limits instrs in
    let planned : IsPlanned limits.buffer limits.ahead list (passed limits instrs).directives (passed limits instrs).count =
    lists_are_planned limits.buffer limits.ahead list (rule_lists_are_replaced limits.frames instrs places trace can.sound steps can.frames) can.buffer in
    ap₂ (λ (reads writes : ℕ). record { reads = reads; writes = writes }) (planned.schedule.asked ∙ reads_are_loads [] list) (planned.schedule.sent ∙ pages_are_saves list)

all_are : (limits : Limits) (workers : List (List Instr)) → AllCanBePlanned limits workers
    → moves_of (program_of limits (map (passed limits) workers)) ≡ counted_in (map (cost_for limits) workers)
all_are limits [] can = refl
all_are limits (instrs ∷ workers) can =
    ap₂ (λ (m : Moves) (others : List Moves). m ∷ others) (moves_are limits instrs can.0) (all_are limits workers can.1)

pub plans_move_as_counted : PlansMoveAsCounted
unfolding stats_of
plans_move_as_counted limits text loaded plan stats is planned counts =
    let sound = unrolled_is_sound loaded.source.workers loaded.source.body loaded.program (is_unrolled text loaded is) in
    let passed_so = is_passed limits loaded.program.workers plan sound (loaded_have_arguments text loaded is) planned in
    ap moves_of (sym passed_so.1) ∙ all_are limits loaded.program.workers passed_so.0 ∙ ap counted_in (costs_are limits 0 loaded.program.workers stats counts)
