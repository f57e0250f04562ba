-- What a plan for a program costs.
use Rattle.std.specs.Prelude.{◌+◌, ℕ, max, List, [], ◌∷◌, length, Option, Some, None, Result, Ok, Err}
use Rattle.std.specs.Option.{option_or}
use Rattle.mage_chains.specs.Chains.{◌>>=◌}
use Rattle.mage_instr.specs.declared.instr.Instr.{Instr}
use Rattle.mage_instr.specs.declared.instr.Place.{Place}
use Rattle.mage_instr.specs.declared.instr.Step.{Step}
use Rattle.mage_instr.specs.declared.replaced.Limits.{Limits}
use Rattle.mage_instr.specs.declared.replaced.Replaced.{Replaced}
use Rattle.mage_instr.specs.declared.replaced.Replaced.TheVariants as entry
use Rattle.mage_instr.specs.declared.replaced.Tight.{Tight}
use Rattle.mage_lex.specs.declared.fault.LangFault.{LangFault}
use Rattle.mage_place.specs.Places.{next_page}
use Rattle.mage_place.specs.TooWide.{page_tight}
use Rattle.mage_belady.specs.Rule.{rule_of, tight_of, loads_of}
use Rattle.mage_sched.specs.Schedule.{buffer_tight}
use Rattle.mage_pipe.specs.declared.fault.PlanFault.{PlanFault}
use Rattle.mage_pipe.specs.declared.fault.PlanFault.TheVariants as faults
use Rattle.mage_pipe.specs.declared.stats.WorkerStats.{WorkerStats}
use Rattle.mage_pipe.specs.Loading.{loaded_of}
use Rattle.mage_place.specs.Placing.{places_of, trace_of}

-- the most pages of a step
abbrev pub most_pages : List Step → ℕ
most_pages [] = 0
most_pages (step ∷ steps) = max step.count (most_pages steps)

-- the page writes of a list
abbrev pub saves_of : List Replaced → ℕ
saves_of [] = 0
saves_of (entry.Save frame page ∷ list) = 1 + saves_of list
saves_of (entry.Load frame page ∷ list) = saves_of list
saves_of (entry.Fresh frame page ∷ list) = saves_of list
saves_of (entry.Do job ∷ list) = saves_of list

-- the places of the results of a worker's instructions
abbrev pub places_for : Limits → List Instr → List Place
places_for limits instrs = places_of instrs limits.page

-- the pages that each of them needs
abbrev pub trace_for : Limits → List Instr → List Step
trace_for limits instrs = trace_of instrs (places_for limits instrs)

-- the pages that come and go in between
abbrev pub list_for : Limits → List Instr → List Replaced
list_for limits instrs = rule_of limits.frames instrs (places_for limits instrs) (trace_for limits instrs)

-- which limit is too low for a worker's instructions, if each value fits a page: first the frames, and then the buffer
abbrev pub tight_for : Limits → List Instr → Option Tight
tight_for limits instrs =
    option_or (tight_of limits.frames 0 (trace_for limits instrs)) (buffer_tight limits.buffer (list_for limits instrs))

-- what a plan costs: its instructions, their places, the trace and the list are counted
abbrev pub cost_of : List Instr → List Place → List Step → List Replaced → WorkerStats
cost_of instrs places trace list = record {
  instructions = length instrs;
  pages = next_page places;
  needs = most_pages trace;
  reads = loads_of list;
  writes = saves_of list;
}

-- what the plan for a worker's instructions costs
abbrev pub cost_for : Limits → List Instr → WorkerStats
cost_for limits instrs = cost_of instrs (places_for limits instrs) (trace_for limits instrs) (list_for limits instrs)

-- a value, unless a limit is too low
abbrev pub unless_tight : {T : Type 0} → Option Tight → T → Result T Tight
unless_tight None x = Ok x
unless_tight (Some tight) x = Err tight

-- what the plan for a worker's instructions costs, where each value fits a page, or the limit that is too low
unfoldable pub fitting_stats_of : Limits → List Instr → Result WorkerStats Tight
fitting_stats_of limits instrs = unless_tight (tight_for limits instrs) (cost_for limits instrs)

-- the same, unless a value doesn't fit a page
abbrev pub if_it_fits : {T : Type 0} → Option Tight → Result T Tight → Result T Tight
if_it_fits None fitting = fitting
if_it_fits (Some tight) fitting = Err tight

-- what the plan for a worker's instructions costs, or the limit that is too low: first the page, then the frames, and
-- then the buffer
unfoldable pub worker_stats_of : Limits → List Instr → Result WorkerStats Tight
worker_stats_of limits instrs = if_it_fits (page_tight limits.page instrs) (fitting_stats_of limits instrs)

-- a limit that is too low for a worker
abbrev pub tight_at : {T : Type 0} → (worker : ℕ) → Result T Tight → Result T PlanFault
tight_at worker (Ok x) = Ok x
tight_at worker (Err tight) = Err (faults.Tight worker tight)

-- the same of each worker, where they are numbered from one on: the first fault is that of the lowest
unfoldable pub stats_from : Limits → (worker : ℕ) → List (List Instr) → Result (List WorkerStats) PlanFault
stats_from limits worker [] = Ok []
stats_from limits worker (instrs ∷ workers) = do
  stats ← tight_at worker (worker_stats_of limits instrs)
  others ← stats_from limits (worker + 1) workers
  Ok (stats ∷ others)

-- what the plan for a program costs, worker by worker
unfoldable pub stats_of : Limits → List (List Instr) → Result (List WorkerStats) PlanFault
stats_of limits workers = stats_from limits 0 workers

-- a fault of the language
abbrev pub or_language : {T : Type 0} → Result T LangFault → Result T PlanFault
or_language (Ok x) = Ok x
or_language (Err fault) = Err (faults.Lang fault)

-- what the plan for a source costs
unfoldable pub summary_of : Limits → List ℕ → Result (List WorkerStats) PlanFault
summary_of limits text = do
  loaded ← or_language (loaded_of text)
  stats_of limits loaded.program.workers
