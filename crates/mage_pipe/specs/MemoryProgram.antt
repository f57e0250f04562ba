-- The memory program that the passes make of a source, or why there is none.
use Rattle.std.specs.Prelude.{◌≡◌, ◌+◌, ℕ, List, [], ◌∷◌, ◌++◌, map, Result, Ok}
use Rattle.mage_chains.specs.Chains.{◌>>=◌}
use Rattle.mage_instr.specs.declared.instr.Instr.{Instr}
use Rattle.mage_instr.specs.declared.instr.Program.{Program}
use Rattle.mage_instr.specs.declared.directive.Directive.{Directive}
use Rattle.mage_instr.specs.declared.directive.MemProgram.{MemProgram}
use Rattle.mage_instr.specs.declared.replaced.Limits.{Limits}
use Rattle.mage_instr.specs.declared.replaced.Tight.{Tight}
use Rattle.mage_place.specs.TooWide.{page_tight}
use Rattle.mage_sched.specs.Homes.{Homed}
use Rattle.mage_schedulable.specs.Planning.{directives_of, program_of}
use Rattle.mage_schedulable.specs.PlanOf.{IsPlanOf, AllCanBePlanned, passed}
use Rattle.mage_pipe.specs.declared.fault.PlanFault.{PlanFault}
use Rattle.mage_pipe.specs.declared.loaded.Loaded.{Loaded}
use Rattle.mage_pipe.specs.Loading.{loaded_of}
use Rattle.mage_pipe.specs.Summary.{list_for, tight_for, unless_tight, if_it_fits, tight_at, or_language}

-- some directives, and so many store pages
abbrev pub homed_with : List Directive → (store : ℕ) → Homed
homed_with directives store = record { directives = directives; count = store }

-- a worker's directives with their store pages
abbrev pub directives_for : Limits → List Instr → Homed
directives_for limits instrs = directives_of limits (list_for limits instrs)

-- the same where each value fits a page, or the limit that is too low
unfoldable pub fitting_directives_of : Limits → List Instr → Result Homed Tight
fitting_directives_of limits instrs = unless_tight (tight_for limits instrs) (directives_for limits instrs)

-- the same, unless a value doesn't fit a page
unfoldable pub worker_directives_of : Limits → List Instr → Result Homed Tight
worker_directives_of limits instrs = if_it_fits (page_tight limits.page instrs) (fitting_directives_of limits instrs)

-- the same of each worker, where they are numbered from one on: the first fault is that of the lowest
unfoldable pub parts_from : Limits → (worker : ℕ) → List (List Instr) → Result (List Homed) PlanFault
parts_from limits worker [] = Ok []
parts_from limits worker (instrs ∷ workers) = do
  part ← tight_at worker (worker_directives_of limits instrs)
  others ← parts_from limits (worker + 1) workers
  Ok (part ∷ others)

-- store pages and directives of some workers, and behind them those of the rest, or the fault of the rest
abbrev pub joined : Limits → (stores : List ℕ) → List (List Directive) → Result (List Homed) PlanFault → Result MemProgram PlanFault
joined limits stores workers rest = do
  parts ← rest
  Ok (record {
    limits = limits;
    stores = stores ++ (program_of limits parts).stores;
    workers = workers ++ (program_of limits parts).workers;
  })

-- the memory program of some workers
unfoldable pub memory_program_of : Limits → List (List Instr) → Result MemProgram PlanFault
memory_program_of limits workers = joined limits [] [] (parts_from limits 0 workers)

-- the memory program of a source
unfoldable pub plan_of : Limits → List ℕ → Result MemProgram PlanFault
plan_of limits text = do
  loaded ← or_language (loaded_of text)
  memory_program_of limits loaded.program.workers

-- a memory program is what the passes make of a program, for which no limit is too low
abbrev pub IsPassed : Limits → Program → MemProgram → Type 0
IsPassed limits program plan =
    AllCanBePlanned limits program.workers
    × (plan ≡ program_of limits (map (passed limits) program.workers))

-- A memory program is a plan of a text within these limits: the text is a source without a fault, and it is a plan of the
-- program that the source unrolls to.
abbrev pub IsPlanOfText : Limits → (text : List ℕ) → MemProgram → Type 0
IsPlanOfText limits text plan = (loaded : Loaded) × (loaded_of text ≡ Ok loaded) × IsPlanOf limits loaded.program plan
