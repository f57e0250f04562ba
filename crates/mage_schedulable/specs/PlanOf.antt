-- What a plan of a program is. It knows no pass: what a worker's directives do is read off them, and held against the places of
-- the rule of placement, the fewest reads that there are, the formula for the gaps of reads, and the homes.
use Rattle.std.specs.Prelude.{◌≡◌, ◌≤◌, ℕ, List, [], ◌∷◌, length, map, None}
use Rattle.std.specs.List.{flat_map}
use Rattle.mage_instr.specs.declared.instr.Instr.{Instr}
use Rattle.mage_instr.specs.declared.instr.Place.{Place}
use Rattle.mage_instr.specs.declared.instr.Program.{Program}
use Rattle.mage_instr.specs.declared.instr.Step.{Step}
use Rattle.mage_instr.specs.declared.directive.Directive.{Directive}
use Rattle.mage_instr.specs.declared.directive.MemProgram.{MemProgram}
use Rattle.mage_instr.specs.declared.replaced.Limits.{Limits}
use Rattle.mage_instr.specs.declared.replaced.Replaced.{Replaced}
use Rattle.mage_instr.specs.Sound.{IsSound}
use Rattle.mage_place.specs.Placing.{places_of, trace_of}
use Rattle.mage_place.specs.TooWide.{page_tight}
use Rattle.mage_belady.specs.Plan.{Serves, reads_of}
use Rattle.mage_belady.specs.Rule.{pages_by_step, rule_of, tight_of}
use Rattle.mage_carry.specs.declared.carry.Carry.TheVariants as carry
use Rattle.mage_carry.specs.Carrying.{break_of, carries_of}
use Rattle.mage_residency.specs.Carried.{HaveArguments}
use Rattle.mage_sched.specs.Homes.{Homed, homed_of}
use Rattle.mage_sched.specs.Issues.{unseen, AreTimely}
use Rattle.mage_sched.specs.Plainly.{paged_in, plainly}
use Rattle.mage_sched.specs.Schedule.{buffer_tight}
use Rattle.mage_sched.specs.Scheduled.{page_read}
use Rattle.mage_sched.specs.Turns.{at_rest}
use Rattle.mage_schedulable.specs.Bringing.{ComeInOnce}
use Rattle.mage_schedulable.specs.Planning.{directives_of, program_of}
use Rattle.mage_schedulable.specs.Standing.{AllFindPlaces}

-- The plan of residency that directives carry out: a read is of the page that the store page has, a write of the page that the
-- frame holds; each write is done when it is issued, and each read when it is finished.
abbrev pub list_in : List Directive → List Replaced
list_in part = plainly at_rest (paged_in unseen part)

-- some plan of residency serves the trace with so many reads, and none that serves it reads fewer
pub record IsLeast (trace : List Step) (frames reads : ℕ) : Type 0 where
  pub reached : (plan : List (List ℕ)) × Serves plan (pages_by_step trace) frames
      × (reads_of plan (pages_by_step trace) ≡ reads)
  pub least : (plan : List (List ℕ)) → Serves plan (pages_by_step trace) frames
      → reads ≤ reads_of plan (pages_by_step trace)

-- Directives that are a plan of a worker's instructions, on a store of so many pages. Below, `places` and `trace` are those of the
-- rule of placement.
pub record IsPart (limits : Limits) (instrs : List Instr) (places : List Place) (trace : List Step) (store : ℕ) (part : List Directive) : Type 0 where
  -- they carry them: they break no rule of the walk, and leave nothing over
  pub carries : break_of limits store instrs part ≡ None
  -- each instruction finds its values at their places
  pub found : AllFindPlaces instrs places 0 [] (list_in part)
  -- each page of the trace comes in new once
  pub fresh : ComeInOnce trace (list_in part)
  -- no plan of residency reads fewer pages
  pub least : IsLeast trace limits.frames (length (flat_map page_read part))
  -- each read is issued in the gap of the formula
  pub timely : AreTimely limits.buffer limits.ahead part
  -- the transfers are on the homes of their pages, and the store has as many pages as are held at once
  pub homes : homed_of (paged_in unseen part) ≡ record { directives = part; count = store }

-- the same with the places of the rule
abbrev pub IsPartOf : Limits → List Instr → (store : ℕ) → List Directive → Type 0
IsPartOf limits instrs store part = IsPart limits instrs (places_of instrs limits.page) (trace_of instrs (places_of instrs limits.page)) store part

-- each worker's directives are a plan of its instructions
abbrev pub AreParts : Limits → List (List Instr) → (stores : List ℕ) → List (List Directive) → Type 0
AreParts limits [] [] [] = Unit {0}
AreParts limits (instrs ∷ workers) (store ∷ stores) (part ∷ parts) = IsPartOf limits instrs store part × AreParts limits workers stores parts
AreParts limits _ _ _ = ⊥

-- a memory program is a plan of a program within these limits
pub record IsPlanOf (limits : Limits) (program : Program) (plan : MemProgram) : Type 0 where
  pub within : plan.limits ≡ limits
  pub carries : carries_of program plan ≡ carry.Yes
  pub parts : AreParts limits program.workers plan.stores plan.workers

-- instructions that can run, and for which no limit is too low
pub record CanBePlanned (limits : Limits) (instrs : List Instr) : Type 0 where
  pub sound : IsSound instrs
  pub have : HaveArguments instrs
  pub page : page_tight limits.page instrs ≡ None
  pub frames : tight_of limits.frames 0 (trace_of instrs (places_of instrs limits.page)) ≡ None
  pub buffer : buffer_tight limits.buffer (rule_of limits.frames instrs (places_of instrs limits.page) (trace_of instrs (places_of instrs limits.page))) ≡ None

abbrev pub AllCanBePlanned : Limits → List (List Instr) → Type 0
AllCanBePlanned limits [] = Unit {0}
AllCanBePlanned limits (instrs ∷ workers) = CanBePlanned limits instrs × AllCanBePlanned limits workers

-- what the passes make of a worker's instructions
abbrev pub passed : Limits → List Instr → Homed
passed limits instrs = directives_of limits (rule_of limits.frames instrs (places_of instrs limits.page) (trace_of instrs (places_of instrs limits.page)))

-- What the passes make of a program's workers is a plan of it.
abbrev pub PassesPlan : Type 0
PassesPlan =
    (limits : Limits) (program : Program)
    → AllCanBePlanned limits program.workers
    → IsPlanOf limits program (program_of limits (map (passed limits) program.workers))
