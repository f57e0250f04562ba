-- What the passes made of a program when each page was stored under its own number.
use Rattle.std.specs.Prelude.{◌≡◌, ◌≤◌, ◌+◌, ℕ, List, [], ◌∷◌, length, map, max}
use Rattle.mage_instr.specs.declared.instr.Instr.{Instr}
use Rattle.mage_instr.specs.declared.directive.Directive.{Directive}
use Rattle.mage_instr.specs.declared.directive.Directive.TheVariants as entry
use Rattle.mage_instr.specs.declared.directive.MemProgram.{MemProgram}
use Rattle.mage_instr.specs.declared.replaced.Limits.{Limits}
use Rattle.mage_instr.specs.Limits.{AreInRange}
use Rattle.mage_instr.specs.Opcodes.{most_workers}
use Rattle.mage_linked.specs.declared.emitted.Emitted.{Emitted}
use Rattle.mage_linked.specs.Emission.{program_of}
use Rattle.mage_linked.specs.Linked.{AreLinked}
use Rattle.mage_place.specs.Placing.{places_of, trace_of}
use Rattle.mage_belady.specs.Rule.{rule_of}
use Rattle.mage_sched.specs.Homes.{Homed}
use Rattle.mage_sched.specs.Schedule.{schedule_of}
use Rattle.mage_schedulable.specs.Planning.{program_of as memory_program_of}
use Rattle.mage_schedulable.specs.PlanOf.{AllCanBePlanned, passed}
use Rattle.mage_directives.specs.Directives.{most_pages}
use Rattle.mage_accepted.specs.Accepting.{IsAccepted}
use Rattle.mage_rehome.specs.Rehomed.{rehomed_of}

-- the schedule of a worker's instructions, whose transfers name the pages of the places
abbrev pub scheduled : Limits → List Instr → List Directive
scheduled limits instrs = schedule_of limits.buffer limits.ahead (rule_of limits.frames instrs (places_of instrs limits.page) (trace_of instrs (places_of instrs limits.page)))

-- one above the page that a transfer names, or 0
abbrev pub above : Directive → ℕ
above (entry.Fresh frame page) = 0
above (entry.IssueIn slot page) = page + 1
above (entry.FinishIn slot frame) = 0
above (entry.IssueOut slot frame page) = page + 1
above (entry.FinishOut slot) = 0
above (entry.Do job) = 0

-- one above the greatest page that a transfer of some directives names, or 0
abbrev pub above_all : List Directive → ℕ
above_all [] = 0
above_all (one ∷ part) = max (above one) (above_all part)

-- directives on a store that has each page under its own number
abbrev pub on_own_pages : List Directive → Homed
on_own_pages part = record { directives = part; count = above_all part }

-- what the passes made of the instructions of some workers
abbrev pub earlier_of : Limits → List (List Instr) → MemProgram
earlier_of limits workers = memory_program_of limits (map (λ instrs. on_own_pages (scheduled limits instrs)) workers)

-- With store pages it is what the passes make now.
abbrev pub EarlierPlansComeToTodays : Type 0
EarlierPlansComeToTodays =
    (limits : Limits) (workers : List (List Instr))
    → rehomed_of (earlier_of limits workers) ≡ memory_program_of limits (map (passed limits) workers)

-- And the verifier accepts it, where the program's workers are linked, within limits in their ranges that suffice.
abbrev pub EarlierPlansAreAccepted : Type 0
EarlierPlansAreAccepted =
    (limits : Limits) (count : ℕ) (emitted : List Emitted)
    → AreInRange limits → 1 ≤ count → count ≤ most_workers → length emitted ≤ most_pages
    → AreLinked count emitted → AllCanBePlanned limits (program_of count emitted).workers
    → IsAccepted (earlier_of limits (program_of count emitted).workers)
