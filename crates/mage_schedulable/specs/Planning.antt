-- That what the passes make of a worker's instructions carries them.
use Rattle.std.specs.Prelude.{◌≡◌, List, [], ◌∷◌, map, None}
use Rattle.mage_instr.specs.declared.instr.Instr.{Instr}
use Rattle.mage_instr.specs.declared.instr.Place.{Place}
use Rattle.mage_instr.specs.declared.instr.Program.{Program}
use Rattle.mage_instr.specs.declared.instr.Step.{Step}
use Rattle.mage_instr.specs.declared.directive.MemProgram.{MemProgram}
use Rattle.mage_instr.specs.declared.replaced.Limits.{Limits}
use Rattle.mage_instr.specs.declared.replaced.Replaced.{Replaced}
use Rattle.mage_instr.specs.Sound.{IsSound}
use Rattle.mage_place.specs.Places.{ArePlaces}
use Rattle.mage_place.specs.Steps.{AreSteps}
use Rattle.mage_place.specs.TooWide.{page_tight}
use Rattle.mage_belady.specs.Rule.{rule_of, tight_of}
use Rattle.mage_carry.specs.declared.carry.Carry.TheVariants as carry
use Rattle.mage_carry.specs.Carrying.{break_of, carries_of}
use Rattle.mage_residency.specs.Carried.{HaveArguments}
use Rattle.mage_residency.specs.Plain.{CarriesPlainly}
use Rattle.mage_sched.specs.Homes.{Homed, homed_of}
use Rattle.mage_sched.specs.Rule.{IsReplaced}
use Rattle.mage_sched.specs.Schedule.{schedule_of, buffer_tight}

-- the directives of a list with store pages, and how many of these there are
abbrev pub directives_of : Limits → List Replaced → Homed
directives_of limits list = homed_of (schedule_of limits.buffer limits.ahead list)

-- Where a list that the replacement rule makes, for whatever victims, carries a worker's instructions with each transfer done at
-- once, its directives with store pages break no rule of the walk, and leave nothing over.
abbrev pub SchedulesCarry : Type 0
SchedulesCarry =
    (limits : Limits) (instrs : List Instr) (list : List Replaced)
    → IsReplaced list → buffer_tight limits.buffer list ≡ None
    → CarriesPlainly limits.frames limits.page instrs list
    → break_of limits (directives_of limits list).count instrs (directives_of limits list).directives ≡ None

-- Where a worker's instructions can run and no limit is too low for them, neither the page nor the frames nor the buffer: placed
-- and replaced by their rules, scheduled and given homes, the worker's directives break no rule of the walk, and leave nothing
-- over.
abbrev pub PlansCarry : Type 0
PlansCarry =
    (limits : Limits) (instrs : List Instr) (places : List Place) (trace : List Step)
    → IsSound instrs → HaveArguments instrs → page_tight limits.page instrs ≡ None
    → ArePlaces instrs limits.page places → AreSteps instrs places trace → tight_of limits.frames 0 trace ≡ None
    → buffer_tight limits.buffer (rule_of limits.frames instrs places trace) ≡ None
    → let planned = directives_of limits (rule_of limits.frames instrs places trace) in
    break_of limits planned.count instrs planned.directives ≡ None

-- the memory program of some workers' directives
abbrev pub program_of : Limits → List Homed → MemProgram
program_of limits parts = record { limits = limits; stores = map (λ part. part.count) parts; workers = map (λ part. part.directives) parts }

-- the directives of each worker break no rule, and leave nothing over
abbrev pub AllCarry : Limits → List (List Instr) → List Homed → Type 0
AllCarry limits [] [] = Unit {0}
AllCarry limits (instrs ∷ workers) (part ∷ parts) = (break_of limits part.count instrs part.directives ≡ None) × AllCarry limits workers parts
AllCarry limits [] (part ∷ parts) = ⊥
AllCarry limits (instrs ∷ workers) [] = ⊥

-- Where they do for each worker of a program, their memory program carries it.
abbrev pub ProgramsCarry : Type 0
ProgramsCarry =
    (limits : Limits) (program : Program) (parts : List Homed)
    → AllCarry limits program.workers parts
    → carries_of program (program_of limits parts) ≡ carry.Yes
