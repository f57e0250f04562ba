-- That what the planner makes is written to a file, and read back from it.
use Rattle.std.specs.Prelude.{◌≡◌, ℕ, List, length, None, Ok}
use Rattle.std.specs.List.{All, AllByRecursion}
use Rattle.mage_instr.specs.declared.directive.Directive.{Directive}
use Rattle.mage_instr.specs.declared.directive.Directive.TheVariants as entry
use Rattle.mage_instr.specs.declared.directive.MemProgram.{MemProgram}
use Rattle.mage_instr.specs.declared.replaced.Limits.{Limits}
use Rattle.mage_instr.specs.Limits.{AreInRange}
use Rattle.mage_residency.specs.Carried.{HaveArguments}
use Rattle.mage_accepted.specs.Accepting.{IsAccepted}
use Rattle.mage_file.specs.Grammar.{spelling_of, spelling_first_of, read_of, read_first_of}
use Rattle.mage_file.specs.Laws.{AreBytes, IsValue}
use Rattle.mage_pipe.specs.declared.loaded.Loaded.{Loaded}
use Rattle.mage_pipe.specs.Loading.{loaded_of}
use Rattle.mage_pipe.specs.MemoryProgram.{plan_of, memory_program_of, IsPlanOfText}
use Rattle.mage_rehome.specs.Earlier.{earlier_of}
use Rattle.mage_rehome.specs.Rehomed.{rehomed_of}
use Rattle.mage_verify.specs.Faults.{fault_of}

-- an instruction of a directive has three arguments, those that its opcode doesn't take included, as its type has it
abbrev pub HasArguments : Directive → Type 0
HasArguments (entry.Fresh frame page) = Unit {0}
HasArguments (entry.IssueIn slot page) = Unit {0}
HasArguments (entry.FinishIn slot frame) = Unit {0}
HasArguments (entry.IssueOut slot frame page) = Unit {0}
HasArguments (entry.FinishOut slot) = Unit {0}
HasArguments (entry.Do job) = length job.args ≡ 3

-- so it is with each instruction of a memory program
abbrev pub AllHaveArguments : MemProgram → Type 0
AllHaveArguments plan = AllByRecursion (AllByRecursion HasArguments) plan.workers

-- What the verifier accepts is a value of the code's types, where its instructions have three arguments: each frame, offset and
-- slot is below 2 ^ 16.
abbrev pub AcceptedAreValues : Type 0
AcceptedAreValues = (plan : MemProgram) → IsAccepted plan → AllHaveArguments plan → IsValue plan

-- each instruction of the program of a source has three arguments
abbrev pub LoadedHaveArguments : Type 0
LoadedHaveArguments = (text : List ℕ) (loaded : Loaded) → loaded_of text ≡ Ok loaded → All HaveArguments loaded.program.workers

-- a memory program that is a plan of a text, is accepted, and is read back from its file
pub record IsFiledPlan (limits : Limits) (text : List ℕ) (plan : MemProgram) : Type 0 where
  pub is_plan : IsPlanOfText limits text plan
  pub accepted : IsAccepted plan
  pub read_back : read_of (spelling_of plan) ≡ Ok plan

-- so is the memory program of each source, within limits in their ranges
abbrev pub PlansArePlans : Type 0
PlansArePlans = (limits : Limits) (text : List ℕ) (plan : MemProgram) → AreInRange limits → plan_of limits text ≡ Ok plan → IsFiledPlan limits text plan

-- A memory program that is accepted, and is read back from its file of the first version. With store pages it is another one.
pub record ComesTo (old today : MemProgram) : Type 0 where
  pub accepted : IsAccepted old
  pub read_back : read_first_of (spelling_first_of old) ≡ Ok old
  pub rehomed : rehomed_of old ≡ today

-- So is what the passes made of a source when each page was stored under its own number: it comes to what they make now.
abbrev pub EarlierFilesComeToPlans : Type 0
EarlierFilesComeToPlans =
    (limits : Limits) (text : List ℕ) (loaded : Loaded) (today : MemProgram) → AreInRange limits → loaded_of text ≡ Ok loaded
    → memory_program_of limits loaded.program.workers ≡ Ok today
    → ComesTo (earlier_of limits loaded.program.workers) today

-- A memory program that is read from a file of the first version, and has no fault, is with store pages read back from its file.
abbrev pub RenamedAreRead : Type 0
RenamedAreRead =
    (bytes : List ℕ) (old : MemProgram) → AreBytes bytes → read_first_of bytes ≡ Ok old → fault_of old ≡ None
    → read_of (spelling_of (rehomed_of old)) ≡ Ok (rehomed_of old)
