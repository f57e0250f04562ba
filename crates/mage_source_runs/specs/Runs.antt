-- That the memory program of a source can be run in its place.
use Rattle.std.specs.Prelude.{◌≡◌, ℕ, List, length, Ok}
use Rattle.mage_instr.specs.declared.directive.MemProgram.{MemProgram}
use Rattle.mage_instr.specs.declared.replaced.Limits.{Limits}
use Rattle.mage_instr.specs.Limits.{AreInRange}
use Rattle.mage_linked.specs.declared.emitted.Emitted.{Emitted}
use Rattle.mage_linked.specs.Emission.{program_of}
use Rattle.mage_carried.specs.Laws.{CanRun, Carries}
use Rattle.mage_accepted.specs.Accepting.{IsAccepted}
use Rattle.mage_meaning.specs.Given.{Given}
use Rattle.mage_meaning.specs.Means.{means_of}
use Rattle.mage_meaning.specs.Value.{value_of}
use Rattle.mage_pipe.specs.declared.loaded.Loaded.{Loaded}
use Rattle.mage_pipe.specs.Loading.{loaded_of}
use Rattle.mage_pipe.specs.MemoryProgram.{memory_program_of}

-- A memory program runs a source: the verifier accepts it, it carries the instructions that the source unrolls to, which can
-- run, and what these mean is what the source means.
pub record RunsSource (loaded : Loaded) (plan : MemProgram) : Type 0 where
  pub count : ℕ
  pub emitted : List Emitted
  pub program_is : program_of count emitted ≡ loaded.program
  pub many : length plan.workers ≡ count
  pub runs : CanRun count emitted
  pub carries : Carries count emitted plan
  pub accepted : IsAccepted plan
  pub means : (given : Given) → means_of (program_of count emitted) given ≡ value_of loaded.source.workers loaded.source.body given

-- So does the memory program that the passes make of it, within limits in their ranges.
abbrev pub SourcesCanBeRun : Type 0
SourcesCanBeRun =
    (limits : Limits) (text : List ℕ) (loaded : Loaded) (plan : MemProgram) → AreInRange limits
    → loaded_of text ≡ Ok loaded → memory_program_of limits loaded.program.workers ≡ Ok plan
    → RunsSource loaded plan
