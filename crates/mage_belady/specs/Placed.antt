-- Places that fit a trace: each instruction finds its values in the pages of its step.
use Rattle.std.specs.Prelude.{◌≡◌, ℕ, List, length, take, slice_get, IsTrue, IfSome, IsSomeAnd, Contains}
use Rattle.std.specs.List.{All}
use Rattle.mage_instr.specs.declared.instr.Instr.{Instr}
use Rattle.mage_instr.specs.declared.instr.Place.{Place}
use Rattle.mage_instr.specs.declared.instr.Step.{Step}
use Rattle.mage_instr.specs.Trace.{pages_of}
use Rattle.mage_instr.specs.Opcodes.{arity_of, has_result}

-- the value of instruction v has a place in a page of the step
abbrev pub StandsIn : List Place → Step → (v : ℕ) → Type 0
StandsIn places step v =
    IsSomeAnd (slice_get places v) (λ place. Contains (pages_of step) place.page)

-- the values that an instruction takes, each as the index of the instruction that defined it
abbrev pub args_of : Instr → List ℕ
args_of i = take (arity_of i.op) i.args

-- the values that instruction t takes, and the one that it defines, stand in the pages of the step
pub record FindsValues (places : List Place) (t : ℕ) (i : Instr) (step : Step) : Type 0 where
  pub taken : All (StandsIn places step) (args_of i)
  pub defined : IsTrue (has_result i.op) → StandsIn places step t

-- each instruction has a step, and finds its values there
pub record FitsTrace (instrs : List Instr) (places : List Place) (trace : List Step) : Type 0 where
  pub count : length trace ≡ length instrs
  pub each : (t : ℕ) → IfSome (slice_get instrs t)
      (λ i. IfSome (slice_get trace t) (FindsValues places t i))
