-- The pages that the instructions of a program need, step by step.
use Rattle.std.specs.Prelude.{◌≤◌, ℕ, List, length, take, slice_get, IfSome, IsSomeAnd, Contains}
use Rattle.std.specs.List.Sorted.{IsStrictlyIncreasing}
use Rattle.mage_instr.specs.declared.instr.TheConstants.{NEVER}
use Rattle.mage_instr.specs.declared.instr.Step.{Step}

-- the pages of a step
abbrev pub pages_of : Step → List ℕ
pages_of step = take step.count step.pages

-- a step has at most four pages, which ascend
abbrev pub IsStep : Step → Type 0
IsStep step = (step.count ≤ 4) × IsStrictlyIncreasing (pages_of step)

-- each of its items is a step, and their number fits 32 bits
pub record IsTrace (trace : List Step) : Type 0 where
  pub count : length trace ≤ NEVER
  pub each : (t : ℕ) → IfSome (slice_get trace t) IsStep

-- the step with index t has the page
abbrev pub Has : List Step → ℕ → ℕ → Type 0
Has trace t page = IsSomeAnd (slice_get trace t) (λ step. Contains (pages_of step) page)
