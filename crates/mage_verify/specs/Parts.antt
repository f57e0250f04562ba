-- The parts of a memory program, one for each worker.
use Rattle.std.specs.Prelude.{◌+◌, ℕ, List, [], ◌∷◌, slice_index}
use Rattle.mage_instr.specs.declared.directive.Directive.{Directive}
use Rattle.mage_instr.specs.declared.directive.MemProgram.{MemProgram}
use Rattle.mage_instr.specs.declared.replaced.Limits.{Limits}

-- what one worker does, within which limits, and how many pages its store has
pub record WorkerPart : Type 0 where
  pub worker : ℕ
  pub limits : Limits
  pub pages : ℕ
  pub directives : List Directive

-- the part of a worker of a program whose stores have so many pages
abbrev pub part_of : Limits → (stores : List ℕ) → (worker : ℕ) → List Directive → WorkerPart
part_of limits stores worker directives =
    record { worker = worker; limits = limits; pages = slice_index stores worker; directives = directives }

-- the parts of some workers, where they are numbered from one on
abbrev pub parts_from : Limits → (stores : List ℕ) → (worker : ℕ) → List (List Directive) → List WorkerPart
parts_from limits stores worker [] = []
parts_from limits stores worker (directives ∷ others) =
    part_of limits stores worker directives ∷ parts_from limits stores (worker + 1) others

-- the parts of a memory program, in the order of its workers
abbrev pub parts_of : MemProgram → List WorkerPart
parts_of plan = parts_from plan.limits plan.stores 0 plan.workers
