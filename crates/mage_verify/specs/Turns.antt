-- Which turns can be taken, in the lists of the code.
use Rattle.std.specs.Prelude.{◌≢◌, ◌<◌, ℕ, List, length, slice_index}
use Rattle.mage_instr.specs.declared.directive.Directive.{Directive}
use Rattle.mage_verify.specs.declared.turn.Stand.{Stand}
use Rattle.mage_verify.specs.declared.turn.Stand.TheVariants as stand
use Rattle.mage_verify.specs.declared.turn.Turn.{Turn}
use Rattle.mage_verify.specs.declared.turn.Turn.TheVariants as turn
use Rattle.mage_verify.specs.Joint.{lists_at}

-- how many directives each worker has done
abbrev pub done_in : List ℕ → ℕ → ℕ
done_in done worker = slice_index done worker

-- a worker that is there has a directive left
pub record CanGo (workers : List (List Directive)) (done : ℕ → ℕ) (worker : ℕ) : Type 0 where
  pub there : worker < length workers
  pub left : done worker < length (lists_at workers worker)

-- so has one that stands at a directive
abbrev pub IsInside : List (List Directive) → (ℕ → ℕ) → (worker : ℕ) → Stand → Type 0
IsInside workers done worker stand.Ended = Unit {0}
IsInside workers done worker _ = CanGo workers done worker

-- each worker of a turn has a directive left, and they are two
abbrev pub CanTurn : List (List Directive) → (ℕ → ℕ) → Turn → Type 0
CanTurn workers done (turn.Alone worker) = CanGo workers done worker
CanTurn workers done (turn.Hands source target) = CanGo workers done source × CanGo workers done target × (source ≢ target)
