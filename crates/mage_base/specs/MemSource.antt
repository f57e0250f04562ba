-- The source in memory: what it tells, and what a call leaves.
use Rattle.std.specs.Prelude.{ℕ, min, List, ◌++◌, length, take, drop, Some, if◌then◌else◌}
use Rattle.mage_base.specs.declared.calls.Calls.{Calls}
use Rattle.mage_base.specs.Calls.{no_call_yet, is_listed, after_call, is_empty, counted}
use Rattle.mage_base.specs.Source.{SourceTold}

pub record SourceState : Type 0 where
  pub left : List ℕ
  pub faults : ℕ
  pub calls : Calls

-- a source with all these bytes left, of which these calls are to fail
abbrev pub new_source : (bytes failing : List ℕ) → SourceState
new_source bytes failing = record { left = bytes; faults = 0; calls = no_call_yet failing }

-- what it tells: it is steady where no call is to fail
abbrev pub source_told : SourceState → SourceTold
source_told source = record { left = Some source.left; faults = source.faults; steady = is_empty source.calls.failing }

-- how many bytes the next call moves into a piece: as many as there are, and none where the call is to fail
abbrev pub moved_count : SourceState → (piece : List ℕ) → ℕ
moved_count source piece = if is_listed source.calls then 0 else min (length piece) (length source.left)

-- the piece after that call: its front is what was moved, and the rest stays
abbrev pub filled : SourceState → (piece : List ℕ) → List ℕ
filled source piece = take (moved_count source piece) source.left ++ drop (moved_count source piece) piece

-- the source after that call
abbrev pub after_take : SourceState → (piece : List ℕ) → SourceState
after_take source piece =
    record {
      left = drop (moved_count source piece) source.left;
      faults = counted (is_listed source.calls) source.faults;
      calls = after_call source.calls;
    }
