-- What a source tells, and what taking bytes from it leaves.
use Rattle.std.specs.Prelude.{◌≡◌, ◌<◌, ℕ, List, [], ◌++◌, length, take, Bool, Option, IfSome, IsSomeAnd, Result, Ok, Err}

pub record SourceTold : Type 0 where
  -- the bytes that are left, where the source tells them
  pub left : Option (List ℕ)
  -- how often it has failed
  pub faults : ℕ
  -- whether it never fails
  pub steady : Bool

-- Bytes move from the front of what is left to the front of the piece. None move only at the end, or into no room.
pub record Moved (left left' piece : List ℕ) (count : ℕ) : Type 0 where
  pub bytes : left ≡ take count piece ++ left'
  pub end : count ≡ 0 → 0 < length piece → left ≡ []

-- what a call leaves in the source and in the piece
abbrev pub Takes : {E : Type 0} → (before after : Option (List ℕ)) → (piece : List ℕ) → Result ℕ E → Type 0
Takes before after piece (Ok count) = IfSome before (λ left. IsSomeAnd after (λ left'. Moved left left' piece count))
Takes before after piece (Err _) = after ≡ before
