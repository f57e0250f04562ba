-- What a sink tells, and what putting bytes into it leaves.
use Rattle.std.specs.Prelude.{◌≡◌, ℕ, List, ◌++◌, take, Bool, Option, IfSome, IsSomeAnd, Result, Ok, Err}

pub record SinkTold : Type 0 where
  -- the bytes that it has taken, where the sink tells them
  pub taken : Option (List ℕ)
  -- how often it has failed
  pub faults : ℕ
  -- whether it fails only for want of room
  pub steady : Bool
  -- how many bytes a steady sink may still take
  pub room : ℕ

-- What stands after some bytes were put: all of them more, or after a fault a front of them.
abbrev pub Grown : {T E : Type 0} → Result T E → (before bytes after : List ℕ) → Type 0
Grown (Ok _) before bytes after = after ≡ before ++ bytes
Grown (Err _) before bytes after = (n : ℕ) × (after ≡ before ++ take n bytes)

-- the same, where it is told
abbrev pub Puts : {T E : Type 0} → Result T E → (before : Option (List ℕ)) → (bytes : List ℕ) → (after : Option (List ℕ)) → Type 0
Puts result before bytes after = IfSome before (λ old. IsSomeAnd after (Grown result old bytes))
