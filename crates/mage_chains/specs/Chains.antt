-- Steps one after another. With this operator in scope a definition is written as `do x ← step;
-- ..`.
use Rattle.std.specs.Prelude.{Result, Ok, Err}

infixl 10 ◌>>=◌
-- one step after another, up to the first error
abbrev pub ◌>>=◌ : {A B E : Type 0} → Result A E → (A → Result B E) → Result B E
(Ok x) >>= f = f x
(Err e) >>= f = Err e
