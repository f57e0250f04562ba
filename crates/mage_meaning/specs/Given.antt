-- The inputs of a run.
use Rattle.std.specs.Prelude.{ℕ, List}

-- each party's input values, a list for each worker
pub record Given : Type 0 where
  pub garbler : List (List ℕ)
  pub evaluator : List (List ℕ)
