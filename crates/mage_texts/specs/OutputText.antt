-- The text that says outputs.
use Rattle.std.specs.Prelude.{ℕ, List, [], ◌∷◌, ◌++◌}
use Rattle.std.specs.List.{flat_map}
use Rattle.std.specs.Fmt.{decimal}

-- each output in decimal digits with a line feed
abbrev pub lines_of_outputs : List ℕ → List ℕ
lines_of_outputs outputs = flat_map (λ n. decimal n ++ 10 ∷ []) outputs

-- the same of all workers' outputs, worker 0's first
abbrev pub text_of : List (List ℕ) → List ℕ
text_of outputs = flat_map lines_of_outputs outputs
