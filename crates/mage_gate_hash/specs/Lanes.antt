-- Four states side by side.
use Rattle.std.specs.Prelude.{ℕ, List, map, slice_index}

-- the words of the state in lane j, where each word is a vector
abbrev pub lane : ℕ → List (List ℕ) → List ℕ
lane j words = map (λ word. slice_index word j) words
