-- The numbers of a worker's gates and input wires, and the values that are still to come.
use Rattle.std.specs.Prelude.{ℕ, ◌+◌, ◌%◌, ◌^◌, List, [], ◌∷◌}

-- Numbers of gates and of input wires run modulo 2 ^ 63, so that both tweaks of a gate fit 64 bits. No program gets there.
abbrev pub number_after : ℕ → ℕ → ℕ
number_after number more = (number + more) % 2 ^ 63

-- the first of the values that are still to come; 0 past the last
abbrev pub next_value : List ℕ → ℕ
next_value [] = 0
next_value (value ∷ values) = value
