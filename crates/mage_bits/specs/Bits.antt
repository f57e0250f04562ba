-- Binary digits, lowest first.
use Rattle.std.specs.Prelude.{ℕ, zero, suc, ◌+◌, ◌/◌, ◌%◌, ◌^◌, ◌==◌, Bool, List, [], ◌∷◌, if◌then◌else◌}

-- the n lowest binary digits of v
abbrev pub bits : ℕ → ℕ → List Bool
bits v zero = []
bits v (suc n) = (v % 2 == 1) ∷ bits (v / 2) n

-- the sum of 2 ^ i over the places i that hold 1, of digits that begin at this place
abbrev pub number_from : ℕ → List Bool → ℕ
number_from place [] = 0
number_from place (bit ∷ bits) = (if bit then 2 ^ place else 0) + number_from (suc place) bits

-- the sum of 2 ^ i over the places i that hold 1
abbrev pub number : List Bool → ℕ
number bits = number_from 0 bits
