-- The limits of a text.
use Rattle.std.specs.Prelude.{ℕ, ◌^◌}

-- the most bytes that a text may have
abbrev pub MOST_BYTES : ℕ
MOST_BYTES = 1048576

-- no number is as large
abbrev pub NUMBER_LIMIT : ℕ
NUMBER_LIMIT = 2 ^ 127
