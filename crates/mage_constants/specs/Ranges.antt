-- Constants as numbers in a range, and conditions on them.
use Rattle.std.specs.Prelude.{ℕ, ◌==◌, ◌&&◌, Bool, ℤ, pos, ◌-ℤ◌, int_le, int_lt, unsigned_abs, Option, Some, None, if◌then◌else◌}
use Rattle.mage_lex.specs.Symbols.{EQUALS}
use Rattle.mage_lex.specs.declared.token.Token.{Token}
use Rattle.mage_constants.specs.Tokens.{row_of}

-- the number, where it is from 0 to below the limit
abbrev pub number_below : (limit : ℕ) → ℤ → Option ℕ
number_below limit z =
    if int_le (pos 0) z && int_lt z (pos limit) then Some (unsigned_abs z) else None

-- the number, where it is from 0 on
abbrev pub size_in : ℤ → Option ℕ
size_in z = if int_le (pos 0) z then Some (unsigned_abs z) else None

-- how many numbers there are from the first to below the second
abbrev pub distance : ℤ → ℤ → ℕ
distance from to = if int_lt from to then unsigned_abs (to -ℤ from) else 0

-- whether a condition holds: `==`, and else `<`
abbrev pub holds : (op : Token) → ℤ → ℤ → Bool
holds op a b = if row_of op == EQUALS then int_le a b && int_le b a else int_lt a b
