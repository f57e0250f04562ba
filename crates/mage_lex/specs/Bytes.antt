-- The kinds of bytes in a text.
use Rattle.std.specs.Prelude.{ℕ, Bool, not, ◌||◌, ◌==◌}
use Rattle.std.specs.Char.{is_ascii_alphabetic, is_ascii_digit}

-- space, tab, carriage return or line feed
abbrev pub is_blank : ℕ → Bool
is_blank b = b == 32 || b == 9 || b == 13 || b == 10

-- a byte before the end of its line, which is a line feed
abbrev pub is_in_line : ℕ → Bool
is_in_line b = not (b == 10)

-- what a word begins with: an ASCII letter or `_`
abbrev pub is_letter : ℕ → Bool
is_letter b = is_ascii_alphabetic b || b == 95

-- what a word goes on with
abbrev pub is_in_word : ℕ → Bool
is_in_word b = is_letter b || is_ascii_digit b
