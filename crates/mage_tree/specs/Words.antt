-- Words, and the types that they name.
use Rattle.std.specs.Prelude.{ℕ, ◌+◌, ◌*◌, ◌-◌, ◌==◌, Bool, ◌&&◌, List, [], ◌∷◌, Option, Some, None, nat_le, if◌then◌else◌}
use Rattle.std.specs.Str.{bytes_eq}
use Rattle.mage_lex.specs.declared.token.Token.{Token}
use Rattle.mage_lex.specs.declared.token.TokenKind.{TokenKind}
use Rattle.mage_lex.specs.declared.token.TokenKind.TheVariants as kinds
use Rattle.mage_tree.specs.declared.class.Callable.{Callable}
use Rattle.mage_tree.specs.declared.class.Callable.TheVariants as callable
use Rattle.mage_tree.specs.Classes.{call_text}

abbrev pub word_bytes : TokenKind → List ℕ
word_bytes (kinds.Word text) = text
word_bytes (kinds.Number value) = []
word_bytes (kinds.Symbol row) = []

-- the bytes of a word
abbrev pub bytes_of : Token → List ℕ
bytes_of token = word_bytes token.kind

-- the call that the word makes, where it makes one
unfoldable pub callable_of : List ℕ → Option Callable
callable_of word =
    if bytes_eq word (call_text callable.Min) then Some callable.Min
    else (if bytes_eq word (call_text callable.Max) then Some callable.Max
    else (if bytes_eq word (call_text callable.Count) then Some callable.Count else None))

-- the byte is a digit from this one on
abbrev pub is_digit_from : ℕ → ℕ → Bool
is_digit_from low byte = nat_le low byte && nat_le byte 57

-- the greatest width of a value
abbrev pub MOST_WIDTH : ℕ
MOST_WIDTH = 128

-- the width of a type, where it is one of `u1` to `u128`, so spelled
abbrev pub width_of_type : List ℕ → Option ℕ
width_of_type (u ∷ ones ∷ []) = if u == 117 && is_digit_from 49 ones then Some (ones - 48) else None
width_of_type (u ∷ tens ∷ ones ∷ []) =
    if u == 117 && is_digit_from 49 tens && is_digit_from 48 ones
    then Some (10 * (tens - 48) + (ones - 48)) else None
width_of_type (u ∷ hundreds ∷ tens ∷ ones ∷ []) =
    let width = 100 + 10 * (tens - 48) + (ones - 48) in
    if u == 117 && hundreds == 49 && is_digit_from 48 tens && is_digit_from 48 ones
    && nat_le width MOST_WIDTH
    then Some width else None
width_of_type other = None
