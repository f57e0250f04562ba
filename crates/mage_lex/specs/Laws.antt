-- What every answer of the lexer keeps.
use Rattle.std.specs.Prelude.{◌≡◌, ℕ, ◌+◌, ◌≤◌, ◌<◌, List, [], ◌∷◌, ◌++◌, length, drop, slice_range, IsTrue, codes}
use Rattle.std.specs.List.{list_all}
use Rattle.std.specs.Char.{is_ascii_digit}
use Rattle.std.specs.Str.Parse.{digits_value}
use Rattle.mage_lex.specs.Bytes.{is_blank, is_in_line, is_letter, is_in_word}
use Rattle.mage_lex.specs.Limits.{NUMBER_LIMIT}
use Rattle.mage_lex.specs.Symbols.{SYMBOL_COUNT, symbol_bytes}
use Rattle.mage_lex.specs.declared.token.Token.{Token}
use Rattle.mage_lex.specs.declared.token.TokenKind.{TokenKind}
use Rattle.mage_lex.specs.declared.token.TokenKind.TheVariants as kinds

-- the bytes are a letter, and then letters and digits
abbrev pub IsWord : List ℕ → Type 0
IsWord [] = ⊥
IsWord (first ∷ rest) = IsTrue (is_letter first) × IsTrue (list_all is_in_word rest)

-- the bytes are those of a token of this kind
abbrev pub Spells : TokenKind → List ℕ → Type 0
Spells (kinds.Word word) bytes = (bytes ≡ word) × IsWord word
Spells (kinds.Number value) bytes =
    (digits_value 10 bytes ≡ value) × IsTrue (list_all is_ascii_digit bytes) × (0 < length bytes)
    × (value < NUMBER_LIMIT)
Spells (kinds.Symbol row) bytes = (bytes ≡ symbol_bytes row) × (row < SYMBOL_COUNT)

-- the bytes of the text at the token's place are the token's
abbrev pub IsSpelled : List ℕ → Token → Type 0
IsSpelled text token = Spells token.kind (slice_range text token.start (token.start + token.len))

-- the tokens stand one after the other, at this place or later, each with at least one byte, and
-- end with the text
abbrev pub InOrder : ℕ → List Token → ℕ → Type 0
InOrder from [] end = from ≤ end
InOrder from (token ∷ tokens) end =
    (from ≤ token.start) × (0 < token.len) × InOrder (token.start + token.len) tokens end

-- a line ends here: at its line feed, or with the text
abbrev pub EndsLine : List ℕ → Type 0
EndsLine [] = Unit {0}
EndsLine (b ∷ after) = b ≡ 10

-- the bytes, which `after` follows, are white space and comments, each comment up to the end of its
-- line
pub data IsGap : List ℕ → List ℕ → Type 0 where
  none : (after : List ℕ) → IsGap [] after
  blank : (b : ℕ) (gap after : List ℕ) → IsTrue (is_blank b) → IsGap gap after →
      IsGap (b ∷ gap) after
  comment : (line gap after : List ℕ) → IsTrue (list_all is_in_line line) →
      EndsLine (gap ++ after) → IsGap gap after → IsGap (codes "//" ++ line ++ gap) after

-- from this place on there are gaps before, between and after the tokens
abbrev pub GapsBetween : List ℕ → ℕ → List Token → Type 0
GapsBetween text from [] = IsGap (drop from text) []
GapsBetween text from (token ∷ tokens) =
    IsGap (slice_range text from token.start) (drop token.start text)
    × GapsBetween text (token.start + token.len) tokens
