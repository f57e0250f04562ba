-- What tokens hold.
use Rattle.std.specs.Prelude.{ℕ}
use Rattle.mage_lex.specs.declared.token.Token.{Token}
use Rattle.mage_lex.specs.declared.token.TokenKind.{TokenKind}
use Rattle.mage_lex.specs.declared.token.TokenKind.TheVariants as kinds

-- the row of a symbol; of another token 0
abbrev pub row_in : TokenKind → ℕ
row_in (kinds.Symbol row) = row
row_in (kinds.Word text) = 0
row_in (kinds.Number value) = 0

-- the same of a token
abbrev pub row_of : Token → ℕ
row_of token = row_in token.kind

-- the value of a number; of another token 0
abbrev pub number_in : TokenKind → ℕ
number_in (kinds.Number value) = value
number_in (kinds.Word text) = 0
number_in (kinds.Symbol row) = 0

-- the same of a token
abbrev pub number_of : Token → ℕ
number_of token = number_in token.kind
