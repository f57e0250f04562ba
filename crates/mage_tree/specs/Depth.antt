-- How deep each token of a text stands: the number of brackets that are open there, itself
-- included, and of signs `!` and `-` whose operand isn't complete. A `-` is a sign where no operand
-- ends before it; else it takes one number from another. It is counted along the tokens, and the
-- law `depth_of_room` says that the grammar counts the same.
use Rattle.std.specs.Prelude.{ℕ, Bool, false, ◌&&◌, ◌||◌, not, List, [], ◌∷◌, length, if◌then◌else◌}
use Rattle.mage_lex.specs.Symbols.{OPEN_PAREN, CLOSE_PAREN, OPEN_BRACKET, CLOSE_BRACKET, OPEN_BRACE, CLOSE_BRACE, MINUS, NOT}
use Rattle.mage_lex.specs.declared.token.Token.{Token}
use Rattle.mage_lex.specs.declared.token.TokenKind.{TokenKind}
use Rattle.mage_lex.specs.Words as words
use Rattle.mage_tree.specs.Classes.{is_word_with, is_symbol_kind, is_number_kind}

-- what can be open
pub data Opened : Type 0 where
  a_bracket a_sign : Opened

-- what is open behind a token, the innermost first, and whether an operand ended with the token
pub record Nesting : Type 0 where
  pub opened : List Opened
  pub ended : Bool

-- before the first token
abbrev pub outermost : Nesting
outermost = record { opened = []; ended = false }

-- an operand is complete, and so are the signs that stand before it
abbrev pub without_signs : List Opened → List Opened
without_signs [] = []
without_signs (a_sign ∷ outer) = without_signs outer
without_signs (a_bracket ∷ outer) = a_bracket ∷ outer

-- a bracket is closed
abbrev pub without_bracket : List Opened → List Opened
without_bracket [] = []
without_bracket (innermost ∷ outer) = outer

-- `(`, `[` or `{`
abbrev pub is_opening : TokenKind → Bool
is_opening kind =
    is_symbol_kind OPEN_PAREN kind || is_symbol_kind OPEN_BRACKET kind
    || is_symbol_kind OPEN_BRACE kind

-- `)`, `]` or `}`
abbrev pub is_closing : TokenKind → Bool
is_closing kind =
    is_symbol_kind CLOSE_PAREN kind || is_symbol_kind CLOSE_BRACKET kind
    || is_symbol_kind CLOSE_BRACE kind

-- an operand ends with a number, a name, `)` or `]`
abbrev pub ends_operand : TokenKind → Bool
ends_operand kind =
    is_number_kind kind || is_word_with words.is_name kind || is_symbol_kind CLOSE_PAREN kind
    || is_symbol_kind CLOSE_BRACKET kind

-- `!`, or a `-` before which no operand ended
abbrev pub is_sign : Bool → TokenKind → Bool
is_sign ended kind = is_symbol_kind NOT kind || (is_symbol_kind MINUS kind && not ended)

-- what is still open at the next token: the operand that ended is complete, unless an index of it
-- follows, or what seemed a name is a call's word, since a `(` follows
abbrev pub still_open : Nesting → TokenKind → List Opened
still_open before kind =
    if before.ended && not (is_symbol_kind OPEN_BRACKET kind || is_symbol_kind OPEN_PAREN kind)
    then without_signs before.opened else before.opened

-- what is open at it, itself included
abbrev pub open_at : Nesting → TokenKind → List Opened
open_at before kind =
    if is_opening kind then a_bracket ∷ still_open before kind
    else (if is_sign before.ended kind then a_sign ∷ still_open before kind
    else still_open before kind)

-- and behind it
abbrev pub behind : Nesting → TokenKind → Nesting
behind before kind = record {
  opened = if is_closing kind then without_bracket (open_at before kind) else open_at before kind;
  ended = ends_operand kind;
}

-- the depth at each of the tokens
unfoldable pub depths_from : Nesting → List Token → List ℕ
depths_from before [] = []
depths_from before (token ∷ rest) =
    length (open_at before token.kind) ∷ depths_from (behind before token.kind) rest

abbrev pub depths : List Token → List ℕ
depths tokens = depths_from outermost tokens
