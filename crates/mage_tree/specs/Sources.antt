-- The grammar of a source. `IsSource room workers body tokens` says that the tokens are those of a
-- source, with the number of workers where it is given, and that no more than `room` brackets and
-- signs are open at any of them.
use Rattle.std.specs.Prelude.{ℕ, ◌<◌, List, [], ◌∷◌, map, All, Option, None, Some}
use Rattle.mage_lex.specs.Symbols.{SEMICOLON, SYMBOL_COUNT}
use Rattle.mage_lex.specs.Limits.{NUMBER_LIMIT}
use Rattle.mage_lex.specs.Laws.{IsWord}
use Rattle.mage_lex.specs.declared.token.Token.{Token}
use Rattle.mage_lex.specs.declared.token.TokenKind.{TokenKind}
use Rattle.mage_lex.specs.declared.token.TokenKind.TheVariants as kinds
use Rattle.mage_tree.specs.declared.class.Class.TheVariants as class
use Rattle.mage_tree.specs.declared.class.Keyword.TheVariants as keyword
use Rattle.mage_tree.specs.declared.tree.Stmt.{Stmt}
use Rattle.mage_tree.specs.Grammar.{Is, AreStmts}

pub data IsSource : ℕ → Option Token → List Stmt → List Token → Type 0 where
  counted : {room : ℕ} {word number end : Token} {body : List Stmt} {rest : List Token} →
      Is (class.Word keyword.Workers) word → Is class.Number number →
      Is (class.Symbol SEMICOLON) end → AreStmts room body rest [] →
      IsSource room (Some number) body (word ∷ number ∷ end ∷ rest)
  uncounted : {room : ℕ} {body : List Stmt} {tokens : List Token} → AreStmts room body tokens [] →
      IsSource room None body tokens

-- the most brackets and signs that may be open at once
abbrev pub MOST_DEPTH : ℕ
MOST_DEPTH = 100

-- the parts of a source
pub record Tree : Type 0 where
  pub workers : Option Token
  pub body : List Stmt

-- what the tokens are, but for their places
abbrev pub kinds_of : List Token → List TokenKind
kinds_of tokens = map (λ (token : Token). token.kind) tokens

-- a token of a text is of such a kind: a word has letters, a number and a row are in range
abbrev pub IsTokenKind : TokenKind → Type 0
IsTokenKind (kinds.Word word) = IsWord word
IsTokenKind (kinds.Number value) = value < NUMBER_LIMIT
IsTokenKind (kinds.Symbol row) = row < SYMBOL_COUNT

-- the parts are the tree of some tokens as a text has them, within the depth
abbrev pub HasTokens : Option Token → List Stmt → Type 0
HasTokens workers body =
    (tokens : List Token) × IsSource MOST_DEPTH workers body tokens
    × All IsTokenKind (kinds_of tokens)
