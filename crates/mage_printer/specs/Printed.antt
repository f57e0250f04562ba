-- The text that is printed of tokens.
use Rattle.std.specs.Prelude.{◌≡◌, ℕ, ◌==◌, ◌||◌, List, [], ◌∷◌, ◌++◌, Ok, if◌then◌else◌}
use Rattle.std.specs.List.{flat_map}
use Rattle.std.specs.Fmt.{decimal}
use Rattle.mage_lex.specs.Symbols.{SEMICOLON, OPEN_BRACE, CLOSE_BRACE, symbol_bytes}
use Rattle.mage_lex.specs.Tokens.{tokens_after}
use Rattle.mage_lex.specs.declared.token.Token.{Token}
use Rattle.mage_lex.specs.declared.token.TokenKind.{TokenKind}
use Rattle.mage_lex.specs.declared.token.TokenKind.TheVariants as kinds
use Rattle.mage_tree.specs.Sources.{kinds_of}

-- how a token of this kind is spelled; a number by its value
abbrev pub spelling : TokenKind → List ℕ
spelling (kinds.Word word) = word
spelling (kinds.Number value) = decimal value
spelling (kinds.Symbol row) = symbol_bytes row

-- the byte behind it: a line feed after `;`, `{` and `}`, a space after any other
abbrev pub separator : TokenKind → ℕ
separator (kinds.Word word) = 32
separator (kinds.Number value) = 32
separator (kinds.Symbol row) =
    if row == SEMICOLON || row == OPEN_BRACE || row == CLOSE_BRACE then 10 else 32

-- the two together
unfoldable pub written : TokenKind → List ℕ
written kind = spelling kind ++ separator kind ∷ []

-- the text of these tokens
abbrev pub printed : List Token → List ℕ
printed tokens = flat_map (λ (token : Token). written token.kind) tokens

-- the tokens of the text, however long it is, are of these kinds, in this order
abbrev pub HasKinds : List ℕ → List TokenKind → Type 0
HasKinds text kinds =
    (tokens : List Token) × (tokens_after [] text 0 ≡ Ok tokens) × (kinds_of tokens ≡ kinds)
