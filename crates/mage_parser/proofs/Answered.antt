-- What is read as a whole, and what is refused.
use Rattle.std.proofs.Common.{◌≡◌, ℕ, List, [], ◌∷◌, refl, sym, ◌∙◌}
use Rattle.std.specs.Prelude.{Option, Ok, All}
use Rattle.std.specs.List.{AllByRecursion}
use Rattle.std.proofs.lemmas.List.Elements.{All-from_recursion, recursion_from_All}
use Rattle.mage_lex.specs.Laws.{Spells, IsSpelled}
use Rattle.mage_lex.specs.Tokens.{tokens_of}
use Rattle.mage_lex.proofs.LawLemmas.{tokens_spelled}
use Rattle.mage_lex.specs.declared.token.TokenKind.{TokenKind}
use Rattle.mage_lex.specs.declared.token.TokenKind.TheVariants as kinds
use Rattle.mage_lex.specs.declared.token.Token.{Token}
use Rattle.mage_lex.specs.declared.fault.LangFault.TheVariants as faults
use Rattle.mage_parser.specs.declared.stop.Stop.{Stop}
use Rattle.mage_parser.specs.declared.stop.Stop.TheVariants as stops
use Rattle.mage_tree.specs.declared.tree.Stmt.{Stmt}
use Rattle.mage_parser.specs.Reads.{Fails}
use Rattle.mage_tree.specs.Sources.{MOST_DEPTH, IsSource, kinds_of, IsTokenKind, HasTokens}
use Rattle.mage_parser.specs.Statements.{source_at}
use Rattle.mage_parser.specs.Faults.{fault_of}
use Rattle.mage_parser.proofs.SoundStatements.{source_sound}
use Rattle.mage_parser.proofs.FullStatements.{source_full}

pub found : (room : ℕ) (tokens : List Token) (workers : Option Token) (body : List Stmt) → source_at room tokens ≡ Ok (workers, body) → IsSource room workers body tokens
found room tokens workers body e = rw e at (source_sound room tokens)

-- what the text has at a token's place says what the token is
kind_of_spelled : (kind : TokenKind) (bytes : List ℕ) → Spells kind bytes → IsTokenKind kind
kind_of_spelled (kinds.Word word) bytes s = s.1
kind_of_spelled (kinds.Number value) bytes s = s.3
kind_of_spelled (kinds.Symbol row) bytes s = s.1

kinds_of_spelled : (text : List ℕ) (tokens : List Token) → AllByRecursion (IsSpelled text) tokens → AllByRecursion IsTokenKind (kinds_of tokens)
kinds_of_spelled text [] all = tt
kinds_of_spelled text (token ∷ tokens) all = (kind_of_spelled token.kind _ all.0, kinds_of_spelled text tokens all.1)

-- the tokens of a text are of the kinds of tokens
pub lexed_kinds : (text : List ℕ) (tokens : List Token) → tokens_of text ≡ Ok tokens → All IsTokenKind (kinds_of tokens)
lexed_kinds text tokens e = All-from_recursion IsTokenKind (kinds_of tokens) (kinds_of_spelled text tokens (recursion_from_All (IsSpelled text) tokens (tokens_spelled text tokens e)))

pub found_some : (text : List ℕ) (tokens : List Token) (workers : Option Token) (body : List Stmt) → tokens_of text ≡ Ok tokens → source_at MOST_DEPTH tokens ≡ Ok (workers, body) → HasTokens workers body
found_some text tokens workers body l e = (tokens, found MOST_DEPTH tokens workers body e, lexed_kinds text tokens l)

pub refused : (text : List ℕ) (tokens : List Token) (stop : Stop) → Fails stop (source_at MOST_DEPTH tokens) → (workers : Option Token) (body : List Stmt) →
    IsSource MOST_DEPTH workers body tokens → fault_of text tokens stop ≡ faults.Memory
refused text tokens stops.Memory f workers body s = refl
refused text tokens (stops.Syntax left) f workers body s = absurd (cc (sym f ∙ source_full s))
refused text tokens (stops.TooDeep left) f workers body s = absurd (cc (sym f ∙ source_full s))
