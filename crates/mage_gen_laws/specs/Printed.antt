-- Texts of sources that are laid out as they are printed.
use Rattle.std.specs.Prelude.{◌≡◌, ℕ, List, Some, Ok}
use Rattle.mage_lex.specs.declared.token.Token.{Token}
use Rattle.mage_lex.specs.declared.token.TokenKind.TheVariants as kinds
use Rattle.mage_lex.specs.Tokens.{tokens_of}
use Rattle.mage_tree.specs.declared.tree.Stmt.{Stmt}
use Rattle.mage_parser.specs.Faults.{parsed}
use Rattle.mage_printer.specs.Printed.{printed}

-- the text has tokens, it is what is printed of them, and they are those of a source of so many workers
pub record IsPrintedSource (workers : ℕ) (text : List ℕ) : Type 0 where
  pub tokens : List Token
  pub number : Token
  pub body : List Stmt
  pub lexes : tokens_of text ≡ Ok tokens
  pub prints : text ≡ printed tokens
  pub parses : parsed text tokens ≡ Ok (Some number, body)
  pub counts : number.kind ≡ kinds.Number workers
