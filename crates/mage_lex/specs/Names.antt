-- The names of the symbols: what each row's name stands for, in the definitions and in the code.
use Rattle.std.specs.Prelude.{◌≡◌, ℕ, List, codes}
use Rattle.mage_lex.specs.Symbols as rows
use Rattle.mage_lex.specs.Symbols.{symbol_bytes}
use Rattle.mage_lex.specs.declared.symbols.TheConstants as code

-- the constant of the code is this row, whose symbol is spelled so
abbrev pub IsRow : ℕ → ℕ → List ℕ → Type 0
IsRow constant row spelling = (constant ≡ row) × (symbol_bytes row ≡ spelling)

-- each name is that of its symbol
pub record AreNamed : Type 0 where
  pub dots : IsRow code.DOTS rows.DOTS (codes "..")
  pub equals : IsRow code.EQUALS rows.EQUALS (codes "==")
  pub shift_left : IsRow code.SHIFT_LEFT rows.SHIFT_LEFT (codes "<<")
  pub shift_right : IsRow code.SHIFT_RIGHT rows.SHIFT_RIGHT (codes ">>")
  pub semicolon : IsRow code.SEMICOLON rows.SEMICOLON (codes ";")
  pub colon : IsRow code.COLON rows.COLON (codes ":")
  pub comma : IsRow code.COMMA rows.COMMA (codes ",")
  pub open_paren : IsRow code.OPEN_PAREN rows.OPEN_PAREN (codes "(")
  pub close_paren : IsRow code.CLOSE_PAREN rows.CLOSE_PAREN (codes ")")
  pub open_bracket : IsRow code.OPEN_BRACKET rows.OPEN_BRACKET (codes "[")
  pub close_bracket : IsRow code.CLOSE_BRACKET rows.CLOSE_BRACKET (codes "]")
  pub open_brace : IsRow code.OPEN_BRACE rows.OPEN_BRACE (codes "{")
  pub close_brace : IsRow code.CLOSE_BRACE rows.CLOSE_BRACE (codes "}")
  pub assign : IsRow code.ASSIGN rows.ASSIGN (codes "=")
  pub less : IsRow code.LESS rows.LESS (codes "<")
  pub plus : IsRow code.PLUS rows.PLUS (codes "+")
  pub minus : IsRow code.MINUS rows.MINUS (codes "-")
  pub times : IsRow code.TIMES rows.TIMES (codes "*")
  pub divide : IsRow code.DIVIDE rows.DIVIDE (codes "/")
  pub remainder : IsRow code.REMAINDER rows.REMAINDER (codes "%")
  pub and : IsRow code.AND rows.AND (codes "&")
  pub xor : IsRow code.XOR rows.XOR (codes "^")
  pub or : IsRow code.OR rows.OR (codes "|")
  pub not : IsRow code.NOT rows.NOT (codes "!")
