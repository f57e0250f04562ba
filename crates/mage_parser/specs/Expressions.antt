-- Reading an expression.
use Rattle.std.specs.Prelude.{ℕ, zero, suc, List, [], ◌∷◌, length, drop, Option, None, Some, Ok, Err, if◌then◌else◌}
use Rattle.mage_lex.specs.Symbols.{COMMA, OPEN_PAREN, CLOSE_PAREN, OPEN_BRACKET, CLOSE_BRACKET, NOT}
use Rattle.mage_lex.specs.declared.token.Token.{Token}
use Rattle.mage_tree.specs.declared.class.Class.{Class}
use Rattle.mage_tree.specs.declared.class.Class.TheVariants as class
use Rattle.mage_tree.specs.declared.class.Keyword.TheVariants as keyword
use Rattle.mage_parser.specs.declared.level.Level.{Level}
use Rattle.mage_parser.specs.declared.level.Level.TheVariants as level
use Rattle.mage_parser.specs.declared.stop.Stop.TheVariants as stops
use Rattle.mage_tree.specs.declared.tree.ConstExpr.{ConstExpr}
use Rattle.mage_tree.specs.declared.tree.Expr.{Expr}
use Rattle.mage_tree.specs.declared.tree.Expr.TheVariants as expr
use Rattle.mage_tree.specs.declared.tree.Item.{Item}
use Rattle.mage_parser.specs.Reads.{◌>>=◌, Read, begins, calls, one, after_one, operands}
use Rattle.mage_tree.specs.Grammar.{item_of, operators}
use Rattle.mage_parser.specs.Constants.{const_in, const_at}

-- the level's number
abbrev pub rank : Level → ℕ
rank level.Unary = 0
rank level.Product = 1
rank level.Sum = 2
rank level.Shift = 3
rank level.And = 4
rank level.Xor = 5
rank level.Or = 6
rank level.Compare = 7

-- an index or a length in its brackets
unfoldable pub bracketed : ℕ → List Token → Read (Token × ConstExpr)
bracketed room tokens = do
  bracket ← one (class.Symbol OPEN_BRACKET) tokens
  value ← const_in room 3 tokens
  after ← after_one (class.Symbol CLOSE_BRACKET) value.1
  Ok ((bracket.0, value.0), after)

-- an index or a length, where there is one
unfoldable pub index_at : ℕ → List Token → Read (Option (Token × ConstExpr))
index_at room tokens =
    if begins (class.Symbol OPEN_BRACKET) tokens then (do
      index ← bracketed room tokens
      Ok (Some index.0, index.1))
    else Ok (None, tokens)

-- a place
unfoldable pub item_at : ℕ → List Token → Read Item
item_at room tokens = do
  name ← one class.Name tokens
  index ← index_at room name.1
  Ok (item_of name.0 index.0, index.1)

-- `lit`
unfoldable pub lit_at : ℕ → List Token → Read Expr
lit_at room tokens = do
  word ← one (class.Word keyword.Lit) tokens
  ty ← one class.Type word.1
  bracket ← after_one (class.Symbol OPEN_PAREN) ty.1
  value ← const_in room 3 ty.1
  after ← after_one (class.Symbol CLOSE_PAREN) value.1
  Ok (expr.Lit word.0 ty.0 value.0, after)

-- `resize`, whose operand `deeper` reads from the bracket on
unfoldable pub resize_at : (ℕ → List Token → Read Expr) → List Token → Read Expr
resize_at deeper tokens = do
  word ← one (class.Word keyword.Resize) tokens
  ty ← one class.Type word.1
  bracket ← after_one (class.Symbol OPEN_PAREN) ty.1
  operand ← deeper 7 ty.1
  after ← after_one (class.Symbol CLOSE_PAREN) operand.1
  Ok (expr.Resize word.0 ty.0 operand.0, after)

-- `mux`, whose arguments `deeper` reads from the token before each on
unfoldable pub mux_at : (ℕ → List Token → Read Expr) → List Token → Read Expr
mux_at deeper tokens = do
  word ← one (class.Word keyword.Mux) tokens
  bracket ← after_one (class.Symbol OPEN_PAREN) word.1
  condition ← deeper 7 word.1
  comma ← after_one (class.Symbol COMMA) condition.1
  chosen ← deeper 7 condition.1
  second_comma ← after_one (class.Symbol COMMA) chosen.1
  other ← deeper 7 chosen.1
  after ← after_one (class.Symbol CLOSE_PAREN) other.1
  Ok (expr.Mux word.0 (condition.0 ∷ chosen.0 ∷ other.0 ∷ []), after)

-- `min` or `max`, whose operands `deeper` reads from the token before each on
unfoldable pub choose_at : (ℕ → List Token → Read Expr) → List Token → Read Expr
choose_at deeper tokens = do
  word ← one class.Choosing tokens
  bracket ← after_one (class.Symbol OPEN_PAREN) word.1
  first ← deeper 7 word.1
  comma ← after_one (class.Symbol COMMA) first.1
  second ← deeper 7 first.1
  after ← after_one (class.Symbol CLOSE_PAREN) second.1
  Ok (expr.Call word.0 (first.0 ∷ second.0 ∷ []), after)

-- `count`, whose operand `deeper` reads from the bracket on
unfoldable pub count_at : (ℕ → List Token → Read Expr) → List Token → Read Expr
count_at deeper tokens = do
  word ← one class.Counting tokens
  bracket ← after_one (class.Symbol OPEN_PAREN) word.1
  operand ← deeper 7 word.1
  after ← after_one (class.Symbol CLOSE_PAREN) operand.1
  Ok (expr.Call word.0 (operand.0 ∷ []), after)

-- an expression in brackets
unfoldable pub paren_at : (ℕ → List Token → Read Expr) → List Token → Read Expr
paren_at deeper tokens = do
  bracket ← one (class.Symbol OPEN_PAREN) tokens
  inner ← deeper 7 tokens
  after ← after_one (class.Symbol CLOSE_PAREN) inner.1
  Ok (expr.Paren bracket.0 inner.0, after)

-- `!` and its operand
unfoldable pub not_at : (ℕ → List Token → Read Expr) → List Token → Read Expr
not_at deeper tokens = do
  op ← one (class.Symbol NOT) tokens
  operand ← deeper 0 tokens
  Ok (expr.Not op.0 operand.0, operand.1)

unfoldable pub place_at : ℕ → List Token → Read Expr
place_at room tokens = do
  item ← item_at room tokens
  Ok (expr.Item item.0, item.1)

-- what begins with a name: a call where `(` is the next token, else a place
unfoldable pub name_at : (ℕ → List Token → Read Expr) → ℕ → List Token → Read Expr
name_at deeper room tokens =
    if calls class.Choosing tokens then choose_at deeper tokens
    else (if calls class.Counting tokens then count_at deeper tokens
    else place_at room tokens)

-- an operand: what it is, is seen from its first token
unfoldable pub unary_at : (ℕ → List Token → Read Expr) → ℕ → List Token → Read Expr
unary_at deeper room tokens =
    if begins (class.Symbol NOT) tokens then not_at deeper tokens
    else (if begins class.Name tokens then name_at deeper room tokens
    else (if begins (class.Word keyword.Lit) tokens then lit_at room tokens
    else (if begins (class.Word keyword.Resize) tokens then resize_at deeper tokens
    else (if begins (class.Word keyword.Mux) tokens then mux_at deeper tokens
    else paren_at deeper tokens))))

-- an operand alone, or a chain
abbrev pub chain_of : Expr → List (Token × Expr) → Expr
chain_of first [] = first
chain_of first (second ∷ rest) = expr.Chain first (second ∷ rest)

-- an operand alone, or a chain of shifts
abbrev pub shift_of : Expr → List (Token × ConstExpr) → Expr
shift_of first [] = first
shift_of first (second ∷ rest) = expr.Shift first (second ∷ rest)

-- one level of operators in any number
unfoldable pub chain_at : (List Token → Read Expr) → Class → List Token → Read Expr
chain_at operand operators tokens = do
  first ← operand tokens
  rest ← operands operand operators (length first.1) first.1
  Ok (chain_of first.0 rest.0, rest.1)

-- shifts
unfoldable pub shift_at : (List Token → Read Expr) → ℕ → List Token → Read Expr
shift_at operand room tokens = do
  first ← operand tokens
  rest ← operands (const_at room 0) class.Shifting (length first.1) first.1
  Ok (shift_of first.0 rest.0, rest.1)

-- a comparison with what was read, where there is one
unfoldable pub compare_from : (List Token → Read Expr) → Expr → List Token → Read Expr
compare_from operand first tokens =
    if begins class.Comparing tokens then (do
      op ← one class.Comparing tokens
      second ← operand op.1
      Ok (expr.Chain first ((op.0, second.0) ∷ []), second.1))
    else Ok (first, tokens)

-- one comparison at most
unfoldable pub compare_at : (List Token → Read Expr) → List Token → Read Expr
compare_at operand tokens = do
  first ← operand tokens
  compare_from operand first.0 first.1

-- the level with these operators over the level that `operand` reads
abbrev pub level_at : Class → (List Token → Read Expr) → ℕ → List Token → Read Expr
level_at class.Shifting operand room tokens = shift_at operand room tokens
level_at class.Comparing operand room tokens = compare_at operand tokens
level_at operators operand room tokens = chain_at operand operators tokens

-- an expression of this level
unfoldable pub expr_from : (ℕ → List Token → Read Expr) → ℕ → ℕ → List Token → Read Expr
expr_from deeper room zero tokens = unary_at deeper room tokens
expr_from deeper room (suc below) tokens =
    level_at (operators (suc below)) (expr_from deeper room below) room tokens

-- what stands behind the first token, a bracket, a comma or `!`, where there is room for it
unfoldable pub expr_in : ℕ → ℕ → List Token → Read Expr
expr_in zero level tokens = Err (stops.TooDeep (length tokens))
expr_in (suc room) level tokens = expr_from (expr_in room) room level (drop 1 tokens)

-- an expression, with room for so many brackets and signs
unfoldable pub expr_at : ℕ → ℕ → List Token → Read Expr
expr_at room level tokens = expr_from (expr_in room) room level tokens
