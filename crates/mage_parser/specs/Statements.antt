-- Reading statements, and a source.
use Rattle.std.specs.Prelude.{ℕ, zero, suc, Bool, true, List, [], ◌∷◌, length, drop, Option, None, Some, Result, Ok, Err, if◌then◌else◌}
use Rattle.mage_lex.specs.Symbols.{DOTS, SEMICOLON, COLON, OPEN_BRACE, CLOSE_BRACE, ASSIGN}
use Rattle.mage_lex.specs.declared.token.Token.{Token}
use Rattle.mage_tree.specs.declared.class.Class.TheVariants as class
use Rattle.mage_tree.specs.declared.class.Keyword.TheVariants as keyword
use Rattle.mage_parser.specs.declared.stop.Stop.{Stop}
use Rattle.mage_parser.specs.declared.stop.Stop.TheVariants as stops
use Rattle.mage_tree.specs.declared.tree.Stmt.{Stmt}
use Rattle.mage_tree.specs.declared.tree.Stmt.TheVariants as stmt
use Rattle.mage_parser.specs.Reads.{◌>>=◌, Read, begins, one, after_one}
use Rattle.mage_parser.specs.Constants.{const_at}
use Rattle.mage_parser.specs.Expressions.{bracketed, index_at, item_at, expr_at}

unfoldable pub constant_at : ℕ → List Token → Read Stmt
constant_at room tokens = do
  word ← one (class.Word keyword.Const) tokens
  name ← one class.Name word.1
  eq ← after_one (class.Symbol ASSIGN) name.1
  value ← const_at room 3 eq
  after ← after_one (class.Symbol SEMICOLON) value.1
  Ok (stmt.Constant word.0 name.0 value.0, after)

unfoldable pub input_at : ℕ → List Token → Read Stmt
input_at room tokens = do
  word ← one (class.Word keyword.Input) tokens
  party ← one class.Party word.1
  name ← one class.Name party.1
  colon ← after_one (class.Symbol COLON) name.1
  ty ← one class.Type colon
  size ← index_at room ty.1
  after ← after_one (class.Symbol SEMICOLON) size.1
  Ok (stmt.Input word.0 party.0 name.0 ty.0 size.0, after)

unfoldable pub let_at : ℕ → List Token → Read Stmt
let_at room tokens = do
  word ← one (class.Word keyword.Let) tokens
  name ← one class.Name word.1
  eq ← after_one (class.Symbol ASSIGN) name.1
  value ← expr_at room 7 eq
  after ← after_one (class.Symbol SEMICOLON) value.1
  Ok (stmt.Let word.0 name.0 value.0, after)

unfoldable pub array_at : ℕ → List Token → Read Stmt
array_at room tokens = do
  word ← one (class.Word keyword.Array) tokens
  name ← one class.Name word.1
  colon ← after_one (class.Symbol COLON) name.1
  ty ← one class.Type colon
  size ← bracketed room ty.1
  eq ← one (class.Symbol ASSIGN) size.1
  value ← expr_at room 7 eq.1
  after ← after_one (class.Symbol SEMICOLON) value.1
  Ok (stmt.Array word.0 name.0 ty.0 size.0 eq.0 value.0, after)

unfoldable pub assign_at : ℕ → List Token → Read Stmt
assign_at room tokens = do
  place ← item_at room tokens
  eq ← one (class.Symbol ASSIGN) place.1
  value ← expr_at room 7 eq.1
  after ← after_one (class.Symbol SEMICOLON) value.1
  Ok (stmt.Assign place.0 eq.0 value.0, after)

unfoldable pub move_at : ℕ → List Token → Read Stmt
move_at room tokens = do
  word ← one (class.Word keyword.Move) tokens
  name ← one class.Name word.1
  eq ← after_one (class.Symbol ASSIGN) name.1
  place ← item_at room eq
  after ← after_one (class.Symbol SEMICOLON) place.1
  Ok (stmt.Move word.0 name.0 place.0, after)

unfoldable pub output_at : ℕ → List Token → Read Stmt
output_at room tokens = do
  word ← one (class.Word keyword.Output) tokens
  value ← expr_at room 7 word.1
  after ← after_one (class.Symbol SEMICOLON) value.1
  Ok (stmt.Output word.0 value.0, after)

-- a block, whose statements `deeper` reads from its bracket on
unfoldable pub block_at : (List Token → Read (List Stmt)) → List Token → Read (List Stmt)
block_at deeper tokens = do
  bracket ← after_one (class.Symbol OPEN_BRACE) tokens
  body ← deeper tokens
  after ← after_one (class.Symbol CLOSE_BRACE) body.1
  Ok (body.0, after)

unfoldable pub on_at : (List Token → Read (List Stmt)) → ℕ → List Token → Read Stmt
on_at deeper room tokens = do
  word ← one (class.Word keyword.On) tokens
  worker ← const_at room 3 word.1
  body ← block_at deeper worker.1
  Ok (stmt.On word.0 worker.0 body.0, body.1)

unfoldable pub for_at : (List Token → Read (List Stmt)) → ℕ → List Token → Read Stmt
for_at deeper room tokens = do
  word ← one (class.Word keyword.For) tokens
  name ← one class.Name word.1
  within ← after_one (class.Word keyword.In) name.1
  from ← const_at room 3 within
  dots ← after_one (class.Symbol DOTS) from.1
  to ← const_at room 3 dots
  body ← block_at deeper to.1
  Ok (stmt.For word.0 name.0 from.0 to.0 body.0, body.1)

-- the block after `else`, where there is one
unfoldable pub else_at : (List Token → Read (List Stmt)) → List Token → Read (Option (List Stmt))
else_at deeper tokens =
    if begins (class.Word keyword.Else) tokens then (do
      word ← after_one (class.Word keyword.Else) tokens
      body ← block_at deeper word
      Ok (Some body.0, body.1))
    else Ok (None, tokens)

unfoldable pub choice_at : (List Token → Read (List Stmt)) → ℕ → List Token → Read Stmt
choice_at deeper room tokens = do
  word ← one (class.Word keyword.If) tokens
  left ← const_at room 3 word.1
  op ← one class.Comparing left.1
  right ← const_at room 3 op.1
  chosen ← block_at deeper right.1
  other ← else_at deeper chosen.1
  Ok (stmt.If word.0 left.0 op.0 right.0 chosen.0 other.0, other.1)

-- a statement: what it is, is seen from its first token
unfoldable pub stmt_from : (List Token → Read (List Stmt)) → ℕ → List Token → Read Stmt
stmt_from deeper room tokens =
    if begins (class.Word keyword.Const) tokens then constant_at room tokens
    else (if begins (class.Word keyword.Input) tokens then input_at room tokens
    else (if begins (class.Word keyword.Let) tokens then let_at room tokens
    else (if begins (class.Word keyword.Array) tokens then array_at room tokens
    else (if begins (class.Word keyword.Move) tokens then move_at room tokens
    else (if begins (class.Word keyword.On) tokens then on_at deeper room tokens
    else (if begins (class.Word keyword.For) tokens then for_at deeper room tokens
    else (if begins (class.Word keyword.If) tokens then choice_at deeper room tokens
    else (if begins (class.Word keyword.Output) tokens then output_at room tokens
    else assign_at room tokens))))))))

-- the statements up to a `}` or the end
abbrev pub are_over : List Token → Bool
are_over [] = true
are_over (token ∷ rest) = begins (class.Symbol CLOSE_BRACE) (token ∷ rest)

-- statements, at most so many, of which `first` reads one
unfoldable pub stmts_from : (List Token → Read Stmt) → ℕ → List Token → Read (List Stmt)
stmts_from first zero tokens = Ok ([], tokens)
stmts_from first (suc most) tokens =
    if are_over tokens then Ok ([], tokens)
    else (do
      one_stmt ← first tokens
      rest ← stmts_from first most one_stmt.1
      Ok (one_stmt.0 ∷ rest.0, rest.1))

-- the statements behind the first token, a bracket, where there is room for it
unfoldable pub stmts_in : ℕ → List Token → Read (List Stmt)
stmts_in zero tokens = Err (stops.TooDeep (length tokens))
stmts_in (suc room) tokens =
    stmts_from (stmt_from (stmts_in room) room) (length (drop 1 tokens)) (drop 1 tokens)

unfoldable pub stmt_at : ℕ → List Token → Read Stmt
stmt_at room tokens = stmt_from (stmts_in room) room tokens

unfoldable pub stmts_at : ℕ → List Token → Read (List Stmt)
stmts_at room tokens = stmts_from (stmt_at room) (length tokens) tokens

-- the number of workers, where it is given
unfoldable pub workers_at : List Token → Read (Option Token)
workers_at tokens =
    if begins (class.Word keyword.Workers) tokens then (do
      word ← after_one (class.Word keyword.Workers) tokens
      number ← one class.Number word
      after ← after_one (class.Symbol SEMICOLON) number.1
      Ok (Some number.0, after))
    else Ok (None, tokens)

-- nothing may follow
unfoldable pub at_end : List Token → Result (Unit {0}) Stop
at_end [] = Ok tt
at_end (token ∷ rest) = Err (stops.Syntax (length (token ∷ rest)))

-- a whole source
unfoldable pub source_at : ℕ → List Token → Result (Option Token × List Stmt) Stop
source_at room tokens = do
  workers ← workers_at tokens
  body ← stmts_at room workers.1
  end ← at_end body.1
  Ok (workers.0, body.0)
