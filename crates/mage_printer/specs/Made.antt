-- What is made of a tree, token after token, where `put` says what is made of each. A depth bounds
-- how many nodes stand one in the other; of what is deeper nothing is made.
use Rattle.std.specs.Prelude.{ℕ, zero, suc, ◌*◌, List, [], ◌∷◌, ◌++◌, Option, None, Some, codes}
use Rattle.std.specs.List.{flat_map}
use Rattle.mage_lex.specs.Symbols.{DOTS, SEMICOLON, COLON, COMMA, OPEN_PAREN, CLOSE_PAREN, CLOSE_BRACKET, OPEN_BRACE, CLOSE_BRACE, ASSIGN}
use Rattle.mage_lex.specs.declared.token.Token.{Token}
use Rattle.mage_lex.specs.declared.token.TokenKind.{TokenKind}
use Rattle.mage_lex.specs.declared.token.TokenKind.TheVariants as kinds
use Rattle.mage_tree.specs.Sources.{MOST_DEPTH}
use Rattle.mage_tree.specs.declared.tree.ConstExpr.{ConstExpr, out-ConstExpr}
use Rattle.mage_tree.specs.declared.tree.ConstExpr.TheOpen.{ConstExpr-F}
use Rattle.mage_tree.specs.declared.tree.Expr.{Expr, out-Expr}
use Rattle.mage_tree.specs.declared.tree.Expr.TheOpen.{Expr-F}
use Rattle.mage_tree.specs.declared.tree.Item.{Item}
use Rattle.mage_tree.specs.declared.tree.Stmt.{Stmt, out-Stmt}
use Rattle.mage_tree.specs.declared.tree.Stmt.TheOpen.{Stmt-F}

-- More nodes than a constant within the depth has one in the other: at most four for each bracket
-- and sign, and so for expressions at most eight, and for statements one for each bracket.
abbrev pub CONST_NODES : ℕ
CONST_NODES = 4 * suc MOST_DEPTH

abbrev pub EXPR_NODES : ℕ
EXPR_NODES = 8 * suc MOST_DEPTH

abbrev pub STMT_NODES : ℕ
STMT_NODES = suc MOST_DEPTH

-- what is made of tokens
unfoldable pub tokens_made : {A : Type 0} → (TokenKind → List A) → List Token → List A
tokens_made put [] = []
tokens_made put (token ∷ rest) = put token.kind ++ tokens_made put rest

-- of operators and what stands behind each
abbrev pub terms_made : {A B : Type 0} → (TokenKind → List A) → (B → List A) → List (Token × B) →
    List A
terms_made {A} {B} put inner terms =
    flat_map (λ (term : Token × B). put term.0.kind ++ inner term.1) terms

abbrev pub const_layer : {A : Type 0} → (TokenKind → List A) → (ConstExpr → List A) →
    ConstExpr-F ConstExpr → List A
const_layer put inner (ConstExpr-F.Chain first rest) = inner first ++ terms_made put inner rest
const_layer put inner (ConstExpr-F.Minus op operand) = put op.kind ++ inner operand
const_layer put inner (ConstExpr-F.Number token) = put token.kind
const_layer put inner (ConstExpr-F.Name token) = put token.kind
const_layer put inner (ConstExpr-F.Paren bracket value) =
    put bracket.kind ++ inner value ++ put (kinds.Symbol CLOSE_PAREN)

-- of a constant
unfoldable pub const_made : {A : Type 0} → (TokenKind → List A) → ℕ → ConstExpr → List A
const_made put zero value = []
const_made put (suc depth) value = const_layer put (const_made put depth) (out-ConstExpr value)

-- of an index or a length
unfoldable pub bracketed_made : {A : Type 0} → (TokenKind → List A) → Token × ConstExpr → List A
bracketed_made put index =
    put index.0.kind ++ const_made put CONST_NODES index.1 ++ put (kinds.Symbol CLOSE_BRACKET)

-- the same where there is one
unfoldable pub index_made : {A : Type 0} → (TokenKind → List A) → Option (Token × ConstExpr) →
    List A
index_made put None = []
index_made put (Some index) = bracketed_made put index

-- of a place
unfoldable pub item_made : {A : Type 0} → (TokenKind → List A) → Item → List A
item_made put item = put item.name.kind ++ index_made put item.index

-- of two tokens and a symbol
unfoldable pub head_made : {A : Type 0} → (TokenKind → List A) → Token → Token → ℕ → List A
head_made put first second row = put first.kind ++ put second.kind ++ put (kinds.Symbol row)

-- of arguments with a comma before each
abbrev pub more_args_made : {A : Type 0} → (TokenKind → List A) → (Expr → List A) → List Expr →
    List A
more_args_made put inner args =
    flat_map (λ (arg : Expr). put (kinds.Symbol COMMA) ++ inner arg) args

-- of arguments with commas between them
abbrev pub args_made : {A : Type 0} → (TokenKind → List A) → (Expr → List A) → List Expr → List A
args_made put inner [] = []
args_made put inner (first ∷ rest) = inner first ++ more_args_made put inner rest

-- of a word and its arguments in brackets
abbrev pub call_made : {A : Type 0} → (TokenKind → List A) → (Expr → List A) → Token → List Expr →
    List A
call_made put inner word args =
    put word.kind ++ put (kinds.Symbol OPEN_PAREN) ++ args_made put inner args
    ++ put (kinds.Symbol CLOSE_PAREN)

abbrev pub expr_layer : {A : Type 0} → (TokenKind → List A) → (Expr → List A) → Expr-F Expr → List A
expr_layer put inner (Expr-F.Chain first rest) = inner first ++ terms_made put inner rest
expr_layer put inner (Expr-F.Shift first rest) =
    inner first ++ terms_made put (const_made put CONST_NODES) rest
expr_layer put inner (Expr-F.Not op operand) = put op.kind ++ inner operand
expr_layer put inner (Expr-F.Item item) = item_made put item
expr_layer put inner (Expr-F.Paren bracket value) =
    put bracket.kind ++ inner value ++ put (kinds.Symbol CLOSE_PAREN)
expr_layer put inner (Expr-F.Lit word ty value) =
    head_made put word ty OPEN_PAREN ++ const_made put CONST_NODES value
    ++ put (kinds.Symbol CLOSE_PAREN)
expr_layer put inner (Expr-F.Resize word ty operand) =
    head_made put word ty OPEN_PAREN ++ inner operand ++ put (kinds.Symbol CLOSE_PAREN)
expr_layer put inner (Expr-F.Mux word args) = call_made put inner word args
expr_layer put inner (Expr-F.Call word args) = call_made put inner word args

-- of an expression
unfoldable pub expr_made : {A : Type 0} → (TokenKind → List A) → ℕ → Expr → List A
expr_made put zero value = []
expr_made put (suc depth) value = expr_layer put (expr_made put depth) (out-Expr value)

-- of an expression and its semicolon
unfoldable pub value_made : {A : Type 0} → (TokenKind → List A) → Expr → List A
value_made put value = expr_made put EXPR_NODES value ++ put (kinds.Symbol SEMICOLON)

unfoldable pub constant_made : {A : Type 0} → (TokenKind → List A) → Token → Token → ConstExpr →
    List A
constant_made put word name value =
    head_made put word name ASSIGN ++ const_made put CONST_NODES value
    ++ put (kinds.Symbol SEMICOLON)

unfoldable pub input_made : {A : Type 0} → (TokenKind → List A) → Token → Token → Token → Token
    → Option (Token × ConstExpr) → List A
input_made put word party name ty size =
    put word.kind ++ head_made put party name COLON ++ put ty.kind ++ index_made put size
    ++ put (kinds.Symbol SEMICOLON)

unfoldable pub let_made : {A : Type 0} → (TokenKind → List A) → Token → Token → Expr → List A
let_made put word name value = head_made put word name ASSIGN ++ value_made put value

unfoldable pub array_made : {A : Type 0} → (TokenKind → List A) → Token → Token → Token →
    Token × ConstExpr
    → Token → Expr → List A
array_made put word name ty size eq value =
    head_made put word name COLON ++ put ty.kind ++ bracketed_made put size ++ put eq.kind
    ++ value_made put value

unfoldable pub assign_made : {A : Type 0} → (TokenKind → List A) → Item → Token → Expr → List A
assign_made put place eq value = item_made put place ++ put eq.kind ++ value_made put value

unfoldable pub move_made : {A : Type 0} → (TokenKind → List A) → Token → Token → Item → List A
move_made put word name place =
    head_made put word name ASSIGN ++ item_made put place ++ put (kinds.Symbol SEMICOLON)

unfoldable pub output_made : {A : Type 0} → (TokenKind → List A) → Token → Expr → List A
output_made put word value = put word.kind ++ value_made put value

-- of the head of a `for`
unfoldable pub for_made : {A : Type 0} → (TokenKind → List A) → Token → Token → ConstExpr →
    ConstExpr → List A
for_made put word name from to =
    put word.kind ++ put name.kind ++ put (kinds.Word (codes "in"))
    ++ const_made put CONST_NODES from ++ put (kinds.Symbol DOTS) ++ const_made put CONST_NODES to

-- of the head of an `if`
unfoldable pub if_made : {A : Type 0} → (TokenKind → List A) → Token → ConstExpr → Token →
    ConstExpr → List A
if_made put word left op right =
    put word.kind ++ const_made put CONST_NODES left ++ put op.kind
    ++ const_made put CONST_NODES right

-- of a block
unfoldable pub block_made : {A : Type 0} → (TokenKind → List A) → (Stmt → List A) → List Stmt →
    List A
block_made put inner body =
    put (kinds.Symbol OPEN_BRACE) ++ flat_map inner body ++ put (kinds.Symbol CLOSE_BRACE)

-- of `else` and its block, where there is one
unfoldable pub else_made : {A : Type 0} → (TokenKind → List A) → (Stmt → List A) →
    Option (List Stmt) → List A
else_made put inner None = []
else_made put inner (Some body) = put (kinds.Word (codes "else")) ++ block_made put inner body

-- of a statement without blocks
abbrev pub simple_made : {A : Type 0} → (TokenKind → List A) → Stmt-F Stmt → List A
simple_made put (Stmt-F.Constant word name value) = constant_made put word name value
simple_made put (Stmt-F.Input word party name ty size) = input_made put word party name ty size
simple_made put (Stmt-F.Let word name value) = let_made put word name value
simple_made put (Stmt-F.Array word name ty size eq value) =
    array_made put word name ty size eq value
simple_made put (Stmt-F.Assign place eq value) = assign_made put place eq value
simple_made put (Stmt-F.Move word name place) = move_made put word name place
simple_made put (Stmt-F.Output word value) = output_made put word value
simple_made put with_blocks = []

abbrev pub stmt_layer : {A : Type 0} → (TokenKind → List A) → (Stmt → List A) → Stmt-F Stmt → List A
stmt_layer put inner (Stmt-F.On word worker body) =
    put word.kind ++ const_made put CONST_NODES worker ++ block_made put inner body
stmt_layer put inner (Stmt-F.For word name from to body) =
    for_made put word name from to ++ block_made put inner body
stmt_layer put inner (Stmt-F.If word left op right body other) =
    if_made put word left op right ++ block_made put inner body ++ else_made put inner other
stmt_layer put inner simple = simple_made put simple

-- of a statement
unfoldable pub stmt_made : {A : Type 0} → (TokenKind → List A) → ℕ → Stmt → List A
stmt_made put zero statement = []
stmt_made put (suc depth) statement = stmt_layer put (stmt_made put depth) (out-Stmt statement)

-- of the number of workers, where it is given
unfoldable pub workers_made : {A : Type 0} → (TokenKind → List A) → Option Token → List A
workers_made put None = []
workers_made put (Some number) =
    put (kinds.Word (codes "workers")) ++ put number.kind ++ put (kinds.Symbol SEMICOLON)

-- of a source
unfoldable pub source_made : {A : Type 0} → (TokenKind → List A) → Option Token → List Stmt → List A
source_made put workers body = workers_made put workers ++ flat_map (stmt_made put STMT_NODES) body
