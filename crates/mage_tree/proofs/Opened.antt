-- Each node of a tree, opened.
use Rattle.std.proofs.Common.{rules, ◌≡◌, List}
use Rattle.std.specs.Prelude.{Option}
use Rattle.mage_lex.specs.declared.token.Token.{Token}
use Rattle.mage_tree.specs.declared.tree.ConstExpr as const_tree
use Rattle.mage_tree.specs.declared.tree.ConstExpr.{ConstExpr, out-ConstExpr}
use Rattle.mage_tree.specs.declared.tree.ConstExpr.TheOpen.{ConstExpr-F}
use Rattle.mage_tree.specs.declared.tree.ConstExpr.TheVariants as const
use Rattle.mage_tree.specs.declared.tree.Expr as expr_tree
use Rattle.mage_tree.specs.declared.tree.Expr.{Expr, out-Expr}
use Rattle.mage_tree.specs.declared.tree.Expr.TheOpen.{Expr-F}
use Rattle.mage_tree.specs.declared.tree.Expr.TheVariants as expr
use Rattle.mage_tree.specs.declared.tree.Item.{Item}
use Rattle.mage_tree.specs.declared.tree.Stmt as stmt_tree
use Rattle.mage_tree.specs.declared.tree.Stmt.{Stmt, out-Stmt}
use Rattle.mage_tree.specs.declared.tree.Stmt.TheOpen.{Stmt-F}
use Rattle.mage_tree.specs.declared.tree.Stmt.TheVariants as stmt

pub const_chain : (first : ConstExpr) (rest : List (Token × ConstExpr)) → out-ConstExpr (const.Chain first rest) ≡ ConstExpr-F.Chain first rest
const_chain first rest = search (rules, const_tree.the_lemmas)

pub const_minus : (op : Token) (operand : ConstExpr) → out-ConstExpr (const.Minus op operand) ≡ ConstExpr-F.Minus op operand
const_minus op operand = search (rules, const_tree.the_lemmas)

pub const_number : (token : Token) → out-ConstExpr (const.Number token) ≡ ConstExpr-F.Number token
const_number token = search (rules, const_tree.the_lemmas)

pub const_name : (token : Token) → out-ConstExpr (const.Name token) ≡ ConstExpr-F.Name token
const_name token = search (rules, const_tree.the_lemmas)

pub const_paren : (bracket : Token) (inner : ConstExpr) → out-ConstExpr (const.Paren bracket inner) ≡ ConstExpr-F.Paren bracket inner
const_paren bracket inner = search (rules, const_tree.the_lemmas)

pub expr_chain : (first : Expr) (rest : List (Token × Expr)) → out-Expr (expr.Chain first rest) ≡ Expr-F.Chain first rest
expr_chain first rest = search (rules, expr_tree.the_lemmas)

pub expr_shift : (first : Expr) (rest : List (Token × ConstExpr)) → out-Expr (expr.Shift first rest) ≡ Expr-F.Shift first rest
expr_shift first rest = search (rules, expr_tree.the_lemmas)

pub expr_not : (op : Token) (operand : Expr) → out-Expr (expr.Not op operand) ≡ Expr-F.Not op operand
expr_not op operand = search (rules, expr_tree.the_lemmas)

pub expr_item : (item : Item) → out-Expr (expr.Item item) ≡ Expr-F.Item item
expr_item item = search (rules, expr_tree.the_lemmas)

pub expr_paren : (bracket : Token) (inner : Expr) → out-Expr (expr.Paren bracket inner) ≡ Expr-F.Paren bracket inner
expr_paren bracket inner = search (rules, expr_tree.the_lemmas)

pub expr_lit : (word ty : Token) (value : ConstExpr) → out-Expr (expr.Lit word ty value) ≡ Expr-F.Lit word ty value
expr_lit word ty value = search (rules, expr_tree.the_lemmas)

pub expr_resize : (word ty : Token) (operand : Expr) → out-Expr (expr.Resize word ty operand) ≡ Expr-F.Resize word ty operand
expr_resize word ty operand = search (rules, expr_tree.the_lemmas)

pub expr_mux : (word : Token) (args : List Expr) → out-Expr (expr.Mux word args) ≡ Expr-F.Mux word args
expr_mux word args = search (rules, expr_tree.the_lemmas)

pub expr_call : (word : Token) (args : List Expr) → out-Expr (expr.Call word args) ≡ Expr-F.Call word args
expr_call word args = search (rules, expr_tree.the_lemmas)

pub stmt_constant : (word name : Token) (value : ConstExpr) → out-Stmt (stmt.Constant word name value) ≡ Stmt-F.Constant word name value
stmt_constant word name value = search (rules, stmt_tree.the_lemmas)

pub stmt_input : (word party name ty : Token) (size : Option (Token × ConstExpr)) → out-Stmt (stmt.Input word party name ty size) ≡ Stmt-F.Input word party name ty size
stmt_input word party name ty size = search (rules, stmt_tree.the_lemmas)

pub stmt_let : (word name : Token) (value : Expr) → out-Stmt (stmt.Let word name value) ≡ Stmt-F.Let word name value
stmt_let word name value = search (rules, stmt_tree.the_lemmas)

pub stmt_array : (word name ty : Token) (size : Token × ConstExpr) (eq : Token) (value : Expr) → out-Stmt (stmt.Array word name ty size eq value) ≡ Stmt-F.Array word name ty size eq value
stmt_array word name ty size eq value = search (rules, stmt_tree.the_lemmas)

pub stmt_assign : (place : Item) (eq : Token) (value : Expr) → out-Stmt (stmt.Assign place eq value) ≡ Stmt-F.Assign place eq value
stmt_assign place eq value = search (rules, stmt_tree.the_lemmas)

pub stmt_move : (word name : Token) (place : Item) → out-Stmt (stmt.Move word name place) ≡ Stmt-F.Move word name place
stmt_move word name place = search (rules, stmt_tree.the_lemmas)

pub stmt_on : (word : Token) (worker : ConstExpr) (body : List Stmt) → out-Stmt (stmt.On word worker body) ≡ Stmt-F.On word worker body
stmt_on word worker body = search (rules, stmt_tree.the_lemmas)

pub stmt_for : (word name : Token) (from to : ConstExpr) (body : List Stmt) → out-Stmt (stmt.For word name from to body) ≡ Stmt-F.For word name from to body
stmt_for word name from to body = search (rules, stmt_tree.the_lemmas)

pub stmt_if : (word : Token) (left : ConstExpr) (op : Token) (right : ConstExpr) (body : List Stmt) (other : Option (List Stmt)) →
    out-Stmt (stmt.If word left op right body other) ≡ Stmt-F.If word left op right body other
stmt_if word left op right body other = search (rules, stmt_tree.the_lemmas)

pub stmt_output : (word : Token) (value : Expr) → out-Stmt (stmt.Output word value) ≡ Stmt-F.Output word value
stmt_output word value = search (rules, stmt_tree.the_lemmas)
