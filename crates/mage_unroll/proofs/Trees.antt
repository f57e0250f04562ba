-- What the definitions over trees give at a chain, and at a statement that holds others.
use Rattle.std.proofs.Common.{◌≡◌, List, map, Option, Some, None, refl, ap, sym, ◌∙◌}
use Rattle.std.specs.Option.{option_map}
use Rattle.mage_lex.specs.declared.fault.LangFault.{LangFault}
use Rattle.mage_lex.specs.declared.fault.LangFault.TheVariants as faults
use Rattle.mage_lex.specs.declared.token.Token.{Token}
use Rattle.mage_tree.specs.declared.tree.ConstExpr.{ConstExpr}
use Rattle.mage_tree.specs.declared.tree.Expr.{Expr}
use Rattle.mage_tree.specs.declared.tree.Expr.TheVariants as expr
use Rattle.mage_tree.specs.declared.tree.Expr.TheOpen.{Expr-F}
use Rattle.mage_tree.specs.declared.tree.Expr.TheFolds.{fold-roll-Expr}
use Rattle.mage_chains.specs.Chains.{◌>>=◌}
use Rattle.mage_unroll.specs.Expressions.{ExprMeaning, chained, expr_layer, variable_of}
use Rattle.mage_tree.specs.declared.tree.Stmt.{Stmt}
use Rattle.mage_tree.specs.declared.tree.Stmt.TheVariants as stmt
use Rattle.mage_tree.specs.declared.tree.Stmt.TheOpen.{Stmt-F}
use Rattle.mage_tree.specs.declared.tree.Stmt.TheFolds.{fold-roll-Stmt}
use Rattle.mage_constants.specs.Answer.{Fails}
use Rattle.mage_unroll.specs.State.{State}
use Rattle.mage_unroll.specs.Statements.{Act, condition, branch, stmt_layer, executed}

pub variable_of-chain : (word : Token) (s : State) (first : Expr) (rest : List (Token × Expr)) → variable_of (expr.Chain first rest) word s ≡ (variable_of first word s >>= λ value. chained (map (λ term. (term.0, variable_of term.1)) rest) word value.0 value.1)
unfolding variable_of expr_layer
variable_of-chain word s first rest =
    ap (λ (e : Expr). variable_of e word s) (sym (expr.rolls-Chain first rest))
    ∙ ap (λ (f : ExprMeaning). f word s) (fold-roll-Expr ExprMeaning expr_layer (Expr-F.Chain first rest))

pub executed-on : (word : Token) (worker : ConstExpr) (body : List Stmt) (s : State) → executed (stmt.On word worker body) s ≡ stmt_layer (Stmt-F.On word worker (map executed body)) s
unfolding executed
executed-on word worker body s =
    ap (λ (e : Stmt). executed e s) (sym (stmt.rolls-On word worker body))
    ∙ ap (λ (f : Act). f s) (fold-roll-Stmt Act stmt_layer (Stmt-F.On word worker body))

pub executed-for : (word name : Token) (from to : ConstExpr) (body : List Stmt) (s : State) → executed (stmt.For word name from to body) s ≡ stmt_layer (Stmt-F.For word name from to (map executed body)) s
unfolding executed
executed-for word name from to body s =
    ap (λ (e : Stmt). executed e s) (sym (stmt.rolls-For word name from to body))
    ∙ ap (λ (f : Act). f s) (fold-roll-Stmt Act stmt_layer (Stmt-F.For word name from to body))

pub executed-if : (word : Token) (lower : ConstExpr) (op : Token) (upper : ConstExpr) (body : List Stmt) (other : Option (List Stmt)) (s : State) → executed (stmt.If word lower op upper body other) s ≡ (condition word lower op upper s >>= λ held. branch held.0 (map executed body) (option_map (map executed) other) held.1)
unfolding executed stmt_layer
executed-if word lower op upper body None s =
    ap (λ (e : Stmt). executed e s) (sym (stmt.rolls-If word lower op upper body None))
    ∙ ap (λ (f : Act). f s) (fold-roll-Stmt Act stmt_layer (Stmt-F.If word lower op upper body None))
executed-if word lower op upper body (Some other) s =
    ap (λ (e : Stmt). executed e s) (sym (stmt.rolls-If word lower op upper body (Some other)))
    ∙ ap (λ (f : Act). f s) (fold-roll-Stmt Act stmt_layer (Stmt-F.If word lower op upper body (Some other)))

-- the header of an `if` has a fault
pub executed-if_fails : (fault : LangFault) (word : Token) (lower : ConstExpr) (op : Token) (upper : ConstExpr) (body : List Stmt) (other : Option (List Stmt)) (s : State) → Fails fault (condition word lower op upper s) → Fails fault (executed (stmt.If word lower op upper body other) s)
executed-if_fails faults.Memory word lower op upper body other s fails = tt
executed-if_fails (faults.At kind line column) word lower op upper body other s fails =
    executed-if word lower op upper body other s ∙ rw fails refl
