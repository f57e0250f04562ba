-- What the direct meaning gives at trees that hold lists.
use Rattle.std.proofs.Common.{◌≡◌, List, map, ap, sym, ◌∙◌}
use Rattle.mage_lex.specs.declared.token.Token.{Token}
use Rattle.mage_tree.specs.declared.tree.Expr.{Expr}
use Rattle.mage_tree.specs.declared.tree.Expr.TheVariants as expr
use Rattle.mage_tree.specs.declared.tree.Expr.TheOpen.{Expr-F}
use Rattle.mage_tree.specs.declared.tree.Expr.TheFolds.{fold-roll-Expr}
use Rattle.mage_meaning.specs.Value.{Moment, ExprValue, chained, chosen, value_layer, number_of_expr}

pub number_of_expr-chain : (m : Moment) (first : Expr) (rest : List (Token × Expr)) → number_of_expr (expr.Chain first rest) m ≡ chained (map (λ term. (term.0, number_of_expr term.1)) rest) (number_of_expr first m) m
unfolding number_of_expr value_layer
number_of_expr-chain m first rest =
    ap (λ (e : Expr). number_of_expr e m) (sym (expr.rolls-Chain first rest))
    ∙ ap (λ (f : ExprValue). f m) (fold-roll-Expr ExprValue value_layer (Expr-F.Chain first rest))

pub number_of_expr-mux : (m : Moment) (word : Token) (args : List Expr) → number_of_expr (expr.Mux word args) m ≡ chosen (map (λ number. number m) (map number_of_expr args))
unfolding number_of_expr value_layer
number_of_expr-mux m word args =
    ap (λ (e : Expr). number_of_expr e m) (sym (expr.rolls-Mux word args))
    ∙ ap (λ (f : ExprValue). f m) (fold-roll-Expr ExprValue value_layer (Expr-F.Mux word args))
