use Rattle.std.proofs.Common.{◌≡◌, ◌+◌, ◌*◌, ◌++◌, take}
use Rattle.mage_printer.specs.Printed.{written}
use Rattle.mage_printer.specs.Made.{expr_made, terms_made, more_args_made}
use Rattle.mage_printer.proofs.expressions.+expressions.Given as goal

abbrev pub decreases-add_expr : goal.decreases-add_expr
decreases-add_expr l = 8 * l.depth

abbrev pub decreases-add_node : goal.decreases-add_node
decreases-add_node l = 8 * l.depth + 7

abbrev pub decreases-add_terms : goal.decreases-add_terms
decreases-add_terms l = 8 * l.depth + 1

abbrev pub decreases-add_call : goal.decreases-add_call
decreases-add_call l = 8 * l.depth + 3

abbrev pub decreases-add_args : goal.decreases-add_args
decreases-add_args l = 8 * l.depth + 2

abbrev pub decreases-add_more_args : goal.decreases-add_more_args
decreases-add_more_args l = 8 * l.depth + 1

abbrev pub invariant-add_terms-loop-term : goal.invariant-add_terms-loop-term
invariant-add_terms-loop-term l =
    l.text.items ≡ l.fn.text.items ++ terms_made written (expr_made written l.depth) (take l.term-index l.terms)

abbrev pub invariant-add_more_args-loop-arg : goal.invariant-add_more_args-loop-arg
invariant-add_more_args-loop-arg l =
    l.text.items ≡ l.fn.text.items ++ more_args_made written (expr_made written l.depth) (take l.arg-index l.args)
