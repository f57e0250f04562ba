use Rattle.std.proofs.Common.{◌≡◌, ◌+◌, ◌*◌, ◌++◌, take}
use Rattle.mage_printer.specs.Printed.{written}
use Rattle.mage_printer.specs.Made.{const_made, terms_made}
use Rattle.mage_printer.proofs.constants.+constants.Given as goal

abbrev pub decreases-add_const : goal.decreases-add_const
decreases-add_const l = 4 * l.depth

abbrev pub decreases-add_node : goal.decreases-add_node
decreases-add_node l = 4 * l.depth + 3

abbrev pub decreases-add_const_terms : goal.decreases-add_const_terms
decreases-add_const_terms l = 4 * l.depth + 1

abbrev pub invariant-add_const_terms-loop-term : goal.invariant-add_const_terms-loop-term
invariant-add_const_terms-loop-term l =
    l.text.items ≡ l.fn.text.items ++ terms_made written (const_made written l.depth) (take l.term-index l.terms)
