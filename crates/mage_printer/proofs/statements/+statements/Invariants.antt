use Rattle.std.proofs.Common.{◌≡◌, ◌+◌, ◌*◌, ◌++◌, take}
use Rattle.std.specs.List.{flat_map}
use Rattle.mage_printer.specs.Printed.{written}
use Rattle.mage_printer.specs.Made.{stmt_made}
use Rattle.mage_printer.proofs.statements.+statements.Given as goal

abbrev pub decreases-add_stmt : goal.decreases-add_stmt
decreases-add_stmt l = 8 * l.depth

abbrev pub decreases-add_node : goal.decreases-add_node
decreases-add_node l = 8 * l.depth + 7

abbrev pub decreases-add_block : goal.decreases-add_block
decreases-add_block l = 8 * l.depth + 2

abbrev pub decreases-add_else : goal.decreases-add_else
decreases-add_else l = 8 * l.depth + 3

abbrev pub decreases-add_stmts : goal.decreases-add_stmts
decreases-add_stmts l = 8 * l.depth + 1

abbrev pub invariant-add_stmts-loop-statement : goal.invariant-add_stmts-loop-statement
invariant-add_stmts-loop-statement l =
    l.text.items ≡ l.fn.text.items ++ flat_map (stmt_made written l.depth) (take l.statement-index l.body)
