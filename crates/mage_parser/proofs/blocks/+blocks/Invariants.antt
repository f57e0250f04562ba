use Rattle.std.proofs.Common.{◌≡◌, ◌-◌, ◌+◌, ◌*◌, length}
use Rattle.mage_parser.specs.Statements.{stmt_at, stmts_from}
use Rattle.mage_parser.proofs.Fronts.{with_front}
use Rattle.mage_parser.proofs.blocks.+blocks.Given as goal

abbrev pub decreases-block_at : goal.decreases-block_at
decreases-block_at l = 16 * l.room + 1

abbrev pub decreases-on_at : goal.decreases-on_at
decreases-on_at l = 16 * l.room + 3

abbrev pub decreases-for_at : goal.decreases-for_at
decreases-for_at l = 16 * l.room + 3

abbrev pub decreases-else_at : goal.decreases-else_at
decreases-else_at l = 16 * l.room + 2

abbrev pub decreases-choice_at : goal.decreases-choice_at
decreases-choice_at l = 16 * l.room + 3

abbrev pub decreases-stmt_at : goal.decreases-stmt_at
decreases-stmt_at l = 16 * l.room + 4

abbrev pub decreases-stmts_in : goal.decreases-stmts_in
decreases-stmts_in l = 16 * l.room

abbrev pub decreases-stmts_at : goal.decreases-stmts_at
decreases-stmts_at l = 16 * l.room + 5

abbrev pub invariant-stmts_at-loop-turn : goal.invariant-stmts_at-loop-turn
invariant-stmts_at-loop-turn l =
    with_front l.stmts (stmts_from (stmt_at l.room) (length l.tokens - l._turn) l.left)
    ≡ stmts_from (stmt_at l.room) (length l.tokens) l.tokens
