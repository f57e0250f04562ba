use Rattle.std.proofs.Common.{◌≡◌, ◌-◌, ◌+◌, ◌*◌, length}
use Rattle.mage_parser.specs.Reads.{operands}
use Rattle.mage_parser.specs.Expressions.{rank, expr_at}
use Rattle.mage_parser.proofs.Fronts.{with_front}
use Rattle.mage_parser.proofs.expressions.+expressions.Given as goal

abbrev pub decreases-expr_at : goal.decreases-expr_at
decreases-expr_at l = 64 * l.room + 4 * rank l.level + 10

abbrev pub decreases-unary_at : goal.decreases-unary_at
decreases-unary_at l = 64 * l.room + 8

abbrev pub decreases-resize_at : goal.decreases-resize_at
decreases-resize_at l = 64 * l.room + 1

abbrev pub decreases-mux_at : goal.decreases-mux_at
decreases-mux_at l = 64 * l.room + 1

abbrev pub decreases-choose_at : goal.decreases-choose_at
decreases-choose_at l = 64 * l.room + 1

abbrev pub decreases-count_at : goal.decreases-count_at
decreases-count_at l = 64 * l.room + 1

abbrev pub decreases-name_at : goal.decreases-name_at
decreases-name_at l = 64 * l.room + 2

abbrev pub decreases-paren_at : goal.decreases-paren_at
decreases-paren_at l = 64 * l.room + 1

abbrev pub decreases-not_at : goal.decreases-not_at
decreases-not_at l = 64 * l.room + 1

abbrev pub decreases-expr_in : goal.decreases-expr_in
decreases-expr_in l = 64 * l.room

abbrev pub decreases-chain_at : goal.decreases-chain_at
decreases-chain_at l = 64 * l.room + 4 * rank l.operand + 12

abbrev pub decreases-expr_operands : goal.decreases-expr_operands
decreases-expr_operands l = 64 * l.room + 4 * rank l.operand + 11

abbrev pub decreases-shift_at : goal.decreases-shift_at
decreases-shift_at l = 64 * l.room + 20

abbrev pub decreases-compare_at : goal.decreases-compare_at
decreases-compare_at l = 64 * l.room + 36

abbrev pub invariant-expr_operands-loop-turn : goal.invariant-expr_operands-loop-turn
invariant-expr_operands-loop-turn l =
    with_front l.operands (operands (expr_at l.room (rank l.operand)) l.operators (length l.tokens - l._turn) l.left)
    ≡ operands (expr_at l.room (rank l.operand)) l.operators (length l.tokens) l.tokens
