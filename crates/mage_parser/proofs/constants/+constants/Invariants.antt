use Rattle.std.proofs.Common.{◌≡◌, ◌-◌, ◌+◌, ◌*◌, length}
use Rattle.mage_parser.specs.Reads.{operands}
use Rattle.mage_parser.specs.Constants.{const_rank, const_at}
use Rattle.mage_parser.proofs.Fronts.{with_front}
use Rattle.mage_parser.proofs.constants.+constants.Given as goal

abbrev pub decreases-const_at : goal.decreases-const_at
decreases-const_at l = 32 * l.room + 4 * const_rank l.level + 4

abbrev pub decreases-const_atom : goal.decreases-const_atom
decreases-const_atom l = 32 * l.room + 1

abbrev pub decreases-const_chain : goal.decreases-const_chain
decreases-const_chain l = 32 * l.room + 4 * const_rank l.operand + 6

abbrev pub decreases-const_in : goal.decreases-const_in
decreases-const_in l = 32 * l.room

abbrev pub decreases-const_operands : goal.decreases-const_operands
decreases-const_operands l = 32 * l.room + 4 * const_rank l.operand + 5

abbrev pub decreases-const_unary : goal.decreases-const_unary
decreases-const_unary l = 32 * l.room + 2

abbrev pub invariant-const_operands-loop-turn : goal.invariant-const_operands-loop-turn
invariant-const_operands-loop-turn l =
    with_front l.operands (operands (const_at l.room (const_rank l.operand)) l.operators (length l.tokens - l._turn) l.left)
    ≡ operands (const_at l.room (const_rank l.operand)) l.operators (length l.tokens) l.tokens
