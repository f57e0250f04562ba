use Rattle.std.proofs.Common.{rules, ◌≡◌, ◌<◌, ◌++◌, ◌∷◌, [], ◌∙◌, sym, length, true, arith}
use Rattle.std.proofs.lemmas.Result.{err_from_is_err_and}
use Rattle.mage_parser.specs.Reads.{begins}
use Rattle.mage_parser.specs.Constants.{const_rank, const_at}
use Rattle.mage_parser.proofs.Fronts.{operands_more, operands_fail}
use Rattle.mage_parser.proofs.constants.+constants.Goals as goal

pub const_operands-loop-turn-preserved : goal.const_operands-loop-turn-preserved
const_operands-loop-turn-preserved t c =
    let pushed : c.push.new.self ≡ c.loop-turn.operands ++ (c.in_ok-op.op, c.in_ok-value.value) ∷ [] = search rules in
    let going : begins c.args.operators c.loop-turn.left.now ≡ true = cc in
    let turn : c.loop-turn._turn < length c.args.tokens.now = omega arith in
    rw pushed (sym (operands_more (const_at c.args.room (const_rank c.args.operand)) c.args.operators (length c.args.tokens.now)
    c.loop-turn._turn c.loop-turn.operands c.loop-turn.left.now c.in_ok-op.rest.now c.in_ok-value.rest.now c.in_ok-op.op
    c.in_ok-value.value turn going c.in_ok-op.ensures c.in_ok-value.ensures) ∙ c.loop-turn.invariant)

pub const_operands-returns-in_err-value : goal.const_operands-returns-in_err-value
const_operands-returns-in_err-value t c =
    let p = err_from_is_err_and c.from_residual-in_err-value.result c.from_residual-in_err-value.ensures.1 in
    let going : begins c.args.operators c.loop-turn.left.now ≡ true = cc in
    let turn : c.loop-turn._turn < length c.args.tokens.now = omega arith in
    rw (p.1, p.2) (operands_fail (const_at c.args.room (const_rank c.args.operand)) c.args.operators (length c.args.tokens.now)
    c.loop-turn._turn c.loop-turn.operands c.loop-turn.left.now c.in_ok-op.rest.now c.in_ok-op.op c.in_err-value.field-0.0 _ turn going
    c.in_ok-op.ensures c.in_err-value.ensures c.loop-turn.invariant)
