use Rattle.std.proofs.Common.{rules, ◌≡◌, ◌<◌, ◌++◌, ◌∷◌, [], ◌∙◌, sym, length, false, arith}
use Rattle.std.proofs.lemmas.Result.{err_from_is_err_and}
use Rattle.mage_parser.specs.Statements.{stmt_at, stmts_at, are_over}
use Rattle.mage_parser.proofs.Fronts.{stmts_more, stmts_fail}
use Rattle.mage_parser.proofs.blocks.+blocks.Goals as goal

pub stmts_at-loop-turn-preserved : goal.stmts_at-loop-turn-preserved
stmts_at-loop-turn-preserved t c =
    let pushed : c.push.new.self ≡ c.loop-turn.stmts ++ c.in_ok-stmt.stmt ∷ [] = search rules in
    let going : are_over c.loop-turn.left.now ≡ false = cc in
    let turn : c.loop-turn._turn < length c.args.tokens.now = omega arith in
    rw pushed (sym (stmts_more (stmt_at c.args.room) (length c.args.tokens.now) c.loop-turn._turn c.loop-turn.stmts
    c.loop-turn.left.now c.in_ok-stmt.rest.now c.in_ok-stmt.stmt turn going c.in_ok-stmt.ensures) ∙ c.loop-turn.invariant)

pub stmts_at-returns-in_err-stmt : goal.stmts_at-returns-in_err-stmt
unfolding stmts_at
stmts_at-returns-in_err-stmt t c =
    let p = err_from_is_err_and c.from_residual.result c.from_residual.ensures.1 in
    let going : are_over c.loop-turn.left.now ≡ false = cc in
    let turn : c.loop-turn._turn < length c.args.tokens.now = omega arith in
    rw (p.1, p.2) (stmts_fail (stmt_at c.args.room) (length c.args.tokens.now) c.loop-turn._turn c.loop-turn.stmts
    c.loop-turn.left.now c.in_err-stmt.field-0.0 _ turn going c.in_err-stmt.ensures c.loop-turn.invariant)
