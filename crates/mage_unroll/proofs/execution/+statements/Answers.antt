use Rattle.std.proofs.Common.{◌≡◌, ◌+ℤ◌, ◌<ℤ◌, pos, to_z, of_z, FitsSigned, refl, sym, ◌∙◌, map, arith}
use Rattle.std.specs.Int.{w128}
use Rattle.std.proofs.lemmas.Int.{ints, to_z-of_z}
use Rattle.std.proofs.lemmas.Result.{err_from_is_err_and}
use Rattle.mage_unroll.specs.Statements.{all_acts, executed}
use Rattle.mage_unroll.specs.Unroller.{state_of}
use Rattle.mage_unroll.proofs.Trees.{executed-on, executed-for, executed-if, executed-if_fails}
use Rattle.mage_unroll.proofs.Turns.{turns-more, turns-fails}
use Rattle.mage_unroll.proofs.execution.+statements.Goals as goal

pub execute-returns-in-On : goal.execute-returns-in-On
execute-returns-in-On t c =
    let on = executed-on c.in-On.word c.in-On.worker c.in-On.body (state_of c.args.unroller.now) in
    rw (c.in-On.is, on, ← c.as_slice.ensures) c.on_worker.ensures

pub execute-returns-in-For : goal.execute-returns-in-For
execute-returns-in-For t c =
    let for_ = executed-for c.in-For.word c.in-For.name c.in-For.from c.in-For.to c.in-For.body (state_of c.args.unroller.now) in
    rw (c.in-For.is, for_, ← c.as_slice-in-For.ensures) c.repeat.ensures

pub execute-returns-then-branch : goal.execute-returns-then-branch
execute-returns-then-branch t c =
    let if_ = executed-if c.in-If.word c.in-If.left c.in-If.op c.in-If.right c.in-If.yes c.in-If.no (state_of c.args.unroller.now) in
    let held = c.in_ok-condition-in-If.ensures in
    rw (c.in-If.is, if_, held, c.if-branch.true, ← c.as_slice-then-branch.ensures) c.block.ensures

pub execute-returns-in-Some : goal.execute-returns-in-Some
execute-returns-in-Some t c =
    let if_ = executed-if c.in-If.word c.in-If.left c.in-If.op c.in-If.right c.in-If.yes c.in-If.no (state_of c.args.unroller.now) in
    let held = c.in_ok-condition-in-If.ensures in
    rw (c.in-If.is, if_, held, c.if-branch.false, c.in-Some.is, ← c.as_slice-in-Some.ensures) c.block-in-Some.ensures

pub execute-returns-in_default : goal.execute-returns-in_default
execute-returns-in_default t c =
    let if_ = executed-if c.in-If.word c.in-If.left c.in-If.op c.in-If.right c.in-If.yes c.in-If.no (state_of c.args.unroller.now) in
    let held = c.in_ok-condition-in-If.ensures in
    rw (c.in-If.is, if_, held, c.if-branch.false, c.in_default.is) refl

pub execute-returns-in_err-condition-in-If : goal.execute-returns-in_err-condition-in-If
execute-returns-in_err-condition-in-If t c =
    let p = err_from_is_err_and c.from_residual.result c.from_residual.ensures.1 in
    rw (p.1, p.2, c.in-If.is) (executed-if_fails c.in_err-condition-in-If.field-0.0 _ _ _ _ _ _ _ c.in_err-condition-in-If.ensures)

pub turns-returns-in_err-turn : goal.turns-returns-in_err-turn
turns-returns-in_err-turn t c =
    let p = err_from_is_err_and c.from_residual.result c.from_residual.ensures.1 in
    let fits_first : FitsSigned w128 c.args.first = c.ranges.first in
    let fits_end : FitsSigned w128 c.args.end = c.ranges.end in
    let so_far = simp to_z-of_z at c.loop-number.invariant in
    let less : to_z w128 c.loop-number.number-bits <ℤ c.args.end = omega (arith, ints) in
    rw (p.1, p.2, ← so_far) (turns-fails c.in_err-turn.field-0.0 (to_z w128 c.loop-number.number-bits) c.args.end c.args.word.now c.args.name.now (all_acts (map executed c.args.body.now)) (state_of c.loop-number.unroller) less c.in_err-turn.ensures)

pub turns-loop-number-preserved : goal.turns-loop-number-preserved
turns-loop-number-preserved t c =
    let number = to_z w128 c.loop-number.number-bits in
    let end = to_z w128 (of_z w128 c.args.end) in
    let next = to_z w128 (of_z w128 (number +ℤ pos 1)) in
    let less : number <ℤ end = omega (arith, ints) in
    let is : next ≡ number +ℤ pos 1 = omega (arith, ints) in
    sym (turns-more number next end c.args.word.now c.args.name.now (all_acts (map executed c.args.body.now)) (state_of c.loop-number.unroller) (state_of c.turn.new.unroller) less is c.in_ok-turn.ensures)
    ∙ c.loop-number.invariant
