-- A front of the digits writes no larger number than all of them.
use Rattle.std.proofs.Common.{◌≡◌, take, ap, ◌∙◌, arith}
use Rattle.std.specs.Str.Parse.{digits_value}
use Rattle.std.proofs.lemmas.List.{take_all}
use Rattle.mage_lex.specs.Limits.{NUMBER_LIMIT}
use Rattle.mage_lex.proofs.Numbers.{value_next, value_over}
use Rattle.mage_lex.proofs.front.value_of.Goals as goal

pub returns-in_err-value : goal.returns-in_err-value
returns-in_err-value c = rw c.from_residual.ensures (value_over c.args.digits.now NUMBER_LIMIT c.loop-digit.digit-index c.loop-digit.value c.loop-digit-test.true c.loop-digit.invariant.0 c.in_err-value.ensures)

pub loop-digit-preserved : goal.loop-digit-preserved
loop-digit-preserved c =
    let told = c.in_ok-value.ensures in
    (value_next c.args.digits.now c.loop-digit.digit-index c.loop-digit.value c.in_ok-value.value c.loop-digit-test.true c.loop-digit.invariant.0 told.1, omega (arith, told.0, told.1))

pub returns : goal.returns
returns c =
    let all : take c.loop-digit.digit-index c.args.digits.now ≡ c.args.digits.now = take_all c.loop-digit.digit-index c.args.digits.now c.loop-digit-test.false in
    let same : c.loop-digit.value ≡ digits_value 10 c.args.digits.now = c.loop-digit.invariant.0 ∙ ap (digits_value 10) all in
    (omega (arith, same), same)
