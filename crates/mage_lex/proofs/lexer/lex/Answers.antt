-- The loop begins at the first byte, and ends at the last or at the first fault.
use Rattle.std.proofs.Common.{arith}
use Rattle.std.proofs.lemmas.Result.{err_from_is_err_and}
use Rattle.mage_lex.specs.Tokens.{tokens_from}
use Rattle.mage_lex.proofs.GapLemmas.{tokens_gaps}
use Rattle.mage_lex.proofs.LawLemmas.{tokens_spelled, tokens_in_order, not_too_long}
use Rattle.mage_lex.proofs.TokenLemmas.{place_first, in_front_none, all_read, fault_read}
use Rattle.mage_lex.proofs.lexer.lex.Goals as goal

pub loop-place-init : goal.loop-place-init
loop-place-init c = record {
  place = place_first c.args.text.now;
  within = omega arith;
  tokens = rw c.new-tokens.ensures.items (in_front_none (tokens_from c.args.text.now 0));
}

pub returns-in_err-place-clause-fault : goal.returns-in_err-place-clause-fault
returns-in_err-place-clause-fault c =
    let left = err_from_is_err_and c.from_residual.result c.from_residual.ensures.1 in
    rw (left.1, left.2) (fault_read c.args.text.now c.loop-place.tokens.items c.loop-place.place.start _ c.in_err-place.ensures.fault c.loop-place.invariant.tokens c.if-text-gt-MOST_BYTES.false)

pub returns-in_err-place-clause-too_long : goal.returns-in_err-place-clause-too_long
returns-in_err-place-clause-too_long c =
    let left = err_from_is_err_and c.from_residual.result c.from_residual.ensures.1 in
    let is = rw left.2 at left.1 in
    (λ same. absurd (not_too_long c.args.text.now c.loop-place.place.start _ _ c.from_residual.result c.in_err-place.ensures.fault is same), λ long. absurd (omega (arith, long, c.if-text-gt-MOST_BYTES.false)))

pub returns-clause-tokens : goal.returns-clause-tokens
returns-clause-tokens c = all_read c.args.text.now c.loop-place.tokens.items c.loop-place.place.start c.loop-place-test.false c.loop-place.invariant.tokens c.if-text-gt-MOST_BYTES.false

pub returns-clause-spelled : goal.returns-clause-spelled
returns-clause-spelled c = tokens_spelled c.args.text.now c.loop-place.tokens.items (all_read c.args.text.now c.loop-place.tokens.items c.loop-place.place.start c.loop-place-test.false c.loop-place.invariant.tokens c.if-text-gt-MOST_BYTES.false)

pub returns-clause-order : goal.returns-clause-order
returns-clause-order c = tokens_in_order c.args.text.now c.loop-place.tokens.items (all_read c.args.text.now c.loop-place.tokens.items c.loop-place.place.start c.loop-place-test.false c.loop-place.invariant.tokens c.if-text-gt-MOST_BYTES.false)

pub returns-clause-gaps : goal.returns-clause-gaps
returns-clause-gaps c = tokens_gaps c.args.text.now c.loop-place.tokens.items (all_read c.args.text.now c.loop-place.tokens.items c.loop-place.place.start c.loop-place-test.false c.loop-place.invariant.tokens c.if-text-gt-MOST_BYTES.false)
