use Rattle.std.proofs.Common.{rules, inr}
use Rattle.std.proofs.lemmas.Result.{err_from_is_err_and}
use Rattle.mage_verify.specs.Tables.{state_in}
use Rattle.mage_verify.proofs.Walked.{directive_stops, directive_goes_on}
use Rattle.mage_verify.proofs.verifying.check_part.Goals as goal

pub returns-in_err-check-clause-fault : goal.returns-in_err-check-clause-fault
returns-in_err-check-clause-fault c =
    let p = err_from_is_err_and c.from_residual-in_err-check.result c.from_residual-in_err-check.ensures.1 in
    rw (p.1, p.2) (inr (directive_stops c.args.limits c.args.pages c.args.worker c.loop-d.d (state_in c.loop-d.swaps) c.args.directives.now _ c.loop-d.invariant.rest _ c.loop-d-test.true _ c.in_err-check.ensures.fault))

pub loop-d-preserved : goal.loop-d-preserved
loop-d-preserved c = record {
  kept = search rules;
  rest = directive_goes_on c.args.limits c.args.pages c.args.worker c.loop-d.d (state_in c.loop-d.swaps) c.args.directives.now _ c.loop-d.invariant.rest _ c.loop-d-test.true (state_in c.apply.new.self) c.in_ok-check.ensures.none (search rules);
}
