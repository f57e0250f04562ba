use Rattle.std.proofs.lemmas.Result.{err_from_is_err_and}
use Rattle.mage_words.specs.Answers.{plan_view}
use Rattle.mage_planner.specs.Outcome.{plan_outcome}
use Rattle.mage_planner.proofs.StepLemmas.{only_source}
use Rattle.mage_planner.proofs.ProgramLemmas.{memory_alone, plan-source, plan-program, plan-all, plans_written}
use Rattle.mage_planner.proofs.plan.plan.Goals as goal

pub returns-in_err-loaded-clause-some : goal.returns-in_err-loaded-clause-some
returns-in_err-loaded-clause-some g c =
    let p = err_from_is_err_and c.from_residual.result c.from_residual.ensures.1 in
    let source = c.in_err-loaded.ensures.some in
    (only_source source.0, rw (p.1, p.2) (plan-source (plan_view c.args.plan) source.0 c.in_err-loaded.field-0.0 source.1))

pub returns-in_err-planned-clause-some : goal.returns-in_err-planned-clause-some
returns-in_err-planned-clause-some g c =
    let p = err_from_is_err_and c.from_residual-in_err-planned.result c.from_residual-in_err-planned.ensures.1 in
    let source = c.in_ok-loaded.ensures.some in
    (only_source source.0, rw (p.1, p.2) (plan-program (plan_view c.args.plan) source.0 c.in_ok-loaded.loaded c.in_err-planned.field-0.0 source.1 c.in_err-planned.ensures.program))

pub returns-in_err-bytes-clause-some : goal.returns-in_err-bytes-clause-some
returns-in_err-bytes-clause-some g c =
    let p = err_from_is_err_and c.from_residual-in_err-bytes.result c.from_residual-in_err-bytes.ensures.1 in
    let source = c.in_ok-loaded.ensures.some in
    (only_source source.0, rw (p.1, p.2) (memory_alone c.in_err-bytes.field-0.0 _ (plan_outcome (only_source source.0) (plan_view c.args.plan)) c.in_err-bytes.ensures.bytes))

pub returns-in_err-text-clause-some : goal.returns-in_err-text-clause-some
returns-in_err-text-clause-some g c =
    let p = err_from_is_err_and c.from_residual-in_err-text.result c.from_residual-in_err-text.ensures.1 in
    let source = c.in_ok-loaded.ensures.some in
    (only_source source.0, rw (p.1, p.2) (memory_alone c.in_err-text.field-0.0 _ (plan_outcome (only_source source.0) (plan_view c.args.plan)) c.in_err-text.ensures.text))

pub returns-clause-some : goal.returns-clause-some
returns-clause-some g c =
    let source = c.in_ok-loaded.ensures.some in
    let all = plan-all (plan_view c.args.plan) source.0 c.in_ok-loaded.loaded c.in_ok-planned.planned.program _ source.1 c.in_ok-planned.ensures.program c.in_ok-planned.ensures.costs in (
      only_source source.0,
      rw all (plans_written c.args.plan.out.now c.in_ok-planned.planned.program _ c.in_ok-bytes.bytes.items c.in_ok-text.text.items
          c.in_ok-bytes.ensures.bytes (rw c.deref.ensures.value at c.in_ok-text.ensures.text)),
    )
