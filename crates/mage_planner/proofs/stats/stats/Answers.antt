use Rattle.std.proofs.lemmas.Result.{err_from_is_err_and}
use Rattle.mage_words.specs.Answers.{stats_view}
use Rattle.mage_planner.proofs.StepLemmas.{only_source, stats-source, stats-limits, stats-all}
use Rattle.mage_planner.proofs.stats.stats.Goals as goal

pub returns-in_err-loaded-clause-some : goal.returns-in_err-loaded-clause-some
returns-in_err-loaded-clause-some g c =
    let p = err_from_is_err_and c.from_residual.result c.from_residual.ensures.1 in
    let source = c.in_err-loaded.ensures.some in
    (only_source source.0, rw (p.1, p.2) (stats-source (stats_view c.args.stats) source.0 c.in_err-loaded.field-0.0 source.1))

pub returns-in_err-costs-clause-some : goal.returns-in_err-costs-clause-some
returns-in_err-costs-clause-some g c =
    let p = err_from_is_err_and c.from_residual-in_err-costs.result c.from_residual-in_err-costs.ensures.1 in
    let source = c.in_ok-loaded.ensures.some in
    (only_source source.0, rw (p.1, p.2) (stats-limits (stats_view c.args.stats) source.0 c.in_ok-loaded.loaded c.in_err-costs.field-0.0 source.1 c.in_err-costs.ensures.costs))

pub returns-clause-some : goal.returns-clause-some
returns-clause-some g c =
    let source = c.in_ok-loaded.ensures.some in
    let all = stats-all (stats_view c.args.stats) source.0 c.in_ok-loaded.loaded _ source.1 c.in_ok-costs.ensures.costs in
    (only_source source.0, rw (all, ← c.deref.ensures.value) c.summary_text.ensures.text)
