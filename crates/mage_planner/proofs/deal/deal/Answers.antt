use Rattle.std.proofs.Common.{ap, ◌∙◌}
use Rattle.std.proofs.lemmas.Result.{err_from_is_err_and}
use Rattle.mage_base.specs.Desk.{DeskTold}
use Rattle.mage_words.specs.Answers.{deal_view}
use Rattle.mage_planner.specs.Found.{Absent}
use Rattle.mage_planner.proofs.StepLemmas.{only_source, for_deal, deal-source, deal-evaluator, deal-seed, deal-seed-told, deal-all}
use Rattle.mage_planner.proofs.deal.deal.Goals as goal

pub returns-in_err-loaded-clause-some : goal.returns-in_err-loaded-clause-some
returns-in_err-loaded-clause-some g c =
    let p = err_from_is_err_and c.from_residual.result c.from_residual.ensures.1 in
    let source = c.in_err-loaded.ensures.some in
    (only_source source.0, rw (p.1, p.2) (deal-source (deal_view c.args.deal) source.0 c.in_err-loaded.field-0.0 source.1))

pub returns-in_err-evaluator-clause-some : goal.returns-in_err-evaluator-clause-some
returns-in_err-evaluator-clause-some g c =
    let p = err_from_is_err_and c.from_residual-in_err-evaluator.result c.from_residual-in_err-evaluator.ensures.1 in
    let source = c.in_ok-loaded.ensures.some in
    let evaluator = c.in_err-evaluator.ensures.some in
    (for_deal source.0 evaluator.0 Absent, rw (p.1, p.2) (deal-evaluator (deal_view c.args.deal) source.0 evaluator.0 c.in_ok-loaded.loaded c.in_err-evaluator.field-0.0 source.1 evaluator.1))

pub returns-in_err-seed-clause-some : goal.returns-in_err-seed-clause-some
returns-in_err-seed-clause-some g c =
    let p = err_from_is_err_and c.from_residual-in_err-seed.result c.from_residual-in_err-seed.ensures.1 in
    let source = c.in_ok-loaded.ensures.some in
    let evaluator = c.in_ok-evaluator.ensures.some in
    let seed = c.in_err-seed.ensures.some in
    (for_deal source.0 evaluator.0 seed.0, rw (p.1, p.2) (deal-seed (deal_view c.args.deal) source.0 evaluator.0 seed.0 c.in_ok-loaded.loaded _ c.in_err-seed.field-0.0 source.1 evaluator.1 seed.1))

pub returns-clause-some : goal.returns-clause-some
returns-clause-some g c =
    let source = c.in_ok-loaded.ensures.some in
    let evaluator = c.in_ok-evaluator.ensures.some in
    let seed = c.in_ok-seed.ensures.some in
    (for_deal source.0 evaluator.0 seed.0, deal-all (deal_view c.args.deal) source.0 evaluator.0 seed.0 c.in_ok-loaded.loaded _ _ source.1 evaluator.1 seed.1)

pub returns-in_err-seed-clause-told : goal.returns-in_err-seed-clause-told
returns-in_err-seed-clause-told g c =
    let p = err_from_is_err_and c.from_residual-in_err-seed.result c.from_residual-in_err-seed.ensures.1 in
    let first = c.in_ok-loaded.ensures.rest in
    let second = c.in_ok-evaluator.ensures.rest in
    let files = ap (λ (desk : DeskTold). desk.files) first in
    let files_too = ap (λ (desk : DeskTold). desk.files) second ∙ files in
    let steady = ap (λ (desk : DeskTold). desk.steady) second ∙ ap (λ (desk : DeskTold). desk.steady) first in
    rw (p.1, p.2) (deal-seed-told _ _ (deal_view c.args.deal) c.in_ok-loaded.loaded _ c.in_err-seed.field-0.0
    c.in_ok-loaded.ensures.told (rw files at c.in_ok-evaluator.ensures.told) (rw (files_too, steady) at c.in_err-seed.ensures.told))
