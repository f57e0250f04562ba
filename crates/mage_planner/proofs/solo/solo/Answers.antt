use Rattle.std.proofs.Common.{ap, refl, ◌∙◌}
use Rattle.std.proofs.lemmas.Result.{err_from_is_err_and}
use Rattle.mage_base.specs.Desk.{DeskTold}
use Rattle.mage_words.specs.Answers.{solo_view}
use Rattle.mage_planner.specs.Outcome.{solo_outcome}
use Rattle.mage_planner.proofs.StepLemmas.{only_source, source_garbler, all_three, solo-source, solo-limits, solo-garbler, solo-evaluator, solo-evaluator-told}
use Rattle.mage_planner.proofs.ProgramLemmas.{memory_alone}
use Rattle.mage_planner.proofs.SoloLemmas.{can_be_run, run_found, run_told}
use Rattle.mage_planner.proofs.solo.solo.Goals as goal

pub returns-in_err-loaded-clause-some : goal.returns-in_err-loaded-clause-some
returns-in_err-loaded-clause-some g c =
    let p = err_from_is_err_and c.from_residual.result c.from_residual.ensures.1 in
    let source = c.in_err-loaded.ensures.some in
    (only_source source.0, rw (p.1, p.2) (solo-source (solo_view c.args.solo) source.0 c.in_err-loaded.field-0.0 source.1))

pub returns-in_err-planned-clause-some : goal.returns-in_err-planned-clause-some
returns-in_err-planned-clause-some g c =
    let p = err_from_is_err_and c.from_residual-in_err-planned.result c.from_residual-in_err-planned.ensures.1 in
    let source = c.in_ok-loaded.ensures.some in
    (only_source source.0, rw (p.1, p.2) (solo-limits (solo_view c.args.solo) source.0 c.in_ok-loaded.loaded c.in_err-planned.field-0.0 source.1 c.in_err-planned.ensures.program))

pub returns-in_err-parts-clause-some : goal.returns-in_err-parts-clause-some
returns-in_err-parts-clause-some g c =
    let p = err_from_is_err_and c.from_residual-in_err-parts.result c.from_residual-in_err-parts.ensures.1 in
    let source = c.in_ok-loaded.ensures.some in
    (only_source source.0, rw (p.1, p.2) (memory_alone c.in_err-parts.field-0.0 _ (solo_outcome (only_source source.0) (solo_view c.args.solo)) c.in_err-parts.ensures.parts))

pub returns-in_err-garbler-clause-some : goal.returns-in_err-garbler-clause-some
returns-in_err-garbler-clause-some g c =
    let p = err_from_is_err_and c.from_residual-in_err-garbler.result c.from_residual-in_err-garbler.ensures.1 in
    let source = c.in_ok-loaded.ensures.some in
    let garbler = c.in_err-garbler.ensures.some in
    (source_garbler source.0 garbler.0, rw (p.1, p.2) (solo-garbler (solo_view c.args.solo) source.0 garbler.0 c.in_ok-loaded.loaded _ c.in_err-garbler.field-0.0 source.1 c.in_ok-planned.ensures.program garbler.1))

pub returns-in_err-evaluator-clause-some : goal.returns-in_err-evaluator-clause-some
returns-in_err-evaluator-clause-some g c =
    let p = err_from_is_err_and c.from_residual-in_err-evaluator.result c.from_residual-in_err-evaluator.ensures.1 in
    let source = c.in_ok-loaded.ensures.some in
    let garbler = c.in_ok-garbler.ensures.some in
    let evaluator = c.in_err-evaluator.ensures.some in
    (all_three source.0 garbler.0 evaluator.0, rw (p.1, p.2) (solo-evaluator (solo_view c.args.solo) source.0 garbler.0 evaluator.0 c.in_ok-loaded.loaded _ _ c.in_err-evaluator.field-0.0 source.1 c.in_ok-planned.ensures.program garbler.1 evaluator.1))

pub returns-clause-some : goal.returns-clause-some
returns-clause-some g c =
    let source = c.in_ok-loaded.ensures.some in
    let read = c.in_ok-loaded.ensures.read in
    let garbler = c.in_ok-garbler.ensures.some in
    let evaluator = c.in_ok-evaluator.ensures.some in (
      all_three source.0 garbler.0 evaluator.0,
      run_found (record { parts = c.in_ok-parts.parts; garbler = c.in_ok-garbler.garbler; evaluator = c.in_ok-evaluator.evaluator })
          c.args.solo.limits c.requires.limits read.0 c.in_ok-loaded.loaded c.in_ok-planned.planned.program read.1 c.in_ok-planned.ensures.program
          c.in_ok-parts.ensures.parts c.in_ok-garbler.ensures.fit c.in_ok-evaluator.ensures.fit (solo_view c.args.solo) (all_three source.0 garbler.0 evaluator.0)
          refl source.1 garbler.1 evaluator.1,
    )

pub returns-clause-told : goal.returns-clause-told
returns-clause-told g c =
    let read = c.in_ok-loaded.ensures.read in
    let files = ap (λ (desk : DeskTold). desk.files) c.in_ok-loaded.ensures.rest in
    let files_too = ap (λ (desk : DeskTold). desk.files) c.in_ok-garbler.ensures.rest ∙ files in
    run_told (record { parts = c.in_ok-parts.parts; garbler = c.in_ok-garbler.garbler; evaluator = c.in_ok-evaluator.evaluator })
    c.args.solo.limits c.requires.limits read.0 c.in_ok-loaded.loaded c.in_ok-planned.planned.program read.1 c.in_ok-planned.ensures.program
    c.in_ok-parts.ensures.parts c.in_ok-garbler.ensures.fit c.in_ok-evaluator.ensures.fit _ (solo_view c.args.solo) refl
    c.in_ok-loaded.ensures.told (rw (files, c.garbler_of-garbler.ensures) at c.in_ok-garbler.ensures.told) (rw (files_too, c.evaluator_of-evaluator.ensures) at c.in_ok-evaluator.ensures.told)

pub returns-in_err-evaluator-clause-told : goal.returns-in_err-evaluator-clause-told
returns-in_err-evaluator-clause-told g c =
    let p = err_from_is_err_and c.from_residual-in_err-evaluator.result c.from_residual-in_err-evaluator.ensures.1 in
    let first = c.in_ok-loaded.ensures.rest in
    let second = c.in_ok-garbler.ensures.rest in
    let files = ap (λ (desk : DeskTold). desk.files) first in
    let files_too = ap (λ (desk : DeskTold). desk.files) second ∙ files in
    let steady = ap (λ (desk : DeskTold). desk.steady) second ∙ ap (λ (desk : DeskTold). desk.steady) first in
    rw (p.1, p.2) (solo-evaluator-told _ _ (solo_view c.args.solo) c.in_ok-loaded.loaded c.in_ok-planned.planned.program _ c.in_err-evaluator.field-0.0
    c.in_ok-loaded.ensures.told c.in_ok-planned.ensures.program (rw (files, c.garbler_of-garbler.ensures) at c.in_ok-garbler.ensures.told)
    (rw (files_too, steady, c.evaluator_of-evaluator.ensures) at c.in_err-evaluator.ensures.told))

pub returns-clause-can : goal.returns-clause-can
returns-clause-can g c =
    let read = c.in_ok-loaded.ensures.read in
    can_be_run (record { parts = c.in_ok-parts.parts; garbler = c.in_ok-garbler.garbler; evaluator = c.in_ok-evaluator.evaluator })
    c.args.solo.limits c.requires.limits read.0 c.in_ok-loaded.loaded c.in_ok-planned.planned.program read.1 c.in_ok-planned.ensures.program
    c.in_ok-parts.ensures.parts c.in_ok-garbler.ensures.fit c.in_ok-evaluator.ensures.fit c.in_ok-parts.ensures.verified
