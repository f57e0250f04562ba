use Rattle.std.proofs.Common.{ap, refl}
use Rattle.std.proofs.lemmas.Result.{err_from_is_err_and}
use Rattle.mage_base.specs.Desk.{DeskTold}
use Rattle.mage_planner.specs.Outcome.{eval_outcome}
use Rattle.mage_planner.proofs.StepLemmas.{only_source}
use Rattle.mage_planner.proofs.ProgramLemmas.{memory_alone}
use Rattle.mage_planner.proofs.EvalLemmas.{can_be_evaluated, for_eval, eval_found, eval_told, eval-source, eval-limits, eval-labels, eval-labels-told}
use Rattle.mage_planner.proofs.eval.evaluated.Goals as goal

pub returns-in_err-loaded-clause-some : goal.returns-in_err-loaded-clause-some
returns-in_err-loaded-clause-some g c =
    let p = err_from_is_err_and c.from_residual.result c.from_residual.ensures.1 in
    let source = c.in_err-loaded.ensures.some in
    (only_source source.0, rw (p.1, p.2) (eval-source c.args.request.limits c.args.request.stream.now source.0 c.in_err-loaded.field-0.0 source.1))

pub returns-in_err-planned-clause-some : goal.returns-in_err-planned-clause-some
returns-in_err-planned-clause-some g c =
    let p = err_from_is_err_and c.from_residual-in_err-planned.result c.from_residual-in_err-planned.ensures.1 in
    let source = c.in_ok-loaded.ensures.some in
    (only_source source.0, rw (p.1, p.2) (eval-limits c.args.request.limits c.args.request.stream.now source.0 c.in_ok-loaded.loaded c.in_err-planned.field-0.0 source.1 c.in_err-planned.ensures.program))

pub returns-in_err-parts-clause-some : goal.returns-in_err-parts-clause-some
returns-in_err-parts-clause-some g c =
    let p = err_from_is_err_and c.from_residual-in_err-parts.result c.from_residual-in_err-parts.ensures.1 in
    let source = c.in_ok-loaded.ensures.some in
    (only_source source.0, rw (p.1, p.2) (memory_alone c.in_err-parts.field-0.0 _ (eval_outcome (only_source source.0) c.args.request.limits c.args.request.stream.now) c.in_err-parts.ensures.parts))

pub returns-in_err-labels-clause-some : goal.returns-in_err-labels-clause-some
returns-in_err-labels-clause-some g c =
    let p = err_from_is_err_and c.from_residual-in_err-labels.result c.from_residual-in_err-labels.ensures.1 in
    let source = c.in_ok-loaded.ensures.some in
    let labels = c.in_err-labels.ensures.some in
    (for_eval source.0 labels.0, rw (p.1, p.2) (eval-labels c.args.request.limits c.args.request.stream.now source.0 labels.0 c.in_ok-loaded.loaded _ c.in_err-labels.field-0.0 source.1 c.in_ok-planned.ensures.program labels.1))

pub returns-in_err-labels-clause-told : goal.returns-in_err-labels-clause-told
returns-in_err-labels-clause-told g c =
    let p = err_from_is_err_and c.from_residual-in_err-labels.result c.from_residual-in_err-labels.ensures.1 in
    let rest = c.in_ok-loaded.ensures.rest in
    let files = ap (λ (desk : DeskTold). desk.files) rest in
    let steady = ap (λ (desk : DeskTold). desk.steady) rest in
    rw (p.1, p.2) (eval-labels-told _ _ c.args.request c.in_ok-loaded.loaded c.in_ok-planned.planned.program c.in_err-labels.field-0.0
    c.in_ok-loaded.ensures.told c.in_ok-planned.ensures.program (rw (files, steady) at c.in_err-labels.ensures.told))

pub returns-clause-some : goal.returns-clause-some
returns-clause-some g c =
    let source = c.in_ok-loaded.ensures.some in
    let read = c.in_ok-loaded.ensures.read in
    let labels = c.in_ok-labels.ensures.some in (
      for_eval source.0 labels.0,
      eval_found (record { parts = c.in_ok-parts.parts; labels = c.in_ok-labels.labels; stream = c.args.request.stream })
          c.args.request.limits c.requires.limits read.0 c.in_ok-loaded.loaded c.in_ok-planned.planned.program read.1 c.in_ok-planned.ensures.program
          c.in_ok-parts.ensures.parts labels.0 labels.1 (for_eval source.0 labels.0) refl source.1,
    )

pub returns-clause-told : goal.returns-clause-told
returns-clause-told g c =
    let read = c.in_ok-loaded.ensures.read in
    let files = ap (λ (desk : DeskTold). desk.files) c.in_ok-loaded.ensures.rest in
    eval_told (record { parts = c.in_ok-parts.parts; labels = c.in_ok-labels.labels; stream = c.args.request.stream })
    c.args.request.limits c.requires.limits read.0 c.in_ok-loaded.loaded c.in_ok-planned.planned.program read.1 c.in_ok-planned.ensures.program
    c.in_ok-parts.ensures.parts _ c.args.request refl refl
    c.in_ok-loaded.ensures.told (rw files at c.in_ok-labels.ensures.told)

pub returns-clause-can : goal.returns-clause-can
returns-clause-can g c =
    let read = c.in_ok-loaded.ensures.read in
    let labels = c.in_ok-labels.ensures.some in
    can_be_evaluated (record { parts = c.in_ok-parts.parts; labels = c.in_ok-labels.labels; stream = c.args.request.stream })
    c.args.request.limits c.requires.limits read.0 c.in_ok-loaded.loaded c.in_ok-planned.planned.program read.1 c.in_ok-planned.ensures.program
    c.in_ok-parts.ensures.parts labels.0 labels.1 c.in_ok-parts.ensures.verified
