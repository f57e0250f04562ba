use Rattle.std.proofs.Common.{ap}
use Rattle.std.proofs.lemmas.Result.{err_from_is_err_and}
use Rattle.mage_base.specs.Desk.{DeskTold}
use Rattle.mage_words.specs.Answers.{check_view}
use Rattle.mage_planner.proofs.StepLemmas.{only_source}
use Rattle.mage_planner.proofs.ProgramLemmas.{for_check, check-source, check-program, check-carry, check-carry-told, check-all}
use Rattle.mage_planner.proofs.check.check.Goals as goal

pub returns-in_err-loaded-clause-some : goal.returns-in_err-loaded-clause-some
returns-in_err-loaded-clause-some g c =
    let p = err_from_is_err_and c.from_residual.result c.from_residual.ensures.1 in
    let source = c.in_err-loaded.ensures.some in
    (only_source source.0, rw (p.1, p.2) (check-source (check_view c.args.check) source.0 c.in_err-loaded.field-0.0 source.1))

pub returns-in_err-plan-clause-some : goal.returns-in_err-plan-clause-some
returns-in_err-plan-clause-some g c =
    let p = err_from_is_err_and c.from_residual-in_err-plan.result c.from_residual-in_err-plan.ensures.1 in
    let source = c.in_ok-loaded.ensures.some in
    let program = c.in_err-plan.ensures.some in
    (for_check source.0 program.0, rw (p.1, p.2) (check-program (check_view c.args.check) source.0 program.0 c.in_ok-loaded.loaded c.in_err-plan.field-0.0 source.1 program.1))

pub returns-in_err-carry-clause-some : goal.returns-in_err-carry-clause-some
returns-in_err-carry-clause-some g c =
    let p = err_from_is_err_and c.from_residual-in_err-carry.result c.from_residual-in_err-carry.ensures.1 in
    let source = c.in_ok-loaded.ensures.some in
    let program = c.in_ok-plan.ensures.some in
    (for_check source.0 program.0, rw (p.1, p.2) (check-carry (check_view c.args.check) source.0 program.0 c.in_ok-loaded.loaded c.in_ok-plan.plan c.in_err-carry.field-0.0 source.1 program.1 c.in_err-carry.ensures.carry))

pub returns-in_err-carry-clause-told : goal.returns-in_err-carry-clause-told
returns-in_err-carry-clause-told g c =
    let p = err_from_is_err_and c.from_residual-in_err-carry.result c.from_residual-in_err-carry.ensures.1 in
    let files = ap (λ (desk : DeskTold). desk.files) c.in_ok-loaded.ensures.rest in
    rw (p.1, p.2) (check-carry-told _ _ (check_view c.args.check) c.in_ok-loaded.loaded c.in_ok-plan.plan c.in_err-carry.field-0.0
    c.in_ok-loaded.ensures.told (rw files at c.in_ok-plan.ensures.told) c.in_err-carry.ensures.carry)

pub returns-clause-some : goal.returns-clause-some
returns-clause-some g c =
    let source = c.in_ok-loaded.ensures.some in
    let program = c.in_ok-plan.ensures.some in
    let all = check-all (check_view c.args.check) source.0 program.0 c.in_ok-loaded.loaded c.in_ok-plan.plan c.in_ok-carry.carry source.1 program.1 c.in_ok-carry.ensures.carry in
    (for_check source.0 program.0, rw all c.carry_text.ensures.text)
