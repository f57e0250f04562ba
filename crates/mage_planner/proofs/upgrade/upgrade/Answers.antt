use Rattle.std.proofs.lemmas.Result.{err_from_is_err_and}
use Rattle.mage_words.specs.Answers.{upgrade_view}
use Rattle.mage_planner.specs.Outcome.{upgrade_outcome}
use Rattle.mage_planner.proofs.ProgramLemmas.{memory_alone, only_program, upgrade-program, upgrade-fault, upgrade-all, upgrades_written}
use Rattle.mage_planner.proofs.upgrade.upgrade.Goals as goal

pub returns-in_err-program-clause-some : goal.returns-in_err-program-clause-some
returns-in_err-program-clause-some g c =
    let p = err_from_is_err_and c.from_residual.result c.from_residual.ensures.1 in
    let file = c.in_err-program.ensures.some in
    (only_program file.0, rw (p.1, p.2) (upgrade-program (upgrade_view c.args.upgrade) file.0 c.in_err-program.field-0.0 file.1))

pub returns-in_err-program-2-clause-some : goal.returns-in_err-program-2-clause-some
returns-in_err-program-2-clause-some g c =
    let p = err_from_is_err_and c.from_residual-in_err-program-2.result c.from_residual-in_err-program-2.ensures.1 in
    let file = c.in_ok-program.ensures.some in
    (only_program file.0, rw (p.1, p.2) (upgrade-fault (upgrade_view c.args.upgrade) file.0 c.in_ok-program.program c.in_err-program-2.field-0.0 file.1 c.in_err-program-2.ensures.program))

pub returns-in_err-bytes-clause-some : goal.returns-in_err-bytes-clause-some
returns-in_err-bytes-clause-some g c =
    let p = err_from_is_err_and c.from_residual-in_err-bytes.result c.from_residual-in_err-bytes.ensures.1 in
    let file = c.in_ok-program.ensures.some in
    (only_program file.0, rw (p.1, p.2) (memory_alone c.in_err-bytes.field-0.0 _ (upgrade_outcome (only_program file.0) (upgrade_view c.args.upgrade)) c.in_err-bytes.ensures.bytes))

pub returns-clause-some : goal.returns-clause-some
returns-clause-some g c =
    let file = c.in_ok-program.ensures.some in
    let all = upgrade-all (upgrade_view c.args.upgrade) file.0 c.in_ok-program.program c.in_ok-program-2.program file.1 c.in_ok-program-2.ensures.program in (
      only_program file.0,
      rw all (upgrades_written c.args.upgrade.out.now c.in_ok-program-2.program c.in_ok-bytes.bytes.items c.new.result.items
          c.in_ok-bytes.ensures.bytes c.new.ensures.items),
    )
