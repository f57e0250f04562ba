use Rattle.std.proofs.lemmas.Result.{err_from_is_err_and}
use Rattle.mage_words.specs.Words.{bytes_of_words}
use Rattle.mage_planner.specs.Found.{Absent}
use Rattle.mage_planner.proofs.StepLemmas.{only_source, work-words}
use Rattle.mage_planner.proofs.command.work.Goals as goal

pub returns-in_err-request-clause-some : goal.returns-in_err-request-clause-some
returns-in_err-request-clause-some g c =
    let p = err_from_is_err_and c.from_residual.result c.from_residual.ensures.1 in
    (only_source Absent, rw (p.1, p.2) (work-words (only_source Absent) (bytes_of_words c.args.words.now) c.in_err-request.field-0.0 c.in_err-request.ensures.asked))
