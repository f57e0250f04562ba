use Rattle.std.proofs.Common.{ap}
use Rattle.mage_words.specs.Words.{bytes_of_words}
use Rattle.mage_planner.specs.Outcome.{outcome_in, outcome_of}
use Rattle.mage_parser.proofs.ReadingLaw.{reading_is_the_grammar}
use Rattle.mage_pipe.proofs.LeastReads.{reads_are_least}
use Rattle.mage_source_runs.proofs.Counting.{plans_move_as_counted}
use Rattle.mage_written.proofs.Files.{plans_are_plans}
use Rattle.mage_planner.proofs.CarriedLemmas.{plans_are_carried}
use Rattle.mage_planner.proofs.UpgradeLemmas.{upgrades_keep_carried, earlier_files_come_to_todays}
use Rattle.mage_planner.proofs.GeneratedFiles.{generated_files_are_found}
use Rattle.mage_planner.proofs.SaysPlainLemmas.{evaluating_says_plain}
use Rattle.mage_planner.proofs.AnswerLemmas.{answered, answered_files, complete_files, steady_files}
use Rattle.mage_planner.proofs.WordsLemmas.{words_done, words_refused}
use Rattle.mage_planner.proofs.top.planner.Goals as goal

pub returns-in-Ok-clause-words : goal.returns-in-Ok-clause-words
returns-in-Ok-clause-words g c = words_done (bytes_of_words c.args.words.now) _ _ c.in-Ok.ensures.some

pub returns-in-Err-clause-words : goal.returns-in-Err-clause-words
returns-in-Err-clause-words g c =
    words_refused c.in-Err.refusal c.refuse.result c.status.result c.status.ensures c.refuse.ensures.same
    (bytes_of_words c.args.words.now) _ _ c.in-Err.ensures.some

pub returns-in-Err-clause-some : goal.returns-in-Err-clause-some
returns-in-Err-clause-some g c =
    let some = c.in-Err.ensures.some in (
      some.0,
      answered _ c.in-Err.refusal c.refuse.result c.status.result c.status.ensures c.refuse.ensures.same _ _ _
          c.refuse.ensures.warns (outcome_of some.0 (bytes_of_words c.args.words.now)) some.1,
    )

pub returns-in-Err-clause-told : goal.returns-in-Err-clause-told
returns-in-Err-clause-told g c =
    answered_files _ c.in-Err.refusal c.refuse.result c.status.result c.status.ensures c.refuse.ensures.same _ _ _
    c.refuse.ensures.warns _ (λ files. outcome_in files (bytes_of_words c.args.words.now)) c.in-Err.ensures.told

pub returns-in-Err-clause-steady : goal.returns-in-Err-clause-steady
returns-in-Err-clause-steady g c = λ steady.
    steady_files _ c.in-Err.refusal c.refuse.result c.status.result c.status.ensures c.refuse.ensures.same _ _ _
    c.refuse.ensures.warns _ (λ files. outcome_in files (bytes_of_words c.args.words.now)) steady
    (ap (λ desk. desk.steady) c.in-Err.ensures.rest) (ap (λ desk. desk.warn_room) c.in-Err.ensures.rest) c.in-Err.ensures.sound
    (c.in-Err.ensures.steady steady) c.in-Err.ensures.told

pub returns-in-Err-clause-complete : goal.returns-in-Err-clause-complete
returns-in-Err-clause-complete g c =
    complete_files _ c.in-Err.refusal c.refuse.result c.status.result c.status.ensures c.refuse.ensures.same _ _ _
    c.refuse.ensures.warns _ (λ files. outcome_in files (bytes_of_words c.args.words.now)) c.in-Err.ensures.told

pub returns-in-Ok-clause-moves : goal.returns-in-Ok-clause-moves
returns-in-Ok-clause-moves g c = plans_move_as_counted

pub returns-in-Err-clause-moves : goal.returns-in-Err-clause-moves
returns-in-Err-clause-moves g c = plans_move_as_counted

pub returns-in-Ok-clause-reading : goal.returns-in-Ok-clause-reading
returns-in-Ok-clause-reading g c = reading_is_the_grammar

pub returns-in-Err-clause-reading : goal.returns-in-Err-clause-reading
returns-in-Err-clause-reading g c = reading_is_the_grammar

pub returns-in-Ok-clause-fewest : goal.returns-in-Ok-clause-fewest
returns-in-Ok-clause-fewest g c = reads_are_least

pub returns-in-Err-clause-fewest : goal.returns-in-Err-clause-fewest
returns-in-Err-clause-fewest g c = reads_are_least

pub returns-in-Ok-clause-plans : goal.returns-in-Ok-clause-plans
returns-in-Ok-clause-plans g c = plans_are_plans

pub returns-in-Err-clause-plans : goal.returns-in-Err-clause-plans
returns-in-Err-clause-plans g c = plans_are_plans

pub returns-in-Ok-clause-carried : goal.returns-in-Ok-clause-carried
returns-in-Ok-clause-carried g c = plans_are_carried

pub returns-in-Err-clause-carried : goal.returns-in-Err-clause-carried
returns-in-Err-clause-carried g c = plans_are_carried

pub returns-in-Ok-clause-upgrades : goal.returns-in-Ok-clause-upgrades
returns-in-Ok-clause-upgrades g c = upgrades_keep_carried

pub returns-in-Err-clause-upgrades : goal.returns-in-Err-clause-upgrades
returns-in-Err-clause-upgrades g c = upgrades_keep_carried

pub returns-in-Ok-clause-earlier : goal.returns-in-Ok-clause-earlier
returns-in-Ok-clause-earlier g c = earlier_files_come_to_todays

pub returns-in-Err-clause-earlier : goal.returns-in-Err-clause-earlier
returns-in-Err-clause-earlier g c = earlier_files_come_to_todays

pub returns-in-Ok-clause-generated : goal.returns-in-Ok-clause-generated
returns-in-Ok-clause-generated g c = generated_files_are_found

pub returns-in-Err-clause-generated : goal.returns-in-Err-clause-generated
returns-in-Err-clause-generated g c = generated_files_are_found

pub returns-in-Ok-clause-evaluated : goal.returns-in-Ok-clause-evaluated
returns-in-Ok-clause-evaluated g c = evaluating_says_plain

pub returns-in-Err-clause-evaluated : goal.returns-in-Err-clause-evaluated
returns-in-Err-clause-evaluated g c = evaluating_says_plain
