use Rattle.std.proofs.Common.{subst}
use Rattle.std.proofs.lemmas.Option.{IfSome_then}
use Rattle.std.proofs.lemmas.Result.{err_from_is_err_and}
use Rattle.mage_base.specs.Desk.{DeskTold}
use Rattle.mage_words.specs.Words.{bytes_of_words}
use Rattle.mage_planner.specs.Answer.{StoresAreSound}
use Rattle.mage_planner.specs.Outcome.{outcome_in, outcome_of}
use Rattle.mage_planner.specs.Steps.{Refuses}
use Rattle.mage_planner.specs.Work.{IsWorkOf}
use Rattle.mage_planner.specs.Writing.{Performs}
use Rattle.mage_planner.proofs.PerformLemmas.{changes, counts, leaves_files, leaves_stores, refused, refused_steady, steady_told, work_counted, unread, works, works_told}
use Rattle.mage_planner.proofs.WordsLemmas.{moves_none_of, no_store_fault, writes_none_of}
use Rattle.mage_planner.proofs.ReadsLemmas.{reads_own}
use Rattle.mage_planner.proofs.top.run.Goals as goal

pub returns-clause-told : goal.returns-clause-told
returns-clause-told g c =
    let same = unread _ _ c.in_ok-work.ensures.rest c.in_ok-work.ensures.cause in
    works_told (g.D.Desk.tells c.args.desk.now) (g.D.Desk.tells c.perform.new.desk) (IsWorkOf c.in_ok-work.work) _ _
    (λ files. outcome_in files (bytes_of_words c.args.words.now)) c.perform.result c.in_ok-work.ensures.told
    (λ done is. subst (λ (desk : DeskTold). Performs done c.perform.result desk (g.D.Desk.tells c.perform.new.desk)) same (c.perform.ensures.performs done is))

pub returns-clause-some : goal.returns-clause-some
returns-clause-some g c =
    let same = unread _ _ c.in_ok-work.ensures.rest c.in_ok-work.ensures.cause in
    let found = c.in_ok-work.ensures.some in (
      found.0,
      works found.1.0 _ _ _ (outcome_of found.0 (bytes_of_words c.args.words.now)) c.perform.result found.1.2
          (subst (λ (desk : DeskTold). Performs found.1.0 c.perform.result desk (g.D.Desk.tells c.perform.new.desk)) same (c.perform.ensures.performs found.1.0 found.1.1)),
    )

pub returns-clause-cause : goal.returns-clause-cause
returns-clause-cause g c =
    let same = unread _ _ c.in_ok-work.ensures.rest c.in_ok-work.ensures.cause in
    let found = c.in_ok-work.ensures.some in
    counts found.1.0 _ _ c.perform.result
    (subst (λ (desk : DeskTold). Performs found.1.0 c.perform.result desk (g.D.Desk.tells c.perform.new.desk)) same (c.perform.ensures.performs found.1.0 found.1.1))

pub returns-clause-steady : goal.returns-clause-steady
returns-clause-steady g c = λ steady.
    let same = unread _ _ c.in_ok-work.ensures.rest c.in_ok-work.ensures.cause in
    let mid = c.perform.ensures.steady in
    steady_told (g.D.Desk.tells c.args.desk.now) (g.D.Desk.tells c.perform.new.desk) (IsWorkOf c.in_ok-work.work) (g.D.Desk.tells c.args.desk.now).files
    (λ files. outcome_in files (bytes_of_words c.args.words.now)) c.perform.result
    c.in_ok-work.ensures.told (λ done is. rw same at (mid done is) steady) (reads_own (bytes_of_words c.args.words.now))

pub returns-clause-sound : goal.returns-clause-sound
returns-clause-sound g c = λ none.
    let same = unread _ _ c.in_ok-work.ensures.rest c.in_ok-work.ensures.cause in
    subst (λ (desk : DeskTold). StoresAreSound desk (g.D.Desk.tells c.perform.new.desk)) same (c.perform.ensures.sound none)

pub returns-clause-stores : goal.returns-clause-stores
returns-clause-stores g c = λ none.
    let same = unread _ _ c.in_ok-work.ensures.rest c.in_ok-work.ensures.cause in
    let found = c.in_ok-work.ensures.some in
    leaves_stores found.1.0 _ _ c.perform.result
    (subst (λ (desk : DeskTold). Performs found.1.0 c.perform.result desk (g.D.Desk.tells c.perform.new.desk)) same (c.perform.ensures.performs found.1.0 found.1.1))
    (moves_none_of found.0 (bytes_of_words c.args.words.now) found.1.0 none found.1.2)

pub returns-clause-rest : goal.returns-clause-rest
returns-clause-rest g c =
    let same = unread _ _ c.in_ok-work.ensures.rest c.in_ok-work.ensures.cause in
    let found = c.in_ok-work.ensures.some in
    changes found.1.0 _ _ c.perform.result
    (subst (λ (desk : DeskTold). Performs found.1.0 c.perform.result desk (g.D.Desk.tells c.perform.new.desk)) same (c.perform.ensures.performs found.1.0 found.1.1))

pub returns-clause-files : goal.returns-clause-files
returns-clause-files g c = λ none.
    let same = unread _ _ c.in_ok-work.ensures.rest c.in_ok-work.ensures.cause in
    let found = c.in_ok-work.ensures.some in
    leaves_files found.1.0 _ _ c.perform.result
    (subst (λ (desk : DeskTold). Performs found.1.0 c.perform.result desk (g.D.Desk.tells c.perform.new.desk)) same (c.perform.ensures.performs found.1.0 found.1.1))
    (writes_none_of found.0 (bytes_of_words c.args.words.now) found.1.0 none found.1.2)

pub returns-in_err-work-clause-told : goal.returns-in_err-work-clause-told
returns-in_err-work-clause-told g c =
    let p = err_from_is_err_and c.from_residual.result c.from_residual.ensures.1 in
    let why = c.in_err-work.field-0.0 in
    rw (p.1, p.2) (IfSome_then (g.D.Desk.tells c.args.desk.now).files
    {P = λ files. Refuses (g.D.Desk.tells c.args.desk.now).steady why (outcome_in files (bytes_of_words c.args.words.now))}
    c.in_err-work.ensures.told
    (λ files h. refused _ (outcome_in files (bytes_of_words c.args.words.now)) why (g.D.Desk.tells c.args.desk.now) (g.D.Desk.tells c.work.new.desk)
    (no_store_fault _ (bytes_of_words c.args.words.now) why) h c.in_err-work.ensures.cause c.in_err-work.ensures.rest))

pub returns-in_err-work-clause-some : goal.returns-in_err-work-clause-some
returns-in_err-work-clause-some g c =
    let p = err_from_is_err_and c.from_residual.result c.from_residual.ensures.1 in
    let why = c.in_err-work.field-0.0 in
    let found = c.in_err-work.ensures.some in (
      found.0,
      rw (p.1, p.2) (refused _ (outcome_of found.0 (bytes_of_words c.args.words.now)) why (g.D.Desk.tells c.args.desk.now) (g.D.Desk.tells c.work.new.desk)
          (no_store_fault found.0 (bytes_of_words c.args.words.now) why) found.1 c.in_err-work.ensures.cause c.in_err-work.ensures.rest),
    )

pub returns-in_err-work-clause-steady : goal.returns-in_err-work-clause-steady
returns-in_err-work-clause-steady g c = λ steady.
    let p = err_from_is_err_and c.from_residual.result c.from_residual.ensures.1 in
    let why = c.in_err-work.field-0.0 in
    rw (p.1, p.2) (IfSome_then (g.D.Desk.tells c.args.desk.now).files
    {P = λ files. Refuses (g.D.Desk.tells c.args.desk.now).steady why (outcome_in files (bytes_of_words c.args.words.now))}
    c.in_err-work.ensures.told
    (λ files h found has tells fine. refused_steady _ why (outcome_in files (bytes_of_words c.args.words.now)) _ _ steady h c.in_err-work.ensures.cause found))

pub returns-in_err-work-clause-cause : goal.returns-in_err-work-clause-cause
returns-in_err-work-clause-cause g c =
    let p = err_from_is_err_and c.from_residual.result c.from_residual.ensures.1 in
    rw (p.1, p.2) (work_counted c.in_err-work.field-0.0 _ _ c.in_err-work.ensures.cause)
