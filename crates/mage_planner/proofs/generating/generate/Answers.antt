use Rattle.std.proofs.Common.{ap, length}
use Rattle.std.proofs.lemmas.Result.{err_from_is_err_and}
use Rattle.mage_base.specs.Desk.{DeskTold}
use Rattle.mage_planner.specs.Outcome.{Done}
use Rattle.mage_planner.specs.Work.{files_by}
use Rattle.mage_planner.proofs.GeneratingLemmas.{written_first, not_written, not_written_sound, sound_first}
use Rattle.mage_planner.proofs.generating.generate.Goals as goal

pub returns-in_err-write_generated-clause-performs : goal.returns-in_err-write_generated-clause-performs
returns-in_err-write_generated-clause-performs g c = λ done is.
    let p = err_from_is_err_and c.from_residual.result c.from_residual.ensures.1 in
    let own = not_written (files_by c.args.generating) c.args.generating.summary.items is.run c.in_err-write_generated.field-0.0 _ _ c.in_err-write_generated.ensures.writes in
    rw (p.1, p.2, is.is) own

pub returns-in_err-write_generated-clause-sound : goal.returns-in_err-write_generated-clause-sound
returns-in_err-write_generated-clause-sound g c = λ none.
    not_written_sound (files_by c.args.generating) c.in_err-write_generated.field-0.0 _ _ c.in_err-write_generated.ensures.writes

pub returns-clause-performs : goal.returns-clause-performs
returns-clause-performs g c = λ done is.
    rw is.is (written_first (files_by c.args.generating) c.args.generating.summary.items is.run c.run_and_say_behind.result _ _ _ c.in_ok-write_generated.ensures.writes
    (c.run_and_say_behind.ensures.performs is.run is.is_run))

pub returns-clause-steady : goal.returns-clause-steady
returns-clause-steady g c = λ done is steady tells has.
    let wrote = c.in_ok-write_generated.ensures.writes in
    let long = ap (λ (d : Done). length d.said) is.is in
    c.run_and_say_behind.ensures.steady is.run is.is_run (rw (ap (λ (desk : DeskTold). desk.steady) wrote) steady)
    (rw (ap (λ (desk : DeskTold). desk.stores_tell_pages) wrote) tells) (rw (ap (λ (desk : DeskTold). desk.room) wrote, ← long) has)

pub returns-clause-sound : goal.returns-clause-sound
returns-clause-sound g c = λ none.
    sound_first (files_by c.args.generating) (g.D.Desk.tells c.args.desk.now) (g.D.Desk.tells c.write_generated.new.desk) (g.D.Desk.tells c.run_and_say_behind.new.desk) c.in_ok-write_generated.ensures.writes (c.run_and_say_behind.ensures.sound none)
