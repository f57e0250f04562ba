use Rattle.std.proofs.Common.{[], subst, sym}
use Rattle.std.proofs.lemmas.Result.{err_from_is_err_and}
use Rattle.mage_planner.specs.Answer.{ReadsThese}
use Rattle.mage_planner.proofs.RanLemmas.{nothing_read}
use Rattle.mage_planner.proofs.HaltedLemmas.{halted, no_files, ran_said, ran_steady, still_sound, text_fits}
use Rattle.mage_planner.proofs.perform.run_and_say.Goals as goal

pub returns-in_err-text-clause-performs : goal.returns-in_err-text-clause-performs
returns-in_err-text-clause-performs g c = λ done is.
    let p = err_from_is_err_and c.from_residual.result c.from_residual.ensures.1 in
    rw (p.1, p.2) (halted done c.in_err-text.field-0.0 _ _ (c.in_err-text.ensures.ran done is))

pub returns-clause-performs : goal.returns-clause-performs
returns-clause-performs g c = λ done is.
    ran_said done c.in_ok-text.text.items c.say.result _ _ _ (no_files c.args.running done is) (c.in_ok-text.ensures.ran done is) (rw c.deref.ensures.value at c.say.ensures.performs)

pub returns-clause-steady : goal.returns-clause-steady
returns-clause-steady g c = λ done is steady tells has.
    let ran = c.in_ok-text.ensures.ran done is in
    c.say.ensures.steady (rw (ran_steady done c.in_ok-text.text.items _ _ ran) steady) (rw c.deref.ensures.value (text_fits done c.in_ok-text.text.items _ _ tells
    (subst (ReadsThese (g.D.Desk.tells c.args.desk.now).files) (sym (nothing_read c.args.running done is)) tt) ran has))

pub returns-clause-sound : goal.returns-clause-sound
returns-clause-sound g c = λ none.
    still_sound c.in_ok-text.text.items [] c.say.result (g.D.Desk.tells c.args.desk.now) (g.D.Desk.tells c.run.new.desk) (g.D.Desk.tells c.say.new.desk) (c.in_ok-text.ensures.sound tt) (rw c.deref.ensures.value at c.say.ensures.performs)
