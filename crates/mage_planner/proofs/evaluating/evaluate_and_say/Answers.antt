use Rattle.std.proofs.Common.{[], ◌∙◌}
use Rattle.std.proofs.lemmas.Result.{err_from_is_err_and}
use Rattle.mage_planner.proofs.HaltedLemmas.{ran_said, ran_steady, still_sound, text_fits}
use Rattle.mage_planner.proofs.EvaluatedLemmas.{nothing_evaluated}
use Rattle.mage_planner.proofs.EvaluatingLemmas.{finished_calm}
use Rattle.mage_planner.proofs.evaluating.evaluate_and_say.Goals as goal

pub returns-in_err-text-clause-performs : goal.returns-in_err-text-clause-performs
returns-in_err-text-clause-performs g c = λ done is.
    let p = err_from_is_err_and c.from_residual.result c.from_residual.ensures.1 in
    rw (p.1, p.2) (c.in_err-text.ensures.ran done is)

pub returns-in_err-text-clause-steady : goal.returns-in_err-text-clause-steady
returns-in_err-text-clause-steady g c = λ done is steady tells files own right has.
    let p = err_from_is_err_and c.from_residual.result c.from_residual.ensures.1 in
    rw (p.1, p.2) (c.in_err-text.ensures.steady done is steady tells files own right)

pub returns-clause-performs : goal.returns-clause-performs
returns-clause-performs g c = λ done is.
    ran_said done c.in_ok-text.text.items c.say.result _ _ _ (nothing_evaluated c.args.evaluating done is) (c.in_ok-text.ensures.ran done is) (rw c.deref.ensures.value at c.say.ensures.performs)

pub returns-clause-steady : goal.returns-clause-steady
returns-clause-steady g c = λ done is steady tells files own right has.
    let ran = c.in_ok-text.ensures.ran done is in
    let calm = c.in_ok-text.ensures.steady done is steady tells files own right in
    let none = c.say.ensures.steady (rw (ran_steady done c.in_ok-text.text.items _ _ ran) steady)
    (rw c.deref.ensures.value (text_fits done c.in_ok-text.text.items _ _ tells own ran has)) in
    (none, finished_calm c.deref.result.now [] c.say.result _ _ c.say.ensures.performs none ∙ calm.1)

pub returns-clause-sound : goal.returns-clause-sound
returns-clause-sound g c = λ none.
    still_sound c.in_ok-text.text.items [] c.say.result (g.D.Desk.tells c.args.desk.now) (g.D.Desk.tells c.evaluate.new.desk) (g.D.Desk.tells c.say.new.desk) (c.in_ok-text.ensures.sound tt) (rw c.deref.ensures.value at c.say.ensures.performs)
