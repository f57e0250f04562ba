use Rattle.std.proofs.Common.{[], ◌++◌, refl}
use Rattle.std.proofs.lemmas.Result.{err_from_is_err_and}
use Rattle.mage_planner.specs.declared.refusal.Refusal.TheVariants as refusal
use Rattle.mage_planner.specs.Outcome.{generates}
use Rattle.mage_planner.proofs.GeneratingLemmas.{ran_behind}
use Rattle.mage_planner.proofs.RanLemmas.{nothing_read}
use Rattle.mage_planner.proofs.HaltedLemmas.{halted, ran_said, ran_steady, said_so, still_sound, text_fits, unsaid}
use Rattle.mage_planner.proofs.generating.run_and_say_behind.Goals as goal

pub returns-in_err-text-clause-performs : goal.returns-in_err-text-clause-performs
returns-in_err-text-clause-performs g c = λ done is.
    let p = err_from_is_err_and c.from_residual.result c.from_residual.ensures.1 in
    rw (p.1, p.2) (halted (generates [] c.args.summary.items done) c.in_err-text.field-0.0 _ _ (c.in_err-text.ensures.ran done is))

pub returns-in_err-both-clause-performs : goal.returns-in_err-both-clause-performs
returns-in_err-both-clause-performs g c = λ done is.
    let p = err_from_is_err_and c.from_residual-in_err-both.result c.from_residual-in_err-both.ensures.1 in
    let own = generates [] c.args.summary.items done in
    let ran = ran_behind c.args.summary.items done c.in_ok-text.text.items _ _ (nothing_read c.args.running done is) (c.in_ok-text.ensures.ran done is) in
    rw (p.1, p.2, c.in_err-both.ensures.memory) (halted own refusal.Memory _ _ (unsaid own (c.args.summary.items ++ c.in_ok-text.text.items) _ _ ran))

pub returns-clause-performs : goal.returns-clause-performs
returns-clause-performs g c = λ done is.
    let own = generates [] c.args.summary.items done in
    let ran = ran_behind c.args.summary.items done c.in_ok-text.text.items _ _ (nothing_read c.args.running done is) (c.in_ok-text.ensures.ran done is) in
    let both = said_so own (c.args.summary.items ++ c.in_ok-text.text.items) c.in_ok-both.both.items _ _ (rw c.deref.ensures.value at c.in_ok-both.ensures.text) ran in
    ran_said own c.in_ok-both.both.items c.say.result _ _ _ refl both (rw c.deref-2.ensures.value at c.say.ensures.performs)

pub returns-clause-steady : goal.returns-clause-steady
returns-clause-steady g c = λ done is steady tells has.
    let own = generates [] c.args.summary.items done in
    let ran = ran_behind c.args.summary.items done c.in_ok-text.text.items _ _ (nothing_read c.args.running done is) (c.in_ok-text.ensures.ran done is) in
    let both = said_so own (c.args.summary.items ++ c.in_ok-text.text.items) c.in_ok-both.both.items _ _ (rw c.deref.ensures.value at c.in_ok-both.ensures.text) ran in
    c.say.ensures.steady (rw (ran_steady own c.in_ok-both.both.items _ _ both) steady) (rw c.deref-2.ensures.value (text_fits own c.in_ok-both.both.items _ _ tells tt both has))

pub returns-clause-sound : goal.returns-clause-sound
returns-clause-sound g c = λ none.
    still_sound c.in_ok-both.both.items [] c.say.result (g.D.Desk.tells c.args.desk.now) (g.D.Desk.tells c.run.new.desk) (g.D.Desk.tells c.say.new.desk) (c.in_ok-text.ensures.sound tt) (rw c.deref-2.ensures.value at c.say.ensures.performs)
