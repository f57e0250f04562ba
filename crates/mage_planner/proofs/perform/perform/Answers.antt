use Rattle.std.proofs.Common.{[], refl, sym, ap, ◌∙◌}
use Rattle.mage_planner.specs.Outcome.{Done, says}
use Rattle.mage_planner.specs.Work.{dealt_by, written_by}
use Rattle.mage_planner.proofs.PerformLemmas.{calm_too, work_without_stores}
use Rattle.mage_planner.proofs.EvaluatedLemmas.{some_evaluated_moves}
use Rattle.mage_planner.proofs.GarbledLemmas.{some_garbled_moves}
use Rattle.mage_planner.proofs.RanLemmas.{some_moves}
use Rattle.mage_planner.proofs.HaltedLemmas.{all_sound, still_sound}
use Rattle.mage_planner.proofs.perform.perform.Goals as goal

pub returns-in-Say-clause-performs : goal.returns-in-Say-clause-performs
returns-in-Say-clause-performs g c = λ done is.
    work_without_stores done (says c.in-Say.text.items) c.say.result _ _ refl refl refl (rw c.in-Say.is at is) (rw c.deref.ensures.value at c.say.ensures.performs)

pub returns-in-Deal-clause-performs : goal.returns-in-Deal-clause-performs
returns-in-Deal-clause-performs g c = λ done is.
    work_without_stores done (dealt_by c.in-Deal.dealing) c.deal_labels.result _ _ refl refl refl (rw c.in-Deal.is at is) c.deal_labels.ensures.performs

pub returns-in-Write-clause-performs : goal.returns-in-Write-clause-performs
returns-in-Write-clause-performs g c = λ done is.
    work_without_stores done (written_by c.in-Write.writing) c.write_and_say.result _ _ refl refl refl (rw c.in-Write.is at is) c.write_and_say.ensures.performs

pub returns-in-Say-clause-sound : goal.returns-in-Say-clause-sound
returns-in-Say-clause-sound g c = λ none. still_sound c.deref.result.now [] c.say.result (g.D.Desk.tells c.args.desk.now) (g.D.Desk.tells c.args.desk.now) (g.D.Desk.tells c.say.new.desk) (all_sound (g.D.Desk.tells c.args.desk.now)) c.say.ensures.performs

pub returns-in-Deal-clause-sound : goal.returns-in-Deal-clause-sound
returns-in-Deal-clause-sound g c = λ none. still_sound (dealt_by c.in-Deal.dealing).said (dealt_by c.in-Deal.dealing).files c.deal_labels.result (g.D.Desk.tells c.args.desk.now) (g.D.Desk.tells c.args.desk.now) (g.D.Desk.tells c.deal_labels.new.desk) (all_sound (g.D.Desk.tells c.args.desk.now)) c.deal_labels.ensures.performs

pub returns-in-Write-clause-sound : goal.returns-in-Write-clause-sound
returns-in-Write-clause-sound g c = λ none. still_sound (written_by c.in-Write.writing).said (written_by c.in-Write.writing).files c.write_and_say.result (g.D.Desk.tells c.args.desk.now) (g.D.Desk.tells c.args.desk.now) (g.D.Desk.tells c.write_and_say.new.desk) (all_sound (g.D.Desk.tells c.args.desk.now)) c.write_and_say.ensures.performs

pub returns-in-Say-clause-steady : goal.returns-in-Say-clause-steady
returns-in-Say-clause-steady g c = λ done is steady files tells own fine has.
    let same = rw c.in-Say.is at is in
    calm_too done _ _ c.say.result (ap (λ (d : Done). d.streams) same) (ap (λ (d : Done). d.reads) same) (work_without_stores done (says c.in-Say.text.items) c.say.result _ _ refl refl refl same (rw c.deref.ensures.value at c.say.ensures.performs))
    (c.say.ensures.steady steady (rw c.deref.ensures.value (rw same at has)))

pub returns-in-Deal-clause-steady : goal.returns-in-Deal-clause-steady
returns-in-Deal-clause-steady g c = λ done is steady files tells own fine has.
    calm_too done _ _ c.deal_labels.result (ap (λ (d : Done). d.streams) (rw c.in-Deal.is at is)) (ap (λ (d : Done). d.reads) (rw c.in-Deal.is at is))
    (work_without_stores done (dealt_by c.in-Deal.dealing) c.deal_labels.result _ _ refl refl refl (rw c.in-Deal.is at is) c.deal_labels.ensures.performs)
    (c.deal_labels.ensures.steady steady)

pub returns-in-Write-clause-steady : goal.returns-in-Write-clause-steady
returns-in-Write-clause-steady g c = λ done is steady files tells own fine has.
    let same = rw c.in-Write.is at is in
    calm_too done _ _ c.write_and_say.result (ap (λ (d : Done). d.streams) same) (ap (λ (d : Done). d.reads) same)
    (work_without_stores done (written_by c.in-Write.writing) c.write_and_say.result _ _ refl refl refl same c.write_and_say.ensures.performs)
    (c.write_and_say.ensures.steady steady (rw same at has))

pub returns-in-Run-clause-steady : goal.returns-in-Run-clause-steady
returns-in-Run-clause-steady g c = λ done is steady files tells own fine has.
    let run = rw c.in-Run.is at is in
    calm_too done _ _ c.run_and_say.result (ap (λ (d : Done). d.streams) run.is) (ap (λ (d : Done). d.reads) run.is) (c.run_and_say.ensures.performs done run)
    (c.run_and_say.ensures.steady done run steady (tells (some_moves c.in-Run.running done (rw c.in-Run.is at c.requires) run)) has)

pub returns-in-Garble-clause-steady : goal.returns-in-Garble-clause-steady
returns-in-Garble-clause-steady g c = λ done is steady files tells own fine has.
    let garbles = rw c.in-Garble.is at is in
    c.garble.ensures.steady done garbles steady (tells (some_garbled_moves c.in-Garble.garbling done garbles (rw c.in-Garble.is at c.requires))) files

pub returns-in-Evaluate-clause-steady : goal.returns-in-Evaluate-clause-steady
returns-in-Evaluate-clause-steady g c = λ done is steady files tells own fine has.
    let evaluates = rw c.in-Evaluate.is at is in
    c.evaluate_and_say.ensures.steady done evaluates steady (tells (some_evaluated_moves c.in-Evaluate.evaluating done evaluates (rw c.in-Evaluate.is at c.requires))) files own fine has

pub returns-in-Generate-clause-steady : goal.returns-in-Generate-clause-steady
returns-in-Generate-clause-steady g c = λ done is steady files tells own fine has.
    let generates = rw c.in-Generate.is at is in
    calm_too done _ _ c.generate.result (ap (λ (d : Done). d.streams) generates.is) (ap (λ (d : Done). d.reads) generates.is) (c.generate.ensures.performs done generates)
    (c.generate.ensures.steady done generates steady (tells (λ nothing. some_moves c.in-Generate.generating.running generates.run (rw c.in-Generate.is at c.requires) generates.is_run (sym (ap (λ (d : Done). d.moves) generates.is) ∙ nothing))) has)
