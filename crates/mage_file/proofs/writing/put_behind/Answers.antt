use Rattle.std.proofs.Common.{refl, ◌∙◌}
use Rattle.std.proofs.lemmas.Result.{on_ok_weaker}
use Rattle.mage_instr.specs.declared.directive.Directive.TheVariants as entry
use Rattle.mage_file.proofs.Adding.{row_spelled}
use Rattle.mage_file.proofs.writing.put_behind.Goals as goal

pub returns-in-Fresh : goal.returns-in-Fresh
returns-in-Fresh c = λ more.
    on_ok_weaker c.put_row.result (λ e. e ∙ row_spelled c.args.directive (entry.Fresh c.in-Fresh.frame c.in-Fresh.page) more c.args.out.now.items c.in-Fresh.is refl) (c.put_row.ensures more)

pub returns-in-IssueIn : goal.returns-in-IssueIn
returns-in-IssueIn c = λ more.
    on_ok_weaker c.put_row-in-IssueIn.result (λ e. e ∙ row_spelled c.args.directive (entry.IssueIn c.in-IssueIn.slot c.in-IssueIn.page) more c.args.out.now.items c.in-IssueIn.is refl) (c.put_row-in-IssueIn.ensures more)

pub returns-in-FinishIn : goal.returns-in-FinishIn
returns-in-FinishIn c = λ more.
    on_ok_weaker c.put_row-in-FinishIn.result (λ e. e ∙ row_spelled c.args.directive (entry.FinishIn c.in-FinishIn.slot c.in-FinishIn.frame) more c.args.out.now.items c.in-FinishIn.is refl) (c.put_row-in-FinishIn.ensures more)

pub returns-in-IssueOut : goal.returns-in-IssueOut
returns-in-IssueOut c = λ more.
    on_ok_weaker c.put_row-in-IssueOut.result (λ e. e ∙ row_spelled c.args.directive (entry.IssueOut c.in-IssueOut.slot c.in-IssueOut.frame c.in-IssueOut.page) more c.args.out.now.items c.in-IssueOut.is refl) (c.put_row-in-IssueOut.ensures more)

pub returns-in-FinishOut : goal.returns-in-FinishOut
returns-in-FinishOut c = λ more.
    on_ok_weaker c.put_row-in-FinishOut.result (λ e. e ∙ row_spelled c.args.directive (entry.FinishOut c.in-FinishOut.slot) more c.args.out.now.items c.in-FinishOut.is refl) (c.put_row-in-FinishOut.ensures more)
