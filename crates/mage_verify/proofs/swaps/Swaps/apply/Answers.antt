use Rattle.std.proofs.lemmas.Result.{on_ok_weaker}
use Rattle.mage_verify.proofs.Tabled.{does_in, does_read, does_out, does_write}
use Rattle.mage_verify.proofs.swaps.Swaps.apply.Goals as goal

pub returns-in-IssueIn-clause-kept : goal.returns-in-IssueIn-clause-kept
returns-in-IssueIn-clause-kept c =
    on_ok_weaker c.start.result
    (λ did. (does_in c.args.limits c.args.self.now c.start.new.self c.requires.kept c.args.directive c.requires.fine c.in-IssueIn.slot c.in-IssueIn.page c.in-IssueIn.is did).kept) c.start.ensures

pub returns-in-IssueOut-clause-kept : goal.returns-in-IssueOut-clause-kept
returns-in-IssueOut-clause-kept c =
    on_ok_weaker c.start-in-IssueOut.result
    (λ did. (does_out c.args.limits c.args.self.now c.start-in-IssueOut.new.self c.requires.kept c.args.directive c.requires.fine c.in-IssueOut.slot c.in-IssueOut.frame c.in-IssueOut.page c.in-IssueOut.is did).kept) c.start-in-IssueOut.ensures

pub returns-in-FinishIn-clause-kept : goal.returns-in-FinishIn-clause-kept
returns-in-FinishIn-clause-kept c =
    on_ok_weaker c.finish.result
    (λ did. (does_read c.args.limits c.args.self.now c.finish.new.self c.requires.kept c.args.directive c.requires.fine c.in-FinishIn.slot c.in-FinishIn.frame c.in-FinishIn.is did).kept) c.finish.ensures

pub returns-in-FinishOut-clause-kept : goal.returns-in-FinishOut-clause-kept
returns-in-FinishOut-clause-kept c =
    on_ok_weaker c.finish-in-FinishOut.result
    (λ did. (does_write c.args.limits c.args.self.now c.finish-in-FinishOut.new.self c.requires.kept c.args.directive c.requires.fine c.in-FinishOut.slot c.in-FinishOut.is did).kept) c.finish-in-FinishOut.ensures
