use Rattle.std.proofs.lemmas.Result.{IfOk-weaker}
use Rattle.mage_belady.specs.Rule.{rule_of, tight_of}
use Rattle.mage_pipe.proofs.JobCounts.{few_jobs}
use Rattle.mage_pipe.proofs.Judging.{answers_list}
use Rattle.mage_pipe.proofs.worker.listed.Goals as goal

pub returns-clause-list : goal.returns-clause-list
returns-clause-list c =
    answers_list (λ list. list.items) c.replace.result (tight_of c.args.limits.frames 0 c.args.trace.now) (rule_of c.args.limits.frames c.args.instrs.now c.args.places.now c.args.trace.now) c.replace.ensures.list c.replace.ensures.tight

pub returns-clause-few : goal.returns-clause-few
returns-clause-few c = IfOk-weaker c.replace.result _ _ (λ list least. few_jobs list.items c.args.trace.now c.args.limits.frames c.requires.trace least) c.replace.ensures.least
