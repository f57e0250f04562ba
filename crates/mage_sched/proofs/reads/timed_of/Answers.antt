use Rattle.std.proofs.Common.{◌≡◌, sym, ◌∙◌, refl}
use Rattle.mage_sched.specs.Reads.{issue_of}
use Rattle.mage_sched.proofs.Issues.{issue_before-next, issue_of-max, timed_more}
use Rattle.mage_sched.proofs.reads.timed_of.Goals as goal

pub loop-i-preserved : goal.loop-i-preserved
loop-i-preserved c =
    let kept = c.loop-i.invariant in
    let reads = c.args.reads.now in
    let i = c.loop-i.i in
    let issue : c.max-issue.result ≡ issue_of c.args.buffer c.args.ahead reads i = c.max-issue.ensures ∙ rw (c.earliest.ensures, kept.issue) (issue_of-max c.args.buffer c.args.ahead reads i) in
    record {
      issue = issue ∙ sym (issue_before-next c.args.buffer c.args.ahead reads i);
      timed = timed_more c.args.buffer c.args.ahead reads i c.loop-i.timed.items c.push.new.self.items _ _ _ _ c.loop-i-test.true kept.timed c.in_ok-push.ensures.items refl refl issue;
    }
