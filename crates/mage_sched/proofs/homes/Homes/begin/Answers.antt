use Rattle.std.proofs.Common.{◌∙◌, ap, ℕ, Option, Some, None, cond, nat_eq}
use Rattle.mage_sched.specs.Views.{count_in}
use Rattle.mage_sched.proofs.Keeping.{begins, left_after}
use Rattle.mage_sched.proofs.homes.Homes.begin.Goals as goal

pub returns : goal.returns
returns c = λ store one later named kept.
    let homes = c.args.self.now in
    let page = c.args.page in
    let mid = c.take_one.new.counts in
    let now = left_after (λ q. count_in homes.left q) (λ q. count_in mid q) page one later named kept.left c.in_ok-left.ensures.counts page in
    begins homes c.end_with.new.self store one later c.args.slot page c.unless_left-ends.result named kept
    (c.unless_left-ends.ensures ∙ ap (λ (n : ℕ). cond {A = Option ℕ} (nat_eq n 0) (Some page) None) (c.in_ok-left.ensures.left ∙ now))
    c.in_ok-end_with.ensures.held c.in_ok-end_with.ensures.free c.in_ok-end_with.ensures.count
    (λ q. c.in_ok-end_with.ensures.left q ∙ c.in_ok-left.ensures.counts q)
    c.in_ok-end_with.ensures.ends
