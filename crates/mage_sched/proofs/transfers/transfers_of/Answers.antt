use Rattle.std.proofs.Common.{◌+◌, ℕ, List, get_or, drop, sym, ◌∙◌, ap, arith}
use Rattle.std.proofs.lemmas.List.{at_drop_more}
use Rattle.mage_instr.specs.declared.directive.Directive.{Directive}
use Rattle.mage_instr.specs.declared.directive.Directive.TheVariants as directive
use Rattle.mage_sched.specs.Homes.{transfers_of}
use Rattle.mage_sched.specs.Views.{count_in}
use Rattle.mage_sched.proofs.Keeping.{transfers_at_most, transfers_more}
use Rattle.mage_sched.proofs.transfers.transfers_of.Goals as goal

pub count-requires : goal.count-requires
count-requires c = λ page.
    let list = c.args.directives.now in
    let k = c.loop-k.k in
    let first = directive.Fresh 0 0 in
    let most = transfers_at_most list page in
    let kept = sym (at_drop_more (λ (xs : List Directive). count_in c.loop-k.counts page + transfers_of xs page) list k first c.loop-k-test.true) ∙ c.loop-k.invariant page in
    let more = transfers_more (get_or list k first) (drop (k + 1) list) page (count_in c.loop-k.counts page) (transfers_of list page) kept in
    omega (arith, most, more)

pub loop-k-preserved : goal.loop-k-preserved
loop-k-preserved c = λ page.
    let list = c.args.directives.now in
    let k = c.loop-k.k in
    let first = directive.Fresh 0 0 in
    let kept = sym (at_drop_more (λ (xs : List Directive). count_in c.loop-k.counts page + transfers_of xs page) list k first c.loop-k-test.true) ∙ c.loop-k.invariant page in
    ap (λ (n : ℕ). n + transfers_of (drop (k + 1) list) page) (c.in_ok-count.ensures page)
    ∙ transfers_more (get_or list k first) (drop (k + 1) list) page (count_in c.loop-k.counts page) (transfers_of list page) kept
