use Rattle.std.proofs.Common.{◌≡◌, ◌∙◌, subst, ℕ, Option, None, nat_eq}
use Rattle.std.specs.HashMap.{get}
use Rattle.mage_sched.specs.Homes.{let_go}
use Rattle.mage_sched.specs.Views.{Keeps, holders_after}
use Rattle.mage_sched.proofs.Keeping.{ends_change}
use Rattle.mage_sched.proofs.homes.Homes.finish.Goals as goal

pub returns : goal.returns
returns c = λ store later kept.
    let mid = c.let_go.new.self in
    let found : c.copied-page.result ≡ get nat_eq c.args.self.now.ends c.args.slot = cc (c.get.ensures.value) in
    let page = found ∙ kept.ends c.args.slot in
    let P : Option ℕ → Type 0 = λ o. Keeps mid (holders_after store (let_go o store.holders)) later in
    let gone = subst P page (c.in_ok-let_go.ensures store later kept) in
    ends_change mid c.end_with.new.self (holders_after store (let_go (store.ends c.args.slot) store.holders)) later c.args.slot None gone
    c.in_ok-end_with.ensures.held c.in_ok-end_with.ensures.free c.in_ok-end_with.ensures.count c.in_ok-end_with.ensures.left c.in_ok-end_with.ensures.ends
