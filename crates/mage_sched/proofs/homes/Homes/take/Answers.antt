use Rattle.std.proofs.Common.{refl}
use Rattle.mage_sched.proofs.Keeping.{takes_home}
use Rattle.mage_sched.proofs.homes.Homes.take.Goals as goal

pub returns : goal.returns
returns c = λ store later kept.
    let mid = c.take_home.new.self in
    takes_home c.args.self.now mid (record mid { held = c.insert.new.self }) store later c.args.page c.in_ok-home.home kept c.requires
    (c.in_ok-home.ensures.taken store.holders kept.pages c.args.page) c.in_ok-home.ensures.held c.in_ok-insert.ensures.updates.0
    (λ k. refl) refl c.in_ok-home.ensures.left c.in_ok-home.ensures.ends
