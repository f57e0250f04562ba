use Rattle.std.proofs.Common.{refl, ◌+◌}
use Rattle.mage_sched.proofs.Holders.{taken_lowest, taken_more}
use Rattle.mage_sched.proofs.homes.Homes.take_home.Goals as goal

pub returns-in-Some-clause-taken : goal.returns-in-Some-clause-taken
returns-in-Some-clause-taken c = λ holders free page.
    taken_lowest c.args.self.now (record c.args.self.now { free = c.take_lowest.new.free }) c.in-Some.home page holders free c.in-Some.ensures.member c.in-Some.ensures.lowest c.in-Some.ensures.others refl

pub returns-else-home-clause-taken : goal.returns-else-home-clause-taken
returns-else-home-clause-taken c = λ holders free page.
    taken_more c.args.self.now (record c.args.self.now { free = c.take_lowest.new.free; count = c.args.self.now.count + 1 }) c.args.self.now.count page holders free c.in-None.ensures.none c.in-None.ensures.same refl refl
