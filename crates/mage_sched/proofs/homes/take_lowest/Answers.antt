use Rattle.std.proofs.Common.{false}
use Rattle.mage_sched.proofs.Numbers.{in_after, at_least}
use Rattle.mage_sched.proofs.homes.take_lowest.Goals as goal

pub returns-clause-lowest : goal.returns-clause-lowest
returns-clause-lowest c = at_least c.args.free.now c.in_ok-lowest.lowest c.in_ok-lowest.ensures.least

pub returns-clause-others : goal.returns-clause-others
returns-clause-others c = in_after c.args.free.now c.pop_first.new.self c.in_ok-lowest.lowest false c.in_ok-lowest.ensures.updates
