use Rattle.mage_carry.proofs.Freeing.{placed_is}
use Rattle.mage_carry.proofs.held.Held.place.Goals as goal

pub returns : goal.returns
returns c = placed_is c.args.instrs.now c.args.offset c.from.result c.args.width c.args.variable c.args.self.now c.free.new.self (record { variables = c.insert.new.self }) c.from.ensures c.free.ensures c.in_ok-insert.ensures.updates
