use Rattle.std.proofs.Common.{arith}
use Rattle.mage_carry.proofs.Tables.{may_name-is}
use Rattle.mage_carry.proofs.walk.may_name.Goals as goal

pub returns-then-page-store : goal.returns-then-page-store
returns-then-page-store c =
    may_name-is c.args.slots.now c.args.store c.args.page c.is_named.result c.is_named.ensures (omega (arith, c.if-page-store.true))
