use Rattle.std.proofs.Common.{rules}
use Rattle.mage_verify.proofs.Tabled.{moving_is}
use Rattle.mage_verify.proofs.swaps.Swaps.is_moving.Goals as goal

pub returns : goal.returns
returns c = rw (moving_is c.args.limits.buffer c.args.self.now c.args.page c.requires) (search rules)
