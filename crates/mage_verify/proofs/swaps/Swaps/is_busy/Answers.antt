use Rattle.std.proofs.Common.{rules}
use Rattle.mage_verify.specs.State.{is_in_flight}
use Rattle.mage_verify.proofs.Tabled.{below-any}
use Rattle.mage_verify.proofs.swaps.Swaps.is_busy.Goals as goal

pub returns : goal.returns
returns c = rw (below-any is_in_flight c.args.self.now.slots.items) (search rules)
