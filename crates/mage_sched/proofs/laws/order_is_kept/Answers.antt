use Rattle.mage_sched.proofs.Kept.{order_is_kept}
use Rattle.mage_sched.proofs.laws.order_is_kept.Goals as goal

pub returns : goal.returns
returns c = order_is_kept
