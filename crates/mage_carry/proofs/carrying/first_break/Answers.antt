use Rattle.std.proofs.Common.{length, ap}
use Rattle.mage_carry.specs.State.{State}
use Rattle.mage_carry.specs.Carrying.{walked, broken_at, break_of}
use Rattle.mage_carry.proofs.carrying.first_break.Goals as goal

pub loop-d-init : goal.loop-d-init
unfolding break_of
loop-d-init c = ap (λ (s : State). broken_at c.args.instrs.now (length c.args.part.now) (walked c.args.instrs.now c.args.limits.page c.args.store 0 s c.args.part.now)) c.in_ok-walk.ensures
