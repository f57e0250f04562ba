use Rattle.std.proofs.Common.{sym, arith}
use Rattle.mage_carry.proofs.Turns.{same_number, other_number}
use Rattle.mage_carry.proofs.carrying.carries.Goals as goal

pub returns-then-len : goal.returns-then-len
returns-then-len c = sym (other_number c.args.program.now c.args.plan.now (λ e. omega (arith, e)))

pub loop-worker-init : goal.loop-worker-init
loop-worker-init c = same_number c.args.program.now c.args.plan.now (omega arith)
