-- The workers so far break no rule, and the answer for the rest is that for all.
use Rattle.std.proofs.Common.{◌≡◌, drop}
use Rattle.mage_carry.specs.Carrying.{carried_from, carries_of}
use Rattle.mage_carry.proofs.carrying.carries.Given as goal

abbrev pub invariant-loop-worker : goal.invariant-loop-worker
invariant-loop-worker l = carried_from l.plan.limits l.plan.stores l.worker (drop l.worker l.program.workers) (drop l.worker l.plan.workers) ≡ carries_of l.program l.plan
