use Rattle.std.proofs.Common.{◌≡◌}
use Rattle.mage_driver.specs.declared.standing.Standing.TheVariants as standing
use Rattle.bench_garbling.proofs.task.ands.Given as goal

abbrev pub invariant-loop-place : goal.invariant-loop-place
invariant-loop-place g l = (g.D.Driver.tells l.driver).standing ≡ standing.Running
