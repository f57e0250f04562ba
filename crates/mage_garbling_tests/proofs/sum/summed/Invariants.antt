use Rattle.std.proofs.Common.{◌≡◌}
use Rattle.mage_driver.specs.declared.standing.Standing.TheVariants as standing
use Rattle.mage_garbling_tests.proofs.sum.summed.Given as goal

abbrev pub invariant-loop-i : goal.invariant-loop-i
invariant-loop-i g l = (g.D.Driver.tells l.driver).standing ≡ standing.Running
