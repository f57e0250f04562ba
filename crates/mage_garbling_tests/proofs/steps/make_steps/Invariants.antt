use Rattle.std.proofs.Common.{◌≡◌}
use Rattle.mage_driver.specs.declared.standing.Standing.TheVariants as standing
use Rattle.mage_garbling_tests.proofs.steps.make_steps.Given as goal

abbrev pub invariant-loop-step : goal.invariant-loop-step
invariant-loop-step g l = (g.D.Driver.tells l.driver).standing ≡ standing.Running
