use Rattle.std.proofs.Common.{◌≡◌}
use Rattle.mage_driver.specs.declared.standing.Standing.TheVariants as standing
use Rattle.bench_engine.proofs.alone.again.Given as goal

abbrev pub invariant-loop-turn : goal.invariant-loop-turn
invariant-loop-turn g l = (g.D.Driver.tells l.driver).standing ≡ standing.Running
