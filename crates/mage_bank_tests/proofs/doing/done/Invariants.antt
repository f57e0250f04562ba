use Rattle.std.proofs.Common.{◌≡◌}
use Rattle.mage_driver.specs.declared.standing.Standing.TheVariants as standing
use Rattle.mage_bank.specs.Bank.{contents, AreOf}
use Rattle.mage_bank_tests.proofs.doing.done.Given as goal

abbrev pub invariant-loop-job : goal.invariant-loop-job
invariant-loop-job l = record {
  running : l.driver.standing ≡ standing.Running;
  bank : AreOf 2 64 (contents l.bank.items);
}
