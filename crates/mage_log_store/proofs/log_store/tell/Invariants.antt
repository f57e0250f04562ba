use Rattle.std.proofs.Common.{◌≡◌, drop}
use Rattle.mage_log_store.specs.LogStore.{lied}
use Rattle.mage_log_store.proofs.log_store.tell.Given as goal

abbrev pub invariant-loop-lie : goal.invariant-loop-lie
invariant-loop-lie l = lied (drop l.lie-index l.lies) l.read l.bytes ≡ lied l.lies l.read l.fn.bytes
