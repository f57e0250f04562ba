use Rattle.std.proofs.Common.{◌≡◌, drop, max}
use Rattle.mage_file.specs.Stores.{store_above}
use Rattle.mage_file.proofs.stores.store_above.Given as goal

-- the greatest of those so far, beside what is still to come, is the greatest of all
abbrev pub invariant-loop-directive : goal.invariant-loop-directive
invariant-loop-directive l = max l.pages (store_above (drop l.directive-index l.directives)) ≡ store_above l.directives
