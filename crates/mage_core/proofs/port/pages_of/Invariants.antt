use Rattle.std.proofs.Common.{◌≡◌, take}
use Rattle.mage_core.specs.Ports.{pages_moved}
use Rattle.mage_core.proofs.port.pages_of.Given as goal

abbrev pub invariant-loop-directive : goal.invariant-loop-directive
invariant-loop-directive l = l.pages.items ≡ pages_moved (take l.directive-index l.directives)
