use Rattle.std.proofs.Common.{◌≡◌, take}
use Rattle.mage_base.specs.DeskFails.{by_name}
use Rattle.mage_base.proofs.mem_desk.handed_fails.named.Given as goal

abbrev pub invariant-loop-entry : goal.invariant-loop-entry
invariant-loop-entry l = l.named ≡ by_name (take l.entry-index l.entries)
