use Rattle.std.proofs.Common.{◌≡◌, drop}
use Rattle.mage_base.specs.DeskFails.{calls_named}
use Rattle.mage_base.proofs.mem_desk.handed_fails.calls_named.Given as goal

abbrev pub invariant-loop-entry : goal.invariant-loop-entry
invariant-loop-entry l = calls_named (drop l.entry-index l.entries) l.name ≡ calls_named l.entries l.name
