use Rattle.std.proofs.Common.{◌≡◌, take}
use Rattle.mage_planner.specs.Ran.{orders_of}
use Rattle.mage_planner.proofs.running.orders_of.Given as goal

abbrev pub invariant-loop-part : goal.invariant-loop-part
invariant-loop-part l = l.orders.items ≡ orders_of l.wire_bytes (take l.part-index l.parts)
