use Rattle.std.proofs.Common.{◌≡◌, drop}
use Rattle.mage_base.specs.DeskFails.{calls_of_store}
use Rattle.mage_base.proofs.mem_desk.handed_fails.calls_of_store.Given as goal

abbrev pub invariant-loop-store : goal.invariant-loop-store
invariant-loop-store l = calls_of_store (drop l.store-index l.stores) l.worker l.shard ≡ calls_of_store l.stores l.worker l.shard
