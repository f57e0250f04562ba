use Rattle.std.proofs.Common.{◌≡◌, take}
use Rattle.mage_base.proofs.mem_desk.handed_fails.copied.Given as goal

abbrev pub invariant-loop-store : goal.invariant-loop-store
invariant-loop-store l = l.copy ≡ take l.store-index l.stores
