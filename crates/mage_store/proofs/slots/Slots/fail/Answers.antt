use Rattle.std.proofs.Common.{arith}
use Rattle.mage_store.proofs.slots.Slots.fail.Goals as goal

pub invariant_of-self : goal.invariant_of-self
invariant_of-self c =
    record {
      few = omega (arith, c.put_task.ensures.count);
      whole = c.put_task.ensures.lengths c.self.inside.page_bytes c.self.invariant.whole;
    }
