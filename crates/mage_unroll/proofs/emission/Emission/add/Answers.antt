use Rattle.std.proofs.Common.{arith}
use Rattle.mage_unroll.proofs.Counting.{count_of-le}
use Rattle.mage_unroll.proofs.emission.Emission.add.Goals as goal

pub overflow_add-self : goal.overflow_add-self
overflow_add-self c =
    omega (arith, count_of-le c.from.result c.args.self.now.emitted.items, c.args.self.now.counted)
