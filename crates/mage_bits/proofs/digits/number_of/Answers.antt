use Rattle.std.proofs.Common.{◌^◌, ◌≤◌, arith}
use Rattle.std.proofs.Math.Pow.{pow_mono}
use Rattle.mage_bits.proofs.digits.number_of.Goals as goal

pub overflow_add-sum : goal.overflow_add-sum
overflow_add-sum c =
    let small : 2 ^ c.loop-place.place ≤ 2 ^ 127 = pow_mono {i = c.loop-place.place} {j = 127} (omega arith) in
    omega (arith, small)
