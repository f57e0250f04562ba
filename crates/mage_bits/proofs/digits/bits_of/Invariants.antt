use Rattle.std.proofs.Common.{◌≡◌, ◌-◌, ◌++◌}
use Rattle.mage_bits.specs.Bits.{bits}
use Rattle.mage_bits.proofs.digits.bits_of.Given as goal

-- the digits so far, followed by those of what is left, are all
abbrev pub invariant-loop-place : goal.invariant-loop-place
invariant-loop-place l = l.digits.items ++ bits l.left (l.count - l._place) ≡ bits l.fn.value l.fn.count
