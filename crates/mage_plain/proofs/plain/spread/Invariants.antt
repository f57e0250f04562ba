use Rattle.std.proofs.Common.{◌≡◌, ◌-◌, ◌++◌, take}
use Rattle.mage_bits.specs.Bits.{bits}
use Rattle.mage_plain.proofs.plain.spread.Given as goal

abbrev pub invariant-loop-i : goal.invariant-loop-i
invariant-loop-i l = take l.i l.into ++ bits l.left (l.i-end - l.i) ≡ bits l.initial.left l.i-end
