use Rattle.std.proofs.Common.{◌≡◌, ◌-◌, ◌++◌, take, replicate}
use Rattle.mage_circuit.proofs.moves.clear.Given as goal

abbrev pub invariant-loop-i : goal.invariant-loop-i
invariant-loop-i g l = take l.i l.out ++ replicate (l.i-end - l.i) l.zero ≡ replicate l.i-end l.zero
