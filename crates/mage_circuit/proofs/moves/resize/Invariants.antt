use Rattle.std.proofs.Common.{◌≡◌, ◌++◌, take, replicate}
use Rattle.mage_circuit.proofs.moves.resize.Given as goal

abbrev pub invariant-loop-i : goal.invariant-loop-i
invariant-loop-i g l = take l.i l.out ≡ take l.i (l.from ++ replicate l.i-end l.zero)
