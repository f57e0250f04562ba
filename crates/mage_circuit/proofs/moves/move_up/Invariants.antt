use Rattle.std.proofs.Common.{◌≡◌, ◌++◌, take, replicate}
use Rattle.mage_circuit.proofs.moves.move_up.Given as goal

abbrev pub invariant-loop-i : goal.invariant-loop-i
invariant-loop-i g l = take l.i l.out ≡ take l.i (replicate l.amount l.zero ++ l.from)
