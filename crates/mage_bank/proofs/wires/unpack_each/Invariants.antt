use Rattle.std.proofs.Common.{◌≡◌, ◌+◌, map, take}
use Rattle.std.specs.List.{range_with_len}
use Rattle.mage_bank.specs.Bank.{wire_in}
use Rattle.mage_bank.proofs.wires.unpack_each.Given as goal

abbrev pub invariant-loop-i : goal.invariant-loop-i
invariant-loop-i g l = take l.i l.into ≡ map (λ k. wire_in g.D.Driver.rules l.frame (l.place + k)) (range_with_len 0 l.i)
