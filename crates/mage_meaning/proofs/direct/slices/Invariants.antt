use Rattle.std.proofs.Common.{◌≡◌, map, take}
use Rattle.mage_meaning.proofs.direct.slices.Given as goal

abbrev pub invariant-loop-own : goal.invariant-loop-own
invariant-loop-own l = map (λ own. own.now) l.slices.items ≡ map (λ own. own.items) (take l.own-index l.lists)
