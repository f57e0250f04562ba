use Rattle.std.proofs.Common.{◌≡◌, [], map, replicate}
use Rattle.mage_meaning.proofs.direct.no_outputs.Given as goal

abbrev pub invariant-loop : goal.invariant-loop
invariant-loop l = map (λ own. own.items) l.outputs.items ≡ replicate l.counter []
