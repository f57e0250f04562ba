use Rattle.std.proofs.Common.{◌≡◌, map, drop}
use Rattle.mage_meaning.specs.Run.{moment_of}
use Rattle.mage_meaning.specs.Value.{chained, number_of_expr}
use Rattle.mage_meaning.proofs.expressions.+expressions.Given as goal

abbrev pub invariant-chained-loop-term : goal.invariant-chained-loop-term
invariant-chained-loop-term l =
    chained (map (λ term. (term.0, number_of_expr term.1)) (drop l.term-index l.rest)) l.so_far (moment_of l.run)
    ≡ chained (map (λ term. (term.0, number_of_expr term.1)) l.rest) l.initial.so_far (moment_of l.run)
