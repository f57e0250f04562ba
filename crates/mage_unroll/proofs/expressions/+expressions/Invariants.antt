use Rattle.std.proofs.Common.{◌≡◌, map, drop}
use Rattle.mage_unroll.specs.Expressions.{chained, all_of, variable_of}
use Rattle.mage_unroll.specs.Unroller.{state_of}
use Rattle.mage_unroll.proofs.Listing.{behind}
use Rattle.mage_unroll.proofs.expressions.+expressions.Given as goal

abbrev pub invariant-chained-loop-term : goal.invariant-chained-loop-term
invariant-chained-loop-term l =
    chained (map (λ term. (term.0, variable_of term.1)) (drop l.term-index l.rest)) l.word l.so_far (state_of l.unroller)
    ≡ chained (map (λ term. (term.0, variable_of term.1)) l.rest) l.word l.initial.so_far (state_of l.initial.unroller)

abbrev pub invariant-all_of-loop-arg : goal.invariant-all_of-loop-arg
invariant-all_of-loop-arg l =
    behind l.values.items (all_of (map variable_of (drop l.arg-index l.args)) l.word (state_of l.unroller))
    ≡ all_of (map variable_of l.args) l.word (state_of l.initial.unroller)
