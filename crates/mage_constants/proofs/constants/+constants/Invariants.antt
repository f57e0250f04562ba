use Rattle.std.proofs.Common.{◌≡◌, map, drop}
use Rattle.mage_constants.specs.Constants.{const_chain, constant_of}
use Rattle.mage_constants.proofs.constants.+constants.Given as goal

abbrev pub invariant-chained-loop-term : goal.invariant-chained-loop-term
invariant-chained-loop-term g l =
    const_chain (map (λ term. (term.0, constant_of term.1)) (drop l.term-index l.rest)) (g.N.KnownConstants.constants l.names) l.so_far
    ≡ const_chain (map (λ term. (term.0, constant_of term.1)) l.rest) (g.N.KnownConstants.constants l.names) l.initial.so_far
