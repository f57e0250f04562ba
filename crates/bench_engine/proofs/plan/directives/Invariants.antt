use Rattle.mage_verify.specs.Literals.{AreDirectives}
use Rattle.bench_engine.proofs.plan.directives.Given as goal

abbrev pub invariant-loop-turn : goal.invariant-loop-turn
invariant-loop-turn l = AreDirectives 1 0 l.directives.items
