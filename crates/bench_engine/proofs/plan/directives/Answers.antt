use Rattle.std.proofs.Common.{◌∙◌, List, rules, sym, subst}
use Rattle.mage_instr.specs.declared.directive.Directive.{Directive}
use Rattle.mage_verify.specs.Literals.{AreDirectives}
use Rattle.bench_engine.proofs.Written.{both_are}
use Rattle.bench_engine.proofs.plan.directives.Goals as goal

pub loop-turn-preserved : goal.loop-turn-preserved
loop-turn-preserved c =
    subst (λ (xs : List Directive). AreDirectives 1 0 xs) (sym c.in_ok-extend_from_slice.ensures.items)
    (both_are 1 0 c.loop-turn.directives.items c.args.block.now c.loop-turn.invariant c.requires)

pub returns : goal.returns
returns c = record {
  fields = subst (λ (xs : List Directive). AreDirectives 1 0 xs) (sym (c.from_vec.ensures ∙ c.in_ok-extend_from_slice-2.ensures.items))
      (both_are 1 0 c.loop-turn.directives.items _ c.loop-turn.invariant (search rules));
}
