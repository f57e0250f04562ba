use Rattle.std.proofs.Common.{◌≡◌, ◌∙◌, ◌<◌, ap, ℕ, List, [], ◌∷◌, ◌++◌, length, arith}
use Rattle.mage_instr.specs.declared.directive.Directive.{Directive}
use Rattle.bench_engine.proofs.Written.{alone}
use Rattle.bench_engine.proofs.plan.program.Goals as goal

pub returns : goal.returns
returns c =
    let store : c.push.new.self ≡ 1 ∷ [] = c.in_ok-push.ensures.ok ∙ ap (λ (ns : List ℕ). ns ++ 1 ∷ []) c.new-stores.ensures in
    let are : c.push-2.new.self ≡ c.args.directives ∷ [] =
    c.in_ok-push-2.ensures.ok ∙ ap (λ (ws : List (List Directive)). ws ++ c.args.directives ∷ []) c.new-workers.ensures in
    let few : length c.args.directives < 4294967296 = omega arith in
    rw (store, are) (alone c.limits.result c.args.directives c.limits.ensures few c.requires)
