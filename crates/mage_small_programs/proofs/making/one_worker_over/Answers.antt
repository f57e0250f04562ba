use Rattle.std.proofs.Common.{◌≡◌, ◌∙◌, ap, ap₂, ℕ, List, [], ◌∷◌, ◌++◌, length, arith, ◌<◌}
use Rattle.mage_instr.specs.declared.directive.Directive.{Directive}
use Rattle.mage_verify.proofs.ProgramLiterals.{one_worker}
use Rattle.mage_small_programs.proofs.making.one_worker_over.Goals as goal

pub returns-clause-fields : goal.returns-clause-fields
returns-clause-fields c =
    let store : c.push.new.self ≡ c.args.pages ∷ [] = c.in_ok-push.ensures.ok ∙ ap (λ (ns : List ℕ). ns ++ c.args.pages ∷ []) c.new-stores.ensures in
    let are : c.push-2.new.self ≡ c.args.directives.now ∷ [] =
    c.in_ok-push-2.ensures.ok ∙ ap₂ (λ (ws : List (List Directive)) (x : List Directive). ws ++ x ∷ []) c.new-workers.ensures c.in_ok-from_slice.ensures in
    rw (store, are) (one_worker c.limits.result c.args.pages c.args.directives.now c.requires.pages c.limits.ensures.range c.requires.count c.requires.fields)

pub returns-clause-workers : goal.returns-clause-workers
returns-clause-workers c =
    ap length (c.in_ok-push-2.ensures.ok ∙ ap₂ (λ (ws : List (List Directive)) (x : List Directive). ws ++ x ∷ []) c.new-workers.ensures c.in_ok-from_slice.ensures)
