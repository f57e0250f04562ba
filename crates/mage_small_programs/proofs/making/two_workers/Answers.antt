use Rattle.std.proofs.Common.{◌≡◌, ◌≤◌, ◌∙◌, ap, ap₂, ℕ, zero, suc, List, [], ◌∷◌, ◌++◌, length, refl, arith, slice_get}
use Rattle.std.specs.Prelude.{IfSome}
use Rattle.mage_instr.specs.declared.directive.Directive.{Directive}
use Rattle.mage_instr.specs.declared.replaced.Limits.{Limits}
use Rattle.mage_directives.specs.Directives.{IsMemProgram, most_pages}
use Rattle.mage_verify.proofs.ProgramLiterals.{two_workers}
use Rattle.mage_small_programs.proofs.making.two_workers.Goals as goal

-- the same program over stores of one page each
with_pages : (limits : Limits) (workers : List (List Directive)) → length workers ≡ 2 →
    IsMemProgram (record { limits = limits; stores = 0 ∷ 0 ∷ []; workers = workers }) → IsMemProgram (record { limits = limits; stores = 1 ∷ 1 ∷ []; workers = workers })
with_pages limits workers two h = record {
  limits = h.limits;
  some_worker = h.some_worker;
  few = h.few;
  counted = h.counted;
  stores = store;
  parts = h.parts;
}
  where
    store : (w : ℕ) → IfSome (slice_get (1 ∷ 1 ∷ []) w) (λ n. n ≤ most_pages)
    store zero = omega arith
    store (suc zero) = omega arith
    store (suc (suc zero)) = tt
    store (suc (suc (suc w))) = tt

pub returns-clause-fields : goal.returns-clause-fields
returns-clause-fields c =
    let store : c.push.new.self ≡ 1 ∷ [] = c.in_ok-push.ensures.ok ∙ ap (λ (ns : List ℕ). ns ++ 1 ∷ []) c.new-stores.ensures in
    let stores : c.push-2.new.self ≡ 1 ∷ 1 ∷ [] = c.in_ok-push-2.ensures.ok ∙ ap (λ (ns : List ℕ). ns ++ 1 ∷ []) store in
    let one : c.push-3.new.self ≡ c.args.first.now ∷ [] =
    c.in_ok-push-3.ensures.ok ∙ ap₂ (λ (ws : List (List Directive)) (x : List Directive). ws ++ x ∷ []) c.new-workers.ensures c.in_ok-from_slice.ensures in
    let two : c.push-4.new.self ≡ c.args.first.now ∷ c.args.second.now ∷ [] =
    c.in_ok-push-4.ensures.ok ∙ ap₂ (λ (ws : List (List Directive)) (x : List Directive). ws ++ x ∷ []) one c.in_ok-from_slice-2.ensures in
    rw (stores, two) (with_pages c.limits.result (c.args.first.now ∷ c.args.second.now ∷ []) refl
    (two_workers c.limits.result c.args.first.now c.args.second.now c.limits.ensures.range c.requires.count.0 c.requires.count.1 c.requires.first c.requires.second))

pub returns-clause-workers : goal.returns-clause-workers
returns-clause-workers c =
    let one : c.push-3.new.self ≡ c.args.first.now ∷ [] =
    c.in_ok-push-3.ensures.ok ∙ ap₂ (λ (ws : List (List Directive)) (x : List Directive). ws ++ x ∷ []) c.new-workers.ensures c.in_ok-from_slice.ensures in
    ap length (c.in_ok-push-4.ensures.ok ∙ ap₂ (λ (ws : List (List Directive)) (x : List Directive). ws ++ x ∷ []) one c.in_ok-from_slice-2.ensures)
