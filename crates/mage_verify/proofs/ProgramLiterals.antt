-- Programs that tests write out.
use Rattle.std.proofs.Common.{◌<◌, ◌≤◌, refl, ℕ, zero, suc, List, [], ◌∷◌, length, IfSome, arith}
use Rattle.std.specs.List.{slice_get}
use Rattle.mage_instr.specs.declared.directive.Directive.{Directive}
use Rattle.mage_instr.specs.declared.replaced.Limits.{Limits}
use Rattle.mage_directives.specs.Directives.{most_pages, IsDirective, IsPart, IsMemProgram}
use Rattle.mage_instr.specs.Limits.{AreInRange}
use Rattle.mage_verify.specs.Literals.{AreDirectives}

each_directive : (workers own : ℕ) (xs : List Directive) → AreDirectives workers own xs → (d : ℕ) → IfSome (slice_get xs d) (IsDirective workers own)
each_directive workers own [] h zero = tt
each_directive workers own [] h (suc d) = tt
each_directive workers own (x ∷ xs) h zero = h.0
each_directive workers own (x ∷ xs) h (suc d) = each_directive workers own xs h.1 d

part_of : (workers own : ℕ) (xs : List Directive) → length xs < 100 → AreDirectives workers own xs → IsPart workers own xs
part_of workers own xs few h = record { count = omega arith; each = each_directive workers own xs h }

pub one_worker : (limits : Limits) (pages : ℕ) (xs : List Directive) → pages < 100 → AreInRange limits → length xs < 100 → AreDirectives 1 0 xs → IsMemProgram (record { limits = limits; stores = pages ∷ []; workers = xs ∷ [] })
one_worker limits pages xs small range few h = record { limits = range; some_worker = omega arith; few = omega arith; counted = refl; stores = store; parts = each } where
  store : (w : ℕ) → IfSome (slice_get (pages ∷ []) w) (λ n. n ≤ most_pages)
  store zero = omega (arith, small)
  store (suc zero) = tt
  store (suc (suc w)) = tt

  each : (w : ℕ) → IfSome (slice_get (xs ∷ []) w) (IsPart 1 w)
  each zero = part_of 1 0 xs few h
  each (suc zero) = tt
  each (suc (suc w)) = tt

pub two_workers : (limits : Limits) (xs ys : List Directive) → AreInRange limits → length xs < 100 → length ys < 100 → AreDirectives 2 0 xs → AreDirectives 2 1 ys → IsMemProgram (record { limits = limits; stores = 0 ∷ 0 ∷ []; workers = xs ∷ ys ∷ [] })
two_workers limits xs ys range few_xs few_ys h k = record { limits = range; some_worker = omega arith; few = omega arith; counted = refl; stores = store; parts = each } where
  store : (w : ℕ) → IfSome (slice_get (0 ∷ 0 ∷ []) w) (λ n. n ≤ most_pages)
  store zero = omega arith
  store (suc zero) = omega arith
  store (suc (suc zero)) = tt
  store (suc (suc (suc w))) = tt

  each : (w : ℕ) → IfSome (slice_get (xs ∷ ys ∷ []) w) (IsPart 2 w)
  each zero = part_of 2 0 xs few_xs h
  each (suc zero) = part_of 2 1 ys few_ys k
  each (suc (suc zero)) = tt
  each (suc (suc (suc w))) = tt
