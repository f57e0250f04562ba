-- Programs of one worker whose directives were put behind one another.
use Rattle.std.proofs.Common.{◌<◌, ◌≤◌, ◌++◌, refl, ℕ, zero, suc, List, [], ◌∷◌, length, IfSome, arith}
use Rattle.std.specs.List.{slice_get}
use Rattle.mage_instr.specs.declared.directive.Directive.{Directive}
use Rattle.mage_instr.specs.declared.replaced.Limits.{Limits}
use Rattle.mage_directives.specs.Directives.{most_pages, IsDirective, IsPart, IsMemProgram}
use Rattle.mage_instr.specs.Limits.{AreInRange}
use Rattle.mage_verify.specs.Literals.{AreDirectives}

-- what both parts of a list are, the whole is
pub both_are : (workers own : ℕ) (xs ys : List Directive) → AreDirectives workers own xs → AreDirectives workers own ys → AreDirectives workers own (xs ++ ys)
both_are workers own [] ys h k = k
both_are workers own (x ∷ xs) ys h k = (h.0, both_are workers own xs ys h.1 k)

each_directive : (workers own : ℕ) (xs : List Directive) → AreDirectives workers own xs → (d : ℕ) → IfSome (slice_get xs d) (IsDirective workers own)
each_directive workers own [] h zero = tt
each_directive workers own [] h (suc d) = tt
each_directive workers own (x ∷ xs) h zero = h.0
each_directive workers own (x ∷ xs) h (suc d) = each_directive workers own xs h.1 d

-- a program of one worker with one store page
pub alone : (limits : Limits) (xs : List Directive) → AreInRange limits → length xs < 4294967296 → AreDirectives 1 0 xs → IsMemProgram (record { limits = limits; stores = 1 ∷ []; workers = xs ∷ [] })
alone limits xs range few h = record { limits = range; some_worker = omega arith; few = omega arith; counted = refl; stores = store; parts = each } where
  store : (w : ℕ) → IfSome (slice_get (1 ∷ []) w) (λ n. n ≤ most_pages)
  store zero = omega arith
  store (suc zero) = tt
  store (suc (suc w)) = tt

  each : (w : ℕ) → IfSome (slice_get (xs ∷ []) w) (IsPart 1 w)
  each zero = record { count = few; each = each_directive 1 0 xs h }
  each (suc zero) = tt
  each (suc (suc w)) = tt
