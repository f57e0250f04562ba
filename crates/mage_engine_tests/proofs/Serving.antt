-- A sealed port that serves a part.
use Rattle.std.proofs.Common.{◌≡◌, ◌≤◌, ◌<◌, ◌==◌, ℕ, zero, suc, [], ◌∷◌, Option, Some, None, slice_get, refl, sym, subst, arith}
use Rattle.std.specs.Prelude.{IsTrue, IfSome}
use Rattle.std.specs.List.{list_any}
use Rattle.mage_instr.specs.declared.directive.Directive.{Directive}
use Rattle.mage_instr.specs.declared.directive.Directive.TheVariants as entry
use Rattle.mage_port.specs.Port.{PortTold}
use Rattle.mage_verify.specs.Parts.{WorkerPart}
use Rattle.mage_verify.specs.Runs.{Meets, Runs}
use Rattle.mage_verify.specs.State.{state_before}
use Rattle.mage_engine.specs.Ready.{Serves, page_moved}

-- a sealed port that takes page 0 serves a part of one page
pub sealed_serves : (below told : PortTold) (bytes : ℕ) (part : WorkerPart) → Runs part → Serves bytes below part → told ≡ record below { takes = λ page. list_any (λ p. p == page) (0 ∷ []) } → part.pages ≤ 1 → Serves bytes told part
sealed_serves below told bytes part runs s is few = subst (λ (t : PortTold). Serves bytes t part) (sym is) (record {
  unused = record { idle = s.unused.idle; empty = s.unused.empty };
  slots = s.slots;
  bytes = s.bytes;
  takes = λ d. moved d (slice_get part.directives d) (runs.each d);
}) where
  first : (page : ℕ) → page < part.pages → IsTrue (list_any (λ p. p == page) (0 ∷ []))
  first zero less = refl
  first (suc page) less = absurd (omega (arith, less, few))

  moved : (d : ℕ) (o : Option Directive) → IfSome o (Meets part.limits part.pages (state_before part.directives d))
      → IfSome o (λ directive. IfSome (page_moved directive) (λ page. IsTrue (list_any (λ p. p == page) (0 ∷ []))))
  moved d None meets = tt
  moved d (Some (entry.Fresh frame page)) meets = tt
  moved d (Some (entry.IssueIn slot page)) meets = first page meets.1
  moved d (Some (entry.FinishIn slot frame)) meets = tt
  moved d (Some (entry.IssueOut slot frame page)) meets = first page meets.2
  moved d (Some (entry.FinishOut slot)) meets = tt
  moved d (Some (entry.Do job)) meets = tt
