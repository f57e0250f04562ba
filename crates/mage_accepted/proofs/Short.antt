-- The directives that the passes make of a linked program are few, all workers together.
use Rattle.std.proofs.Common.{◌≡◌, ◌≤◌, ◌+◌, ◌*◌, suc, ℕ, List, [], ◌∷◌, map, length, refl, sym, subst, ap, arith}
use Rattle.std.specs.List.{sum_by}
use Rattle.std.proofs.lemmas.List.Sums.{sum_by-cons}
use Rattle.mage_instr.specs.declared.directive.Directive.{Directive}
use Rattle.mage_instr.specs.declared.instr.Instr.{Instr}
use Rattle.mage_instr.specs.declared.replaced.Limits.{Limits}
use Rattle.mage_linked.specs.declared.emitted.Emitted.{Emitted}
use Rattle.mage_linked.specs.Emission.{own_instrs, program_of}
use Rattle.mage_linked.specs.Workers.{list_at}
use Rattle.mage_linked.proofs.EmissionLemmas.{own_instrs-other}
use Rattle.mage_linked.proofs.LinkedLemmas.{AreLinked-below}
use Rattle.mage_linked.proofs.WorkerLemmas.{length-map_below}
use Rattle.mage_sched.specs.Homes.{Homed}
use Rattle.mage_schedulable.specs.PlanOf.{AllCanBePlanned, passed}
use Rattle.mage_accepted.specs.Accepting.{PassedPlansAreShort}
use Rattle.mage_accepted.proofs.Directives.{sum_more, sum_zero}
use Rattle.mage_accepted.proofs.Ranges.{AreLinks, own_links, passed_is_short}
use Rattle.mage_accepted.proofs.Removing.{own_first}
use Rattle.mage_accepted.proofs.Together.{workers_are}
use Rattle.mage_accepted.proofs.Turning.{sum, sum_le}

-- how many instructions some workers have together
abbrev shared : (workers : ℕ) → List Emitted → ℕ
shared workers emitted = sum workers (λ w. length (own_instrs emitted w))

-- each emitted instruction is one worker's
few_shared : (workers : ℕ) (emitted : List Emitted) → shared workers emitted ≤ length emitted
few_shared workers [] = let none = sum_zero workers in omega (arith, none)
few_shared workers (e ∷ es) =
    let rest = few_shared workers es in
    let own : length (own_instrs (e ∷ es) e.worker) ≡ suc (length (own_instrs es e.worker)) = ap length (own_first e es e.worker refl) in
    let more = sum_more workers (λ w. length (own_instrs es w)) (λ w. length (own_instrs (e ∷ es) w)) e.worker
    (λ w ne. let same : length (own_instrs (e ∷ es) w) ≡ length (own_instrs es w) = ap length (own_instrs-other e es w (λ is. ne (sym is))) in omega (arith, same))
    (omega (arith, own)) in
    omega (arith, rest, more)

-- how long the parts of some workers are together
abbrev together : List (List Directive) → ℕ
together parts = sum_by (λ part. length part) parts

module _ (limits : Limits) (total : ℕ) where
  few_together : (from : ℕ) (programs : List (List Instr)) → AllCanBePlanned limits programs
      → ((w : ℕ) → AreLinks total (from + w) (list_at programs w))
      → together (map (λ (part : Homed). part.directives) (map (passed limits) programs)) ≤ 18 * sum (length programs) (λ w. length (list_at programs w))
  few_together from [] can links = omega arith
  few_together from (instrs ∷ programs) can links =
      let own = passed_is_short limits total (from + 0) instrs can.0 (links 0) in
      let one = own.few in
      let rest = few_together (from + 1) programs can.1 (λ v. let same : from + suc v ≡ from + 1 + v = omega arith in subst (λ k. AreLinks total k (list_at programs v)) same (links (suc v))) in
      let both = sum_by-cons (λ (part : List Directive). length part) (passed limits instrs).directives (map (λ (part : Homed). part.directives) (map (passed limits) programs)) in
      omega (arith, one, rest, both)

pub passed_plans_are_short : PassedPlansAreShort
passed_plans_are_short limits count emitted linked can =
    let programs = (program_of count emitted).workers in
    let below = AreLinked-below count emitted linked in
    let few = few_together limits count 0 programs can
    (λ w. subst (AreLinks count (0 + w)) (sym (workers_are count emitted w below)) (let same : w ≡ 0 + w = omega arith in subst (λ k. AreLinks count k (own_instrs emitted w)) same (own_links count w emitted linked))) in
    let counted : length programs ≡ count = length-map_below (own_instrs emitted) count in
    let less = sum_le (length programs) (λ w. length (list_at programs w)) (λ w. length (own_instrs emitted w)) (λ w. let same : length (list_at programs w) ≡ length (own_instrs emitted w) = ap length (workers_are count emitted w below) in omega (arith, same)) in
    let each = few_shared (length programs) emitted in
    omega (arith, few, less, each)
