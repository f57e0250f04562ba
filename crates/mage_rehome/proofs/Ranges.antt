-- A memory program without a fault, and with each field in its range, has so with store pages too.
use Rattle.std.proofs.Common.{◌≡◌, ◌≤◌, ◌+◌, zero, suc, ℕ, List, [], ◌∷◌, None, IfSome, length, map, sym, ◌∙◌, arith, subst}
use Rattle.std.specs.Prelude.{slice_get}
use Rattle.std.proofs.lemmas.List.{length-map}
use Rattle.mage_instr.specs.declared.directive.Directive.{Directive}
use Rattle.mage_instr.specs.declared.directive.Directive.TheVariants as entry
use Rattle.mage_instr.specs.declared.directive.MemProgram.{MemProgram}
use Rattle.mage_instr.specs.declared.replaced.Limits.{Limits}
use Rattle.mage_instr.specs.Limits.{AreInRange}
use Rattle.mage_instr.specs.Opcodes.{most_workers}
use Rattle.mage_carry.specs.Carrying.{store_of}
use Rattle.mage_sched.specs.Homes.{Homed, empty_store, homed_of}
use Rattle.mage_sched.specs.Turns.{at_rest}
use Rattle.mage_sched.proofs.Planned.{homes_keep_turns}
use Rattle.mage_schedulable.specs.Planning.{program_of}
use Rattle.mage_directives.specs.Directives.{most_pages, IsDirective, IsPart, IsMemProgram}
use Rattle.mage_verify.specs.Faults.{own_fault, lowest, joint_fault, fault_of}
use Rattle.mage_verify.specs.Parts.{part_of, parts_from, parts_of}
use Rattle.mage_verify.proofs.Tests.{none_first, none_second}
use Rattle.mage_accepted.proofs.Directives.{AreRight, right_homed, each_in_range, length-homed}
use Rattle.mage_accepted.proofs.Stores.{AreWritten, few_store_pages}
use Rattle.mage_rehome.specs.Rehomed.{rehomed_of}
use Rattle.mage_rehome.proofs.Turned.{AreTurned, turned}

-- what is made of a worker's directives has its fields in range
pub record IsInRange (workers own : ℕ) (made : Homed) : Type 0 where
  pub part : IsPart workers own made.directives
  pub stores : made.count ≤ most_pages

-- ---- one worker

-- a page that comes in new is one of a store's, and a job has its fields in range
pub right_of : (workers own : ℕ) (part : List Directive) → ((d : ℕ) → IfSome (slice_get part d) (IsDirective workers own)) → AreRight most_pages workers own part
right_of workers own [] h = tt
right_of workers own (entry.Fresh frame page ∷ part) h = (h 0, right_of workers own part (λ d. h (suc d)))
right_of workers own (entry.IssueIn slot page ∷ part) h = (tt, right_of workers own part (λ d. h (suc d)))
right_of workers own (entry.FinishIn slot frame ∷ part) h = (tt, right_of workers own part (λ d. h (suc d)))
right_of workers own (entry.IssueOut slot frame page ∷ part) h = (tt, right_of workers own part (λ d. h (suc d)))
right_of workers own (entry.FinishOut slot ∷ part) h = (tt, right_of workers own part (λ d. h (suc d)))
right_of workers own (entry.Do job ∷ part) h = (h 0, right_of workers own part (λ d. h (suc d)))

-- and a page that is written
written_of : (workers own : ℕ) (part : List Directive) → ((d : ℕ) → IfSome (slice_get part d) (IsDirective workers own)) → AreWritten most_pages part
written_of workers own [] h = tt
written_of workers own (entry.Fresh frame page ∷ part) h = (tt, written_of workers own part (λ d. h (suc d)))
written_of workers own (entry.IssueIn slot page ∷ part) h = (tt, written_of workers own part (λ d. h (suc d)))
written_of workers own (entry.FinishIn slot frame ∷ part) h = (tt, written_of workers own part (λ d. h (suc d)))
written_of workers own (entry.IssueOut slot frame page ∷ part) h = (h 0, written_of workers own part (λ d. h (suc d)))
written_of workers own (entry.FinishOut slot ∷ part) h = (tt, written_of workers own part (λ d. h (suc d)))
written_of workers own (entry.Do job ∷ part) h = (tt, written_of workers own part (λ d. h (suc d)))

homed_in_range : (limits : Limits) (store workers own : ℕ) (part : List Directive) → IsPart workers own part → AreTurned limits.buffer store at_rest part
    → IsInRange workers own (homed_of part)
homed_in_range limits store workers own part fields are =
    let homed = homes_keep_turns limits.buffer part are.turns in
    let right = right_homed most_pages workers own empty_store part (right_of workers own part fields.each) in
    let pages : (homed_of part).count ≤ most_pages = few_store_pages most_pages part (written_of workers own part fields.each) in
    let long : length (homed_of part).directives ≡ length part = length-homed empty_store part in
    let few = fields.count in
    record {
      part = record {
        count = omega (arith, few, long);
        each = each_in_range most_pages workers own (homed_of part).count (homed_of part).directives (omega arith) pages right homed.below;
      };
      stores = pages;
    }

-- ---- all workers

all_in_range : (limits : Limits) (stores : List ℕ) (total from : ℕ) (parts : List (List Directive))
    → ((w : ℕ) → IfSome (slice_get parts w) (IsPart total (from + w)))
    → lowest own_fault (parts_from limits stores from parts) ≡ None
    → (w : ℕ) → IfSome (slice_get (map homed_of parts) w) (IsInRange total (from + w))
all_in_range limits stores total from [] fields none zero = tt
all_in_range limits stores total from [] fields none (suc w) = tt
all_in_range limits stores total from (part ∷ parts) fields none zero =
    let first = none_first (own_fault (part_of limits stores from part)) (lowest own_fault (parts_from limits stores (from + 1) parts)) none in
    homed_in_range limits (store_of stores from) total (from + 0) part (fields 0) (turned limits (store_of stores from) from part first)
all_in_range limits stores total from (part ∷ parts) fields none (suc w) =
    let others = none_second (own_fault (part_of limits stores from part)) (lowest own_fault (parts_from limits stores (from + 1) parts)) none in
    let next : from + 1 + w ≡ from + suc w = omega arith in
    subst (λ k. IfSome (slice_get (map homed_of parts) w) (IsInRange total k)) next
    (all_in_range limits stores total (from + 1) parts (λ v. let same : from + suc v ≡ from + 1 + v = omega arith in subst (λ k. IfSome (slice_get parts v) (IsPart total k)) same (fields (suc v))) others w)

-- what holds of an element holds of what is made of it
each_made : {A B : Type 0} (make : A → B) (P : A → Type 0) (Q : B → Type 0) → ((x : A) → P x → Q (make x)) → (xs : List A) (w : ℕ)
    → IfSome (slice_get xs w) P → IfSome (slice_get (map make xs) w) Q
each_made make P Q each [] zero h = tt
each_made make P Q each [] (suc w) h = tt
each_made make P Q each (x ∷ xs) zero h = each x h
each_made make P Q each (x ∷ xs) (suc w) h = each_made make P Q each xs w h

-- so a memory program is in range where each of its parts is
pub made_in_range : (limits : Limits) (parts : List Homed) (total : ℕ) → length (map (λ (part : Homed). part.directives) parts) ≡ total
    → AreInRange limits → 1 ≤ total → total ≤ most_workers
    → ((w : ℕ) → IfSome (slice_get parts w) (IsInRange total w)) → IsMemProgram (program_of limits parts)
made_in_range limits parts total long range some few each = record {
  limits = range;
  some_worker = omega (arith, some, long);
  few = omega (arith, few, long);
  counted = length-map parts (λ (part : Homed). part.count) ∙ sym (length-map parts (λ (part : Homed). part.directives));
  stores = λ w. each_made (λ (part : Homed). part.count) (IsInRange total w) (λ pages. pages ≤ most_pages) (λ made range. range.stores) parts w (each w);
  parts = λ w. subst (λ n. IfSome (slice_get (map (λ (part : Homed). part.directives) parts) w) (IsPart n w)) (sym long)
      (each_made (λ (part : Homed). part.directives) (IsInRange total w) (IsPart total w) (λ made range. range.part) parts w (each w));
}

pub rehomed_in_range : (plan : MemProgram) → IsMemProgram plan → fault_of plan ≡ None → IsMemProgram (rehomed_of plan)
rehomed_in_range plan fields none =
    let parts = map homed_of plan.workers in
    let total = length plan.workers in
    let own = none_first (lowest own_fault (parts_of plan)) (joint_fault (map (λ part. part.directives) (parts_of plan))) none in
    let each : (w : ℕ) → IfSome (slice_get parts w) (IsInRange total w) = λ w.
    let same : 0 + w ≡ w = omega arith in
    subst (λ k. IfSome (slice_get parts w) (IsInRange total k)) same
    (all_in_range plan.limits plan.stores total 0 plan.workers (λ v. let other : v ≡ 0 + v = omega arith in subst (λ k. IfSome (slice_get plan.workers v) (IsPart total k)) other (fields.parts v)) own w) in
    let long : length (map (λ (part : Homed). part.directives) parts) ≡ total =
    length-map parts (λ (part : Homed). part.directives) ∙ length-map plan.workers homed_of in
    made_in_range plan.limits parts total long fields.limits fields.some_worker fields.few each
