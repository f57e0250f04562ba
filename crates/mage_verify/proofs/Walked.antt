-- From directive to directive, and from worker to worker.
use Rattle.std.proofs.Common.{◌≡◌, ◌<◌, ◌≤◌, ◌+◌, ◌∙◌, ap, refl, map, sym, subst, ℕ, zero, suc, List, [], ◌∷◌, ◌++◌, length, drop, get_or, append_assoc, Option, Some, None, IfSome, arith, cond, true, false}
use Rattle.std.specs.Prelude.{slice_index}
use Rattle.std.specs.List.{slice_get, remove}
use Rattle.std.specs.Option.{option_or}
use Rattle.std.proofs.lemmas.List.{at_drop_more, at_drop_all}
use Rattle.mage_instr.specs.declared.directive.Directive.{Directive}
use Rattle.mage_instr.specs.declared.directive.Directive.TheVariants as entry
use Rattle.mage_instr.specs.declared.directive.MemProgram.{MemProgram}
use Rattle.mage_instr.specs.declared.op.Op.{Op}
use Rattle.mage_instr.specs.declared.op.Op.TheVariants as op
use Rattle.mage_instr.specs.declared.replaced.Limits.{Limits}
use Rattle.mage_directives.specs.Directives.{most_pages, LinksTo, IsDirective, IsPart, IsMemProgram}
use Rattle.mage_instr.specs.Limits.{AreInRange}
use Rattle.mage_verify.specs.declared.fault.VerifyFault.{VerifyFault}
use Rattle.mage_verify.specs.declared.fault.VerifyFault.TheVariants as wrong
use Rattle.mage_verify.specs.Faults.{fault_at, fault_from, own_fault, lowest, joint_fault, fault_in, fault_of}
use Rattle.mage_verify.specs.Parts.{WorkerPart, part_of, parts_from, parts_of}
use Rattle.mage_verify.specs.Runs.{IsSafe, AreSafe, AreVerified}
use Rattle.mage_verify.specs.State.{State, after, is_busy}
use Rattle.mage_verify.proofs.Tests.{none_first, none_second}

-- the faults from directive d on are its own and then those of the rest
pub directive_turn : (limits : Limits) (pages worker d : ℕ) (state : State) (directives : List Directive) (e : Directive) → d < length directives
    → fault_from limits pages worker d state (drop d directives)
    ≡ option_or (fault_at limits pages worker d state (get_or directives d e)) (fault_from limits pages worker (d + 1) (after state (get_or directives d e)) (drop (d + 1) directives))
directive_turn limits pages worker d state directives e l = at_drop_more (λ xs. fault_from limits pages worker d state xs) directives d e l

-- past the last directive a slot in flight is one
pub directives_end : (limits : Limits) (pages worker d : ℕ) (state : State) (directives : List Directive) → length directives ≤ d
    → fault_from limits pages worker d state (drop d directives) ≡ cond (is_busy limits.buffer state) (Some (wrong.SlotState worker d)) None
directives_end limits pages worker d state directives l = at_drop_all (λ xs. fault_from limits pages worker d state xs) directives d l

-- the faults from worker w on are its own and then those of the others
pub worker_turn : (fault : WorkerPart → Option VerifyFault) (limits : Limits) (stores : List ℕ) (workers : List (List Directive)) (w : ℕ) (own : List Directive) → w < length workers → own ≡ get_or workers w own
    → lowest fault (parts_from limits stores w (drop w workers)) ≡ option_or (fault (part_of limits stores w own)) (lowest fault (parts_from limits stores (w + 1) (drop (w + 1) workers)))
worker_turn fault limits stores workers w own l is =
    at_drop_more (λ xs. lowest fault (parts_from limits stores w xs)) workers w own l
    ∙ ap (λ (x : List Directive). option_or (fault (part_of limits stores w x)) (lowest fault (parts_from limits stores (w + 1) (drop (w + 1) workers)))) (sym is)

-- past the last worker there is none
pub workers_end : (fault : WorkerPart → Option VerifyFault) (limits : Limits) (stores : List ℕ) (workers : List (List Directive)) (w : ℕ) → length workers ≤ w → lowest fault (parts_from limits stores w (drop w workers)) ≡ None
workers_end fault limits stores workers w l = at_drop_all (λ xs. lowest fault (parts_from limits stores w xs)) workers w l

moved : (n j : ℕ) → n + suc j ≡ n + 1 + j
moved n j = omega arith

from_zero : (k : ℕ) → k ≡ 0 + k
from_zero k = omega arith

count_from : (total n : ℕ) (xs : List (List Directive)) → ((k : ℕ) → IfSome (slice_get xs k) (IsPart total (n + k))) → (k : ℕ) (x : List Directive) → k < length xs → x ≡ get_or xs k x → length x < 4294967296
count_from total n [] p k x lt e = absurd (omega arith)
count_from total n (y ∷ ys) p zero x lt e = let own = p zero in subst (λ (z : List Directive). length z < 4294967296) (sym e) own.count
count_from total n (y ∷ ys) p (suc k) x lt e = count_from total (n + 1) ys (λ j. subst (λ (m : ℕ). IfSome (slice_get ys j) (IsPart total m)) (moved n j) (p (suc j))) k x (omega arith) e

-- a part has few directives
pub count_at : (total : ℕ) (workers : List (List Directive)) → ((w : ℕ) → IfSome (slice_get workers w) (IsPart total w)) → (w : ℕ) (own : List Directive) → w < length workers → own ≡ get_or workers w own → length own < 4294967296
count_at total workers h w own l is = count_from total 0 workers (λ k. subst (λ (m : ℕ). IfSome (slice_get workers k) (IsPart total m)) (from_zero k) (h k)) w own l is

LinksTo-more : (total own imm : ℕ) (o : Op) → total ≤ 16 → LinksTo total own o imm → LinksTo 16 own o imm
LinksTo-more total own imm op.Send few h = (let below = h.0 in omega (arith, below), h.1)
LinksTo-more total own imm op.Recv few h = (let below = h.0 in omega (arith, below), h.1)
LinksTo-more total own imm _ few h = tt

IsDirective-more : (total own : ℕ) (directive : Directive) → total ≤ 16 → IsDirective total own directive → IsDirective 16 own directive
IsDirective-more total own (entry.Fresh frame page) few h = h
IsDirective-more total own (entry.IssueIn slot page) few h = h
IsDirective-more total own (entry.FinishIn slot frame) few h = h
IsDirective-more total own (entry.IssueOut slot frame page) few h = h
IsDirective-more total own (entry.FinishOut slot) few h = h
IsDirective-more total own (entry.Do job) few h = record { width = h.width; link = LinksTo-more total own job.imm job.op few h.link; no_result = h.no_result; no_args = h.no_args }

some_weaker : {X : Type 0} (o : Option X) (P Q : X → Type 0) → ((x : X) → P x → Q x) → IfSome o P → IfSome o Q
some_weaker None P Q f h = tt
some_weaker (Some x) P Q f h = f x h

IsPart-more : (total own : ℕ) (part : List Directive) → total ≤ 16 → IsPart total own part → IsPart 16 own part
IsPart-more total own part few h = record {
  count = h.count;
  each = λ d. some_weaker (slice_get part d) (IsDirective total own) (IsDirective 16 own) (λ x p. IsDirective-more total own x few p) (h.each d);
}

none_more : (w : ℕ) → w + 0 ≡ w
none_more w = omega arith

-- no store has more pages than any may have
pages_few : (stores : List ℕ) → ((w : ℕ) → IfSome (slice_get stores w) (λ pages. pages ≤ most_pages)) → (w : ℕ) → slice_index stores w ≤ most_pages
pages_few [] h w = omega arith
pages_few (n ∷ ns) h zero = h zero
pages_few (n ∷ ns) h (suc w) = pages_few ns (λ k. h (suc k)) w

-- parts of which none has a fault by itself are safe
safe_from : (limits : Limits) (stores : List ℕ) (total w : ℕ) (workers : List (List Directive)) → AreInRange limits → ((k : ℕ) → slice_index stores k ≤ most_pages) → total ≤ 16 → w + length workers ≤ total
    → ((k : ℕ) → IfSome (slice_get workers k) (IsPart total (w + k))) → lowest own_fault (parts_from limits stores w workers) ≡ None → AreSafe (parts_from limits stores w workers)
safe_from limits stores total w [] range pages few fit h none = tt
safe_from limits stores total w (x ∷ xs) range pages few fit h none = (
  record {
    worker = omega arith;
    limits = range;
    pages = pages w;
    fields = IsPart-more total w x few (subst (λ (m : ℕ). IsPart total m x) (none_more w) (h zero));
    none = none_first (own_fault (part_of limits stores w x)) (lowest own_fault (parts_from limits stores (w + 1) xs)) none;
  },
  safe_from limits stores total (w + 1) xs range pages few (omega arith) (λ k. subst (λ (m : ℕ). IfSome (slice_get xs k) (IsPart total m)) (moved w k) (h (suc k)))
      (none_second (own_fault (part_of limits stores w x)) (lowest own_fault (parts_from limits stores (w + 1) xs)) none),
)

-- the parts of a memory program of which none has a fault by itself are safe
pub AreSafe-from_none : (plan : MemProgram) → IsMemProgram plan → lowest own_fault (parts_of plan) ≡ None → AreSafe (parts_of plan)
AreSafe-from_none plan h none =
    safe_from plan.limits plan.stores (length plan.workers) 0 plan.workers h.limits (pages_few plan.stores h.stores) h.few (omega arith)
    (λ k. subst (λ (m : ℕ). IfSome (slice_get plan.workers k) (IsPart (length plan.workers) m)) (from_zero k) (h.parts k)) none

-- Below, the first of some workers, who has the number w, has the directives x.
module _ (limits : Limits) (stores : List ℕ) (w : ℕ) (workers : List (List Directive)) (x : List Directive) (first : slice_get workers 0 ≡ Some x) where
  pub first_part : parts_from limits stores w workers ≡ part_of limits stores w x ∷ parts_from limits stores (w + 1) (remove workers 0)
  first_part = go workers first where
    go : (xs : List (List Directive)) → slice_get xs 0 ≡ Some x → parts_from limits stores w xs ≡ part_of limits stores w x ∷ parts_from limits stores (w + 1) (remove xs 0)
    go [] e = absurd (cc)
    go (y ∷ ys) e = let same : y ≡ x = cc in ap (λ (z : List Directive). part_of limits stores w z ∷ parts_from limits stores (w + 1) ys) same

  pub left_moved : (n : ℕ) → w + length workers ≡ n → w + 1 + length (remove workers 0) ≡ n
  left_moved n h = go workers first h where
    go : (xs : List (List Directive)) → slice_get xs 0 ≡ Some x → w + length xs ≡ n → w + 1 + length (remove xs 0) ≡ n
    go [] e k = absurd (cc)
    go (y ∷ ys) e k = omega (arith, k)

  pub first_safe : AreSafe (parts_from limits stores w workers) → IsSafe (part_of limits stores w x) × AreSafe (parts_from limits stores (w + 1) (remove workers 0))
  first_safe h = subst AreSafe first_part h

  pub part_moved : (parts whole : List WorkerPart) → parts ++ parts_from limits stores w workers ≡ whole → (parts ++ part_of limits stores w x ∷ []) ++ parts_from limits stores (w + 1) (remove workers 0) ≡ whole
  part_moved parts whole h = append_assoc parts (part_of limits stores w x ∷ []) (parts_from limits stores (w + 1) (remove workers 0)) ∙ ap (λ (xs : List WorkerPart). parts ++ xs) (sym first_part) ∙ h

-- what the workers of parts do is what those of the program do
directives_in : (limits : Limits) (stores : List ℕ) (w : ℕ) (workers : List (List Directive)) → map (λ part. part.directives) (parts_from limits stores w workers) ≡ workers
directives_in limits stores w [] = refl
directives_in limits stores w (x ∷ xs) = ap (λ (others : List (List Directive)). x ∷ others) (directives_in limits stores (w + 1) xs)

pub directives_of : (plan : MemProgram) → map (λ part. part.directives) (parts_of plan) ≡ plan.workers
directives_of plan = directives_in plan.limits plan.stores 0 plan.workers

-- a fault of a worker by itself is the first, and without one that of all together
pub own_first : (plan : MemProgram) (fault : VerifyFault) → lowest own_fault (parts_of plan) ≡ Some fault → fault_of plan ≡ Some fault
own_first plan fault h = ap (λ o. option_or o (joint_fault (map (λ part. part.directives) (parts_of plan)))) h

pub joint_next : (plan : MemProgram) → lowest own_fault (parts_of plan) ≡ None → fault_of plan ≡ joint_fault plan.workers
joint_next plan h =
    ap (λ o. option_or o (joint_fault (map (λ part. part.directives) (parts_of plan)))) h ∙ ap joint_fault (directives_of plan)

-- the parts of a memory program without a fault
pub AreVerified-from_none : (plan : MemProgram) (parts : List WorkerPart) → IsMemProgram plan → parts ≡ parts_of plan → lowest own_fault (parts_of plan) ≡ None → joint_fault plan.workers ≡ None → AreVerified parts
AreVerified-from_none plan parts h are own joint = record {
  whole = (plan, h, are);
  none = ap fault_in are ∙ joint_next plan own ∙ joint;
}

-- Below, worker w has the directives `own`, and the fault of the workers from w on is that of all.
module _ (fault : WorkerPart → Option VerifyFault) (limits : Limits) (stores : List ℕ) (workers : List (List Directive)) (w : ℕ) (own : List Directive) (l : w < length workers) (is : own ≡ get_or workers w own) (whole : Option VerifyFault) (kept : lowest fault (parts_from limits stores w (drop w workers)) ≡ whole) where
  pub worker_stops : (f : VerifyFault) → fault (part_of limits stores w own) ≡ Some f → whole ≡ Some f
  worker_stops f h = sym kept ∙ worker_turn fault limits stores workers w own l is ∙ ap (λ o. option_or o (lowest fault (parts_from limits stores (w + 1) (drop (w + 1) workers)))) h

  pub worker_goes_on : fault (part_of limits stores w own) ≡ None → lowest fault (parts_from limits stores (w + 1) (drop (w + 1) workers)) ≡ whole
  worker_goes_on h = sym (worker_turn fault limits stores workers w own l is ∙ ap (λ o. option_or o (lowest fault (parts_from limits stores (w + 1) (drop (w + 1) workers)))) h) ∙ kept

-- Below, the fault of the directives from d on is that of all.
module _ (limits : Limits) (pages worker d : ℕ) (state : State) (directives : List Directive) (whole : Option VerifyFault) (kept : fault_from limits pages worker d state (drop d directives) ≡ whole) where
  module _ (e : Directive) (l : d < length directives) where
    pub directive_stops : (f : VerifyFault) → fault_at limits pages worker d state (get_or directives d e) ≡ Some f → whole ≡ Some f
    directive_stops f h = sym kept ∙ directive_turn limits pages worker d state directives e l ∙ ap (λ o. option_or o (fault_from limits pages worker (d + 1) (after state (get_or directives d e)) (drop (d + 1) directives))) h

    pub directive_goes_on : (next : State) → fault_at limits pages worker d state (get_or directives d e) ≡ None → next ≡ after state (get_or directives d e) → fault_from limits pages worker (d + 1) next (drop (d + 1) directives) ≡ whole
    directive_goes_on next h n =
        ap (λ (s : State). fault_from limits pages worker (d + 1) s (drop (d + 1) directives)) n
        ∙ sym (directive_turn limits pages worker d state directives e l ∙ ap (λ o. option_or o (fault_from limits pages worker (d + 1) (after state (get_or directives d e)) (drop (d + 1) directives))) h)
        ∙ kept

  pub busy_past : d ≡ length directives → is_busy limits.buffer state ≡ true → whole ≡ Some (wrong.SlotState worker (length directives))
  busy_past e h = sym kept ∙ directives_end limits pages worker d state directives (omega (arith, e)) ∙ ap (λ b. cond b (Some (wrong.SlotState worker d)) None) h ∙ ap (λ n. Some (wrong.SlotState worker n)) e

  pub idle_past_all : length directives ≤ d → is_busy limits.buffer state ≡ false → whole ≡ None
  idle_past_all l h = sym kept ∙ directives_end limits pages worker d state directives l ∙ ap (λ b. cond b (Some (wrong.SlotState worker d)) None) h
