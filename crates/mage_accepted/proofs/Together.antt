-- All workers of a memory program that carries a linked program.
use Rattle.std.proofs.Common.{◌≡◌, ◌≤◌, ◌+◌, zero, suc, ℕ, Bool, true, false, cond, List, [], ◌∷◌, Option, None, Some, length, map, refl, sym, ◌∙◌, ap, ap₂, arith, ⊎_elim, subst, nat_eq}
use Rattle.std.specs.Option.{option_or}
use Rattle.std.proofs.lemmas.Bool.{cases_lt, eqb-true}
use Rattle.mage_instr.specs.declared.instr.Instr.{Instr}
use Rattle.mage_instr.specs.declared.directive.Directive.{Directive}
use Rattle.mage_instr.specs.declared.replaced.Limits.{Limits}
use Rattle.mage_linked.specs.declared.emitted.Emitted.{Emitted}
use Rattle.mage_linked.specs.Workers.{list_at, below}
use Rattle.mage_linked.specs.Emission.{own_instrs, program_of}
use Rattle.mage_linked.specs.Linked.{AreLinked}
use Rattle.mage_linked.proofs.EmissionLemmas.{AreBelow, own_instrs-other}
use Rattle.mage_linked.proofs.LinkedLemmas.{AreLinked-below}
use Rattle.mage_linked.proofs.WorkerLemmas.{list_at-map, list_at-none, length-map_below}
use Rattle.mage_carry.specs.declared.carry.Carry.{Carry}
use Rattle.mage_carry.specs.declared.carry.Carry.TheVariants as carry
use Rattle.mage_carry.specs.Carrying.{break_of, unless_break, store_of, carried_from, carries_of}
use Rattle.mage_verify.specs.declared.fault.VerifyFault.{VerifyFault}
use Rattle.mage_verify.specs.Faults.{own_fault, joint_fault, lowest}
use Rattle.mage_verify.specs.Joint.{lists_at}
use Rattle.mage_verify.specs.Parts.{WorkerPart, parts_from}
use Rattle.mage_accepted.specs.Accepting.{CarryingPlansHaveNoFault}
use Rattle.mage_accepted.proofs.Own.{carrying_parts_have_no_fault}
use Rattle.mage_accepted.proofs.Jobs.{AreJobs, are_jobs}
use Rattle.mage_accepted.proofs.Turning.{no_joint_fault}

-- no worker breaks a rule where all carry
no_break : (worker : ℕ) (o : Option ℕ) (others : Carry) → unless_break worker o others ≡ carry.Yes
    → (o ≡ None) × (others ≡ carry.Yes)
no_break worker None others h = (refl, h)
no_break worker (Some d) others h = absurd cc

-- no part has a fault by itself, and each does its instructions
record AllRight (limits : Limits) (stores : List ℕ) (worker : ℕ) (programs : List (List Instr)) (parts : List (List Directive)) : Type 0 where
  none : lowest own_fault (parts_from limits stores worker parts) ≡ None
  jobs : (w : ℕ) → AreJobs (lists_at parts w) (list_at programs w)

all_right : (limits : Limits) (stores : List ℕ) (worker : ℕ) (programs : List (List Instr)) (parts : List (List Directive))
    → length programs ≡ length parts
    → carried_from limits stores worker programs parts ≡ carry.Yes → AllRight limits stores worker programs parts
all_right limits stores worker [] [] long h = record { none = refl; jobs = jobs } where
  jobs : (w : ℕ) → AreJobs (lists_at [] w) (list_at [] w)
  jobs zero = refl
  jobs (suc w) = refl
all_right limits stores worker [] (part ∷ parts) long h = absurd (omega (arith, long))
all_right limits stores worker (instrs ∷ programs) [] long h = absurd (omega (arith, long))
all_right limits stores worker (instrs ∷ programs) (part ∷ parts) long h =
    let both = no_break worker (break_of limits (store_of stores worker) instrs part) (carried_from limits stores (worker + 1) programs parts) h in
    let rest = all_right limits stores (worker + 1) programs parts (omega (arith, long)) both.1 in
    record {
      none = ap (λ (o : Option VerifyFault). option_or o (lowest own_fault (parts_from limits stores (worker + 1) parts))) (carrying_parts_have_no_fault limits stores worker instrs part both.0)
          ∙ rest.none;
      jobs = jobs (are_jobs limits (store_of stores worker) instrs part both.0) rest.jobs;
    }
  where
    jobs : AreJobs part instrs → ((w : ℕ) → AreJobs (lists_at parts w) (list_at programs w)) → (w : ℕ)
        → AreJobs (lists_at (part ∷ parts) w) (list_at (instrs ∷ programs) w)
    jobs first rest zero = first
    jobs first rest (suc w) = rest w

-- the directives of the parts are those of the workers
directives_are : (limits : Limits) (stores : List ℕ) (worker : ℕ) (parts : List (List Directive))
    → map (λ (part : WorkerPart). part.directives) (parts_from limits stores worker parts) ≡ parts
directives_are limits stores worker [] = refl
directives_are limits stores worker (part ∷ parts) = ap (λ xs. part ∷ xs) (directives_are limits stores (worker + 1) parts)

-- one that isn't below the number of workers has no instruction
none_there : (count : ℕ) (es : List Emitted) (w : ℕ) → AreBelow count es → count ≤ w → own_instrs es w ≡ []
none_there count [] w h le = refl
none_there count (e ∷ es) w h le = own_instrs-other e es w (λ same. omega (arith, h.0)) ∙ none_there count es w h.1 le

-- the instructions of each worker of the program
pub workers_are : (count : ℕ) (emitted : List Emitted) (w : ℕ) → AreBelow count emitted
    → list_at (program_of count emitted).workers w ≡ own_instrs emitted w
workers_are count emitted w h = ⊎_elim
    (λ lt. list_at-map (own_instrs emitted) count w lt)
    (λ le. list_at-none (map (own_instrs emitted) (below count)) w (omega (arith, le, length-map_below (own_instrs emitted) count)) ∙ sym (none_there count emitted w h le))
    (cases_lt w count)

pub carrying_plans_have_no_fault : CarryingPlansHaveNoFault
unfolding carries_of
carrying_plans_have_no_fault count emitted plan linked h = go (nat_eq (length programs) (length plan.workers)) refl h where
  programs : List (List Instr)
  programs = (program_of count emitted).workers

  go : (b : Bool) → nat_eq (length programs) (length plan.workers) ≡ b
      → cond b (carried_from plan.limits plan.stores 0 programs plan.workers) (carry.No 0 0) ≡ carry.Yes
      → option_or (lowest own_fault (parts_from plan.limits plan.stores 0 plan.workers)) (joint_fault (map (λ (part : WorkerPart). part.directives) (parts_from plan.limits plan.stores 0 plan.workers))) ≡ None
  go false e f = absurd cc
  go true e f =
      let long = eqb-true (length programs) (length plan.workers) e in
      let right = all_right plan.limits plan.stores 0 programs plan.workers long f in
      let many : count ≡ length plan.workers = sym (length-map_below (own_instrs emitted) count) ∙ long in
      let joint = no_joint_fault plan.workers emitted (subst (λ n. AreLinked n emitted) many linked)
      (λ w. subst (AreJobs (lists_at plan.workers w)) (workers_are count emitted w (AreLinked-below count emitted linked)) (right.jobs w)) in
      ap₂ (λ (a b : Option VerifyFault). option_or a b) right.none (ap joint_fault (directives_are plan.limits plan.stores 0 plan.workers) ∙ joint)
