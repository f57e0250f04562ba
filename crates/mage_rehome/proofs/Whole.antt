-- The parts of a memory program, with store pages.
use Rattle.std.proofs.Common.{◌≡◌, ◌+◌, ◌<◌, suc, ℕ, List, [], ◌∷◌, None, length, get_or, map, refl, sym, ◌∙◌, ap, ap₂, subst, arith}
use Rattle.mage_instr.specs.declared.directive.Directive.{Directive}
use Rattle.mage_instr.specs.declared.directive.MemProgram.{MemProgram}
use Rattle.mage_instr.specs.declared.replaced.Limits.{Limits}
use Rattle.mage_sched.specs.Homes.{Homed, empty_store, homed_of}
use Rattle.mage_schedulable.specs.Planning.{program_of}
use Rattle.mage_directives.specs.Directives.{IsMemProgram}
use Rattle.mage_verify.specs.Faults.{fault_in, fault_of}
use Rattle.mage_verify.specs.Parts.{WorkerPart, parts_from, parts_of}
use Rattle.mage_verify.specs.Runs.{AreVerified}
use Rattle.mage_accepted.proofs.Directives.{length-homed}
use Rattle.mage_rehome.specs.Rehomed.{homed_parts, rehomed_of}
use Rattle.mage_rehome.proofs.Faultless.{renaming_makes_no_fault}
use Rattle.mage_rehome.proofs.Ranges.{rehomed_in_range}
use Rattle.mage_rehome.proofs.Renaming.{lists_of}

homed_from_parts : (limits : Limits) (stores : List ℕ) (worker : ℕ) (workers : List (List Directive))
    → homed_parts (parts_from limits stores worker workers) ≡ map homed_of workers
homed_from_parts limits stores worker [] = refl
homed_from_parts limits stores worker (part ∷ workers) = ap (λ (parts : List Homed). homed_of part ∷ parts) (homed_from_parts limits stores (worker + 1) workers)

-- the limits of the first part are those of the whole
first_limits : (whole : MemProgram) (first : WorkerPart) (others : List WorkerPart) → first ∷ others ≡ parts_of whole → first.limits ≡ whole.limits
first_limits whole first others e = go whole.workers e where
  go : (workers : List (List Directive)) → first ∷ others ≡ parts_from whole.limits whole.stores 0 workers → first.limits ≡ whole.limits
  go [] f = absurd (cc)
  go (part ∷ workers) f = ap (λ (parts : List WorkerPart). limits_in parts) f where
    limits_in : List WorkerPart → Limits
    limits_in [] = whole.limits
    limits_in (one ∷ parts) = one.limits

-- the same of the first of some parts
pub first_is : (whole : MemProgram) (parts : List WorkerPart) (first : WorkerPart) → 0 < length parts → first ≡ get_or parts 0 first → parts ≡ parts_of whole → first.limits ≡ whole.limits
first_is whole [] first some is e = absurd (omega (arith, some))
first_is whole (part ∷ parts) first some is e = ap (λ (one : WorkerPart). one.limits) is ∙ first_limits whole part parts e

-- there is a part
pub some_part : (parts : List WorkerPart) → AreVerified parts → 0 < length parts
some_part parts are =
    let whole = are.whole in
    let some = whole.1.some_worker in
    let long = length_parts whole.0.limits whole.0.stores 0 whole.0.workers in
    let same : length parts ≡ length (parts_of whole.0) = ap length whole.2 in
    omega (arith, some, long, same)
  where
    length_parts : (limits : Limits) (stores : List ℕ) (worker : ℕ) (workers : List (List Directive)) → length (parts_from limits stores worker workers) ≡ length workers
    length_parts limits stores worker [] = refl
    length_parts limits stores worker (part ∷ workers) = ap suc (length_parts limits stores (worker + 1) workers)

-- as many directives as before
pub as_many : (workers : List (List Directive)) → map length (lists_of workers) ≡ map length workers
as_many [] = refl
as_many (part ∷ workers) = ap₂ (λ (n : ℕ) (ns : List ℕ). n ∷ ns) (length-homed empty_store part) (as_many workers)

-- what the parts of a memory program come to, by their own limits
pub whole_homed : (whole : MemProgram) (parts : List WorkerPart) (limits : Limits) → parts ≡ parts_of whole → limits ≡ whole.limits
    → program_of limits (homed_parts parts) ≡ rehomed_of whole
whole_homed whole parts limits e f =
    ap₂ (λ (x : Limits) (xs : List WorkerPart). program_of x (homed_parts xs)) f e
    ∙ ap (program_of whole.limits) (homed_from_parts whole.limits whole.stores 0 whole.workers)

pub fields_homed : (parts : List WorkerPart) (limits : Limits) → AreVerified parts → ((whole : MemProgram) → parts ≡ parts_of whole → limits ≡ whole.limits)
    → IsMemProgram (program_of limits (homed_parts parts))
fields_homed parts limits are of_whole =
    let whole = are.whole.0 in
    let same = are.whole.2 in
    subst IsMemProgram (sym (whole_homed whole parts limits same (of_whole whole same)))
    (rehomed_in_range whole are.whole.1 (subst (λ xs. fault_in xs ≡ None) same are.none))

pub none_whole : (parts : List WorkerPart) (limits : Limits) → AreVerified parts → ((whole : MemProgram) → parts ≡ parts_of whole → limits ≡ whole.limits)
    → fault_of (program_of limits (homed_parts parts)) ≡ None
none_whole parts limits are of_whole =
    let whole = are.whole.0 in
    let same = are.whole.2 in
    subst (λ (plan : MemProgram). fault_of plan ≡ None) (sym (whole_homed whole parts limits same (of_whole whole same)))
    (renaming_makes_no_fault whole (subst (λ xs. fault_in xs ≡ None) same are.none))
