-- A list has as many instructions as sets of pages.
use Rattle.std.proofs.Common.{◌≡◌, ◌≤◌, ℕ, List, [], ◌∷◌, length, refl, arith}
use Rattle.std.proofs.lemmas.List.{length-map}
use Rattle.mage_instr.specs.declared.instr.Step.{Step}
use Rattle.mage_instr.specs.declared.instr.TheConstants.{NEVER}
use Rattle.mage_instr.specs.declared.replaced.Replaced.{Replaced}
use Rattle.mage_instr.specs.declared.replaced.Replaced.TheVariants as entry
use Rattle.mage_instr.specs.Trace.{pages_of, IsTrace}
use Rattle.mage_belady.specs.Plan.{Serves}
use Rattle.mage_belady.specs.Rule.{taken, sets_from, sets_of, pages_by_step, ReadsLeast}
use Rattle.mage_sched.specs.Schedule.{jobs_of}

jobs_of-sets_from : (memory : List ℕ) (list : List Replaced) → jobs_of list ≡ length (sets_from memory list)
jobs_of-sets_from memory [] = refl
jobs_of-sets_from memory (entry.Fresh frame page ∷ list) = jobs_of-sets_from (taken frame page memory) list
jobs_of-sets_from memory (entry.Load frame page ∷ list) = jobs_of-sets_from (taken frame page memory) list
jobs_of-sets_from memory (entry.Save frame page ∷ list) = jobs_of-sets_from memory list
jobs_of-sets_from memory (entry.Do job ∷ list) = let rest = jobs_of-sets_from memory list in omega (arith, rest)

length-Serves : (plan trace : List (List ℕ)) (frames : ℕ) → Serves plan trace frames → length plan ≡ length trace
length-Serves [] [] frames h = refl
length-Serves (set ∷ plan) (pages ∷ trace) frames h = let rest = length-Serves plan trace frames h.1 in omega (arith, rest)
length-Serves [] (pages ∷ trace) frames h = absurd h
length-Serves (set ∷ plan) [] frames h = absurd h

-- the instructions of a list can be numbered by 32 bits
pub few_jobs : (list : List Replaced) (trace : List Step) (frames : ℕ) → IsTrace trace → ReadsLeast list (pages_by_step trace) frames → jobs_of list ≤ NEVER
few_jobs list trace frames is least =
    let jobs = jobs_of-sets_from [] list in
    let sets = length-Serves (sets_of list) (pages_by_step trace) frames least.serves in
    let steps = length-map trace pages_of in
    let few = is.count in
    omega (arith, jobs, sets, steps, few)
