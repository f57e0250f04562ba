-- A memory program of the first version, with store pages, is read back from its file.
use Rattle.std.proofs.Common.{◌≡◌, ◌≤◌, ℕ, List, [], ◌∷◌, map, length, refl, ap₂, subst}
use Rattle.std.specs.List.{AllByRecursion}
use Rattle.mage_instr.specs.declared.directive.Directive.{Directive}
use Rattle.mage_instr.specs.declared.directive.Directive.TheVariants as entry
use Rattle.mage_sched.specs.Homes.{Homed, Store, empty_store, store_after, homed_from, homed_of}
use Rattle.mage_accepted.proofs.Directives.{length-homed}
use Rattle.mage_file.specs.Grammar.{most_first_bytes, spelling_first_of}
use Rattle.mage_file.specs.Laws.{IsDirectiveValue}
use Rattle.mage_file.proofs.FileLaws.{reads_back, reads_first_exactly}
use Rattle.mage_file.proofs.LengthLaws.{fits}
use Rattle.mage_rehome.specs.Rehomed.{rehomed_of}
use Rattle.mage_rehome.proofs.Ranges.{rehomed_in_range}
use Rattle.mage_written.specs.Written.{RenamedAreRead}

-- no frame, slot or offset changes
homed_values : (store : Store) (part : List Directive) → AllByRecursion IsDirectiveValue part → AllByRecursion IsDirectiveValue (homed_from store part).directives
homed_values store [] h = tt
homed_values store (entry.Fresh frame page ∷ part) h = (h.0, homed_values (store_after (entry.Fresh frame page) part store) part h.1)
homed_values store (entry.IssueIn slot page ∷ part) h = (h.0, homed_values (store_after (entry.IssueIn slot page) part store) part h.1)
homed_values store (entry.FinishIn slot frame ∷ part) h = (h.0, homed_values (store_after (entry.FinishIn slot frame) part store) part h.1)
homed_values store (entry.IssueOut slot frame page ∷ part) h = (h.0, homed_values (store_after (entry.IssueOut slot frame page) part store) part h.1)
homed_values store (entry.FinishOut slot ∷ part) h = (h.0, homed_values (store_after (entry.FinishOut slot) part store) part h.1)
homed_values store (entry.Do job ∷ part) h = (h.0, homed_values (store_after (entry.Do job) part store) part h.1)

all_homed_values : (parts : List (List Directive)) → AllByRecursion (AllByRecursion IsDirectiveValue) parts
    → AllByRecursion (AllByRecursion IsDirectiveValue) (map (λ (part : Homed). part.directives) (map homed_of parts))
all_homed_values [] h = tt
all_homed_values (part ∷ parts) h = (homed_values empty_store part h.0, all_homed_values parts h.1)

all_as_long : (parts : List (List Directive))
    → map (λ (part : List Directive). length part) (map (λ (part : Homed). part.directives) (map homed_of parts)) ≡ map (λ (part : List Directive). length part) parts
all_as_long [] = refl
all_as_long (part ∷ parts) = ap₂ (λ (n : ℕ) (ns : List ℕ). n ∷ ns) (length-homed empty_store part) (all_as_long parts)

pub renamed_are_read : RenamedAreRead
renamed_are_read bytes old are h none =
    let it = (reads_first_exactly bytes old are).0 h in
    let new = rehomed_of old in
    let fields = rehomed_in_range old it.in_range none in
    let short : length (spelling_first_of old) ≤ most_first_bytes = subst (λ (xs : List ℕ). length xs ≤ most_first_bytes) it.spelled it.short in
    reads_back new fields (all_homed_values old.workers it.value) (fits old new it.in_range short fields.counted (all_as_long old.workers))
