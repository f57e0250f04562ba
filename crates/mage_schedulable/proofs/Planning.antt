-- The passes put together: what they make of a worker's instructions carries them.
use Rattle.std.proofs.Common.{◌≡◌, ◌+◌, ℕ, suc, List, [], ◌∷◌, ◌++◌, map, length, Option, Some, None, refl, sym, ◌∙◌, ap, subst, append_assoc}
use Rattle.std.proofs.lemmas.Bool.{eq-eqb}
use Rattle.std.proofs.lemmas.List.{length_push}
use Rattle.mage_instr.specs.declared.instr.Instr.{Instr}
use Rattle.mage_instr.specs.declared.directive.Directive.{Directive}
use Rattle.mage_instr.specs.declared.replaced.Limits.{Limits}
use Rattle.mage_instr.specs.declared.replaced.Replaced.{Replaced}
use Rattle.mage_belady.specs.Rule.{rule_of}
use Rattle.mage_residency.proofs.Carrying.{rule_carries}
use Rattle.mage_residency.proofs.Cutting.{cut_transfers_carry}
use Rattle.mage_residency.proofs.Renaming.{names_dont_matter}
use Rattle.mage_carry.specs.declared.carry.Carry.{Carry}
use Rattle.mage_carry.specs.declared.carry.Carry.TheVariants as carry
use Rattle.mage_carry.specs.Carrying.{break_of, unless_break, store_of, carried_from, carries_of}
use Rattle.mage_sched.specs.Homes.{Homed, homed_of}
use Rattle.mage_sched.specs.Renamed.{AreRenamed}
use Rattle.mage_sched.specs.Plainly.{plainly}
use Rattle.mage_sched.specs.Schedule.{schedule_of}
use Rattle.mage_sched.specs.Turns.{at_rest}
use Rattle.mage_sched.proofs.Own.{schedules_are_plain}
use Rattle.mage_sched.proofs.Planned.{lists_are_scheduled, homes_keep_turns}
use Rattle.mage_schedulable.specs.Planning.{AllCarry, SchedulesCarry, PlansCarry, ProgramsCarry}
use Rattle.mage_schedulable.proofs.Entries.{rule_lists_are_replaced}

pub schedules_carry : SchedulesCarry
schedules_carry limits instrs list rule loose carries =
    let own = schedule_of limits.buffer limits.ahead list in
    let after = (homed_of own).directives in
    let homed = homes_keep_turns limits.buffer own (lists_are_scheduled limits.buffer limits.ahead list rule loose).0.turns in
    let Renamed : List Replaced → Type 0 = λ xs. AreRenamed (λ home. None) xs (plainly at_rest after) in
    let plain = (names_dont_matter limits.frames limits.page instrs list (plainly at_rest after) (subst Renamed (schedules_are_plain limits.buffer limits.ahead list rule loose).1 homed.renamed)).0 carries in
    cut_transfers_carry limits (homed_of own).count instrs after homed.turns homed.below plain

pub plans_carry : PlansCarry
plans_carry limits instrs places trace sound have fits are steps frames loose =
    schedules_carry limits instrs (rule_of limits.frames instrs places trace)
    (rule_lists_are_replaced limits.frames instrs places trace sound steps frames) loose
    (rule_carries limits.frames limits.page instrs places trace sound have fits are steps frames)

-- ---- all workers

abbrev counts_of : List Homed → List ℕ
counts_of parts = map (λ (part : Homed). part.count) parts

abbrev lists_of : List Homed → List (List Directive)
lists_of parts = map (λ (part : Homed). part.directives) parts

store_here : (before : List Homed) (part : Homed) (parts : List Homed) → store_of (counts_of (before ++ part ∷ parts)) (length before) ≡ part.count
store_here [] part parts = refl
store_here (first ∷ before) part parts = store_here before part parts

no_break : (worker : ℕ) (o : Option ℕ) (others : Carry) → o ≡ None → others ≡ carry.Yes → unless_break worker o others ≡ carry.Yes
no_break worker None others e f = f
no_break worker (Some d) others e f = absurd (cc)

-- where the parts of other workers stand before
all_carried : (limits : Limits) (before : List Homed) (workers : List (List Instr)) (parts : List Homed) → AllCarry limits workers parts
    → carried_from limits (counts_of (before ++ parts)) (length before) workers (lists_of parts) ≡ carry.Yes
all_carried limits before [] [] all = refl
all_carried limits before [] (part ∷ parts) all = absurd all
all_carried limits before (instrs ∷ workers) [] all = absurd all
all_carried limits before (instrs ∷ workers) (part ∷ parts) all =
    let stores = counts_of (before ++ part ∷ parts) in
    let here : break_of limits (store_of stores (length before)) instrs part.directives ≡ None =
    ap (λ (store : ℕ). break_of limits store instrs part.directives) (store_here before part parts) ∙ all.0 in
    let rest = all_carried limits (before ++ part ∷ []) workers parts all.1 in
    let one_more : length (before ++ part ∷ []) ≡ length before + 1 = length_push before part in
    no_break (length before) _ _ here
    (ap (λ (k : ℕ). carried_from limits stores k workers (lists_of parts)) (sym one_more)
    ∙ ap (λ (xs : List Homed). carried_from limits (counts_of xs) (length (before ++ part ∷ [])) workers (lists_of parts)) (sym (append_assoc before (part ∷ []) parts)) ∙ rest)

as_many : (limits : Limits) (workers : List (List Instr)) (parts : List Homed) → AllCarry limits workers parts → length workers ≡ length (lists_of parts)
as_many limits [] [] all = refl
as_many limits [] (part ∷ parts) all = absurd all
as_many limits (instrs ∷ workers) [] all = absurd all
as_many limits (instrs ∷ workers) (part ∷ parts) all = ap suc (as_many limits workers parts all.1)

pub programs_carry : ProgramsCarry
unfolding carries_of
programs_carry limits program parts all =
    rw (eq-eqb (length program.workers) (length (lists_of parts)) (as_many limits program.workers parts all)) (all_carried limits [] program.workers parts all)
